-- The size of a posting's grid, and the limits of its numbers.
use Rattle.std.specs.Prelude.{ℕ, ◌*◌}

-- buses 0 to 255
abbrev pub buses : ℕ
buses = 256

-- columns 0 to 31: constraints day-ahead, runs real-time
abbrev pub columns : ℕ
columns = 32

-- of a table: one for each bus and column
abbrev pub places : ℕ
places = columns * buses

-- of any posting, millionths or cents, either way from 0
abbrev pub most_number : ℕ
most_number = 2000000

-- of a table, either way from 0
abbrev pub most_table_number : ℕ
most_table_number = 1000000
