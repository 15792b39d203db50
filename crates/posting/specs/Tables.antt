-- The numbers of a table.
use Rattle.std.specs.Prelude.{ℕ, ◌+◌, ◌*◌, Bool, cond, ◌&&◌, List, ℤ, pos, ◌-ℤ◌, int_le, Some, None, Option, slice_index_or}
use Rattle.posting.specs.Limits.{buses, most_table_number}
use Rattle.posting.specs.Grids.{inside}

-- where a table has the number of a bus and column, if the grid has it
abbrev pub place : ℕ → ℕ → Option ℕ
place bus column = cond (inside bus column) (Some (column * buses + bus)) None

-- whether a table may have the number
abbrev pub counts : ℤ → Bool
counts z = int_le (pos 0 -ℤ pos most_table_number) z && int_le z (pos most_table_number)

abbrev pub counted : ℤ → ℤ
counted z = cond (counts z) z (pos 0)

abbrev pub table_number : List ℤ → ℕ → ℕ → ℤ
table_number numbers bus column = cond (inside bus column) (counted (slice_index_or numbers (column * buses + bus) (pos 0))) (pos 0)
