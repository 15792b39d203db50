-- The numbers of a posting that is read against a reference bus.
use Rattle.std.specs.Prelude.{ℕ, cond, ℤ, pos, ◌-ℤ◌}
use Rattle.std.specs.Int.{int_max, int_min}
use Rattle.posting.specs.Limits.{most_number}
use Rattle.posting.specs.Grids.{Grid, inside}

-- the nearest number that a posting may have
abbrev pub held : ℤ → ℤ
held z = int_max (pos 0 -ℤ pos most_number) (int_min z (pos most_number))

abbrev pub relative_number : Grid → ℕ → ℕ → ℕ → ℤ
relative_number below reference bus column = cond (inside bus column) (held (below.at bus column -ℤ below.at reference column)) (pos 0)
