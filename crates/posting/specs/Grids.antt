-- What a posting means: a grid of whole numbers, by bus and column.
use Rattle.std.specs.Prelude.{◌≡◌, ℕ, ◌≤◌, Bool, ◌&&◌, ◌⊎◌, ℤ, pos, ◌-ℤ◌, ◌≤ℤ◌, nat_lt}
use Rattle.posting.specs.Limits.{buses, columns, most_number, most_table_number}

-- at most that far away from 0
pub record Within (most : ℕ) (z : ℤ) : Type 0 where
  pub low : (pos 0 -ℤ pos most) ≤ℤ z
  pub high : z ≤ℤ pos most

-- whether a grid has such a bus and column
abbrev pub inside : ℕ → ℕ → Bool
inside bus column = nat_lt bus buses && nat_lt column columns

abbrev pub Outside : ℕ → ℕ → Type 0
Outside bus column = (buses ≤ bus) ⊎ (columns ≤ column)

-- the number of each bus and column, with the limit that it keeps and the 0 outside
pub record Grid : Type 0 where
  pub at : ℕ → ℕ → ℤ
  pub within : (bus column : ℕ) → Within most_number (at bus column)
  pub outside : (bus column : ℕ) → Outside bus column → at bus column ≡ pos 0

-- every number of the grid is one that a table may have, so that the difference of any two is a posting's number
abbrev pub Small : Grid → Type 0
Small g = (bus column : ℕ) → Within most_table_number (g.at bus column)

-- every number of a column is one that a table may have
abbrev pub SmallIn : Grid → ℕ → Type 0
SmallIn g column = (bus : ℕ) → Within most_table_number (g.at bus column)
