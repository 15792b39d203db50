-- A table written from a posting text.
use Rattle.std.specs.Prelude.{◌≡◌, ℕ, ◌+◌, ◌*◌, ◌/◌, ◌%◌, ◌<◌, cond, List, [], ◌∷◌, length, drop, ℤ, pos, Ok, Err, Result, nat_le, slice_index_or, slice_set}
use Rattle.faults.specs.declared.Spot.{Spot}
use Rattle.faults.specs.declared.Fault.{Fault}
use Rattle.faults.specs.declared.Why.TheVariants.{Short}
use Rattle.faults.specs.Faults.{fault}
use Rattle.posting.specs.Limits.{buses, places}
use Rattle.posting.specs.Meanings.{table_grid}
use Rattle.posting_text.specs.declared.entries.Entry.{Entry}
use Rattle.posting_text.specs.Lines.{line_entry}
use Rattle.posting_text.specs.Texts.{checking}
use Rattle.posting_text.specs.Direct.{direct_number}
use Rattle.posting_text.specs.Meanings.{direct_grid}

-- the table after one line more: the line's number at its place, where the line is right
abbrev pub table_after : List ℤ → Result Entry Spot → List ℤ
table_after table (Ok e) = slice_set table (e.column * buses + e.bus) e.number
table_after table (Err s) = table

abbrev pub table_from : List ℤ → List (List ℕ) → List ℤ
table_from table [] = table
table_from table (l ∷ ls) = table_from (table_after table (line_entry l)) ls

-- a table of 8,192 entries and more, and then a text in order
abbrev pub granting : List ℕ → List ℤ → Result ℕ Fault
granting text table = cond (nat_le places (length table)) (checking text) (Err (fault Short 0 0))

-- what a fill makes of the table before it
pub record Filled (text : List ℕ) (before after : List ℤ) : Type 0 where
  -- each place has the number of its bus and column
  pub each_place : (k : ℕ) → k < places → slice_index_or after k (pos 0) ≡ direct_number text (k % buses) (k / buses)
  -- and later entries stay
  pub later_entries : drop places after ≡ drop places before
  pub same_length : length after ≡ length before
  -- the table and the direct posting of the text have the same meaning
  pub same_meaning : (bus column : ℕ) → (table_grid after).at bus column ≡ (direct_grid text).at bus column
