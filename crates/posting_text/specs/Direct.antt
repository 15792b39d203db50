-- The numbers that a posting text has for each bus and column, whether or not all its lines are right.
use Rattle.std.specs.Prelude.{ℕ, cond, ◌&&◌, List, ℤ, pos, Some, None, Ok, Err, Option, Result, ◌==◌}
use Rattle.std.specs.Result.{result_ok}
use Rattle.std.specs.List.{fold, filter, filter_map, last_or}
use Rattle.faults.specs.declared.Spot.{Spot}
use Rattle.posting_text.specs.declared.entries.Entry.{Entry}
use Rattle.posting_text.specs.Lines.{line_entry}
use Rattle.posting_text.specs.Texts.{lines}

-- the number after one line more: the line's, where it is right and for this bus and column
abbrev pub number_after : ℕ → ℕ → ℤ → Result Entry Spot → ℤ
number_after bus column z (Ok e) = cond (e.bus == bus && e.column == column) e.number z
number_after bus column z (Err s) = z

-- the number of the last such line, and z where there is none
abbrev pub last_number : ℕ → ℕ → ℤ → List (List ℕ) → ℤ
last_number bus column = fold (λ z l. number_after bus column z (line_entry l))

unfoldable pub direct_number : List ℕ → ℕ → ℕ → ℤ
direct_number text bus column = last_number bus column (pos 0) (lines text)

-- the last right line's entry for a bus and column
abbrev pub last_entry : ℕ → ℕ → List (List ℕ) → Option Entry
last_entry bus column ls = last_or None (filter (λ e. e.bus == bus && e.column == column) (filter_map (λ l. result_ok (line_entry l)) ls))

-- its number, and 0 where there is none
abbrev pub number_of : Option Entry → ℤ
number_of None = pos 0
number_of (Some e) = e.number
