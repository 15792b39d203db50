-- A posting line F,bus,column,value: its numbers, and the entry that it posts.
use Rattle.std.specs.Prelude.{ℕ, cond, List, [], ◌∷◌, Some, None, Ok, Err, Option, Result, ◌==◌}
use Rattle.faults.specs.declared.Spot.{Spot}
use Rattle.cuts.specs.Cuts.{split}
use Rattle.cuts.specs.Fields.{comma, form_at, letter_of, number, end}
use Rattle.posting_text.specs.declared.entries.Numbers.{Numbers}
use Rattle.posting_text.specs.declared.entries.Entry.{Entry}
use Rattle.posting_text.specs.Entries.{entry_of}

-- the letter F
abbrev pub letter : ℕ
letter = 70

-- the numbers in the fields behind the letter
abbrev pub after_letter : List (List ℕ) → Result Numbers Spot
after_letter = number 2 (λ bus. number 3 (λ column. number 4 (λ value. end 5 (record { bus = bus; column = column; value = value }))))

abbrev pub by_letter : Option ℕ → List (List ℕ) → Result Numbers Spot
by_letter None ps = Err (form_at 1)
by_letter (Some b) ps = cond (b == letter) (after_letter ps) (Err (form_at 1))

-- the numbers in a line's fields
abbrev pub numbers_of : List (List ℕ) → Result Numbers Spot
numbers_of [] = Err (form_at 1)
numbers_of (p ∷ ps) = by_letter (letter_of p) ps

unfoldable pub line_numbers : List ℕ → Result Numbers Spot
line_numbers line = numbers_of (split comma line)

-- one after the other, until the first error
abbrev pub and_then : {X Y E : Type 0} → Result X E → (X → Result Y E) → Result Y E
and_then (Ok x) k = k x
and_then (Err e) k = Err e

-- the form of all fields first, and then their values
unfoldable pub line_entry : List ℕ → Result Entry Spot
line_entry line = and_then (line_numbers line) entry_of
