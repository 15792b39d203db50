-- The lines of a posting text, and its first fault.
use Rattle.std.specs.Prelude.{ℕ, ◌+◌, List, [], ◌∷◌, Some, None, Ok, Err, Option, Result}
use Rattle.faults.specs.declared.Spot.{Spot}
use Rattle.faults.specs.declared.Fault.{Fault}
use Rattle.faults.specs.declared.Why.TheVariants.{Form}
use Rattle.faults.specs.Faults.{spot, fault, in_line}
use Rattle.cuts.specs.Cuts.{front, after, split}
use Rattle.posting_text.specs.Lines.{line_numbers, line_entry, and_then}
use Rattle.cuts.specs.Fields.{line_end}

-- the pieces that a line end follows: all but the last
abbrev pub ended : List (List ℕ) → List (List ℕ)
ended [] = []
ended (l ∷ []) = []
ended (l ∷ m ∷ ls) = l ∷ ended (m ∷ ls)

-- the complete lines of a text
unfoldable pub lines : List ℕ → List (List ℕ)
lines text = ended (split line_end text)

-- what follows the last line end: nothing, or a line whose end is missing
abbrev pub check_last : ℕ → List ℕ → Result ℕ Fault
check_last n [] = Ok n
check_last n (b ∷ bs) = and_then (in_line (n + 1) (line_numbers (b ∷ bs))) (λ _. Err (fault Form (n + 1) 0))

-- the pieces between line ends, of which n lines stand before
abbrev pub check_from : ℕ → List (List ℕ) → Result ℕ Fault
check_from n [] = Ok n
check_from n (l ∷ []) = check_last n l
check_from n (l ∷ m ∷ ls) = and_then (in_line (n + 1) (line_entry l)) (λ _. check_from (n + 1) (m ∷ ls))

-- how many lines a text has, or its first fault
unfoldable pub checking : List ℕ → Result ℕ Fault
checking text = check_from 0 (split line_end text)

-- a line and what stands behind its end, if that is there: its form, its end, and then its values
abbrev pub passing : List ℕ → Option (List ℕ) → Result (List ℕ) Spot
passing line None = and_then (line_numbers line) (λ _. Err (spot Form 0))
passing line (Some rest) = and_then (line_entry line) (λ _. Ok rest)

-- what stands behind the first line of a text, which has to be right
unfoldable pub past_line : List ℕ → Result (List ℕ) Spot
past_line text = passing (front line_end text) (after line_end text)
