-- A line faults at its first wrong, missing or surplus field.
use Rattle.std.proofs.Common.{ℕ, Bool, true, false, cond, eqb, List, [], ◌∷◌, ℤ, Some, None, Ok, Err, Option, Result, refl, subst}
use Rattle.faults.specs.declared.Spot.{Spot}
use Rattle.decimals.specs.Decimals.{decimal_of}
use Rattle.cuts.specs.Fields.{status_of, letter_of, ReadLine}
use Rattle.cuts.specs.FirstWrong.{Located, Locates, is_number, is_status, first_wrong}
use Rattle.cuts.proofs.Locating.{end_locates, field_locates}
use Rattle.saved_rows.specs.declared.row.Row.{Row}
use Rattle.saved_rows.specs.declared.row.Row.TheVariants as row
use Rattle.saved.specs.Lines.{bus_of, of_one, of_two, run_of, by_first, row_of, pieces}
use Rattle.saved.specs.declared.line.Line.{Line}
use Rattle.saved.specs.Forms.{bus_forms, one_number, two_numbers, four_numbers, wrong_behind, wrong_after, wrong_field}

bus_locates : Locates 2 bus_forms bus_of
bus_locates = field_locates decimal_of 2 (is_number ∷ is_number ∷ is_status ∷ is_number ∷ is_status ∷ is_number ∷ []) _ (λ x0. field_locates decimal_of 3 (is_number ∷ is_status ∷ is_number ∷ is_status ∷ is_number ∷ []) _ (λ x1. field_locates decimal_of 4 (is_status ∷ is_number ∷ is_status ∷ is_number ∷ []) _ (λ x2. field_locates status_of 5 (is_number ∷ is_status ∷ is_number ∷ []) _ (λ x3. field_locates decimal_of 6 (is_status ∷ is_number ∷ []) _ (λ x4. field_locates status_of 7 (is_number ∷ []) _ (λ x5. field_locates decimal_of 8 ([]) _ (λ x6. end_locates 9 _)))))))

one_locates : (make : ℤ → Row) → Locates 2 one_number (of_one make)
one_locates make = field_locates decimal_of 2 ([]) _ (λ x0. end_locates 3 _)

two_locates : (make : ℤ → ℤ → Row) → Locates 2 two_numbers (of_two make)
two_locates make = field_locates decimal_of 2 (is_number ∷ []) _ (λ x0. field_locates decimal_of 3 ([]) _ (λ x1. end_locates 4 _))

run_locates : Locates 2 four_numbers run_of
run_locates = field_locates decimal_of 2 (is_number ∷ is_number ∷ is_number ∷ []) _ (λ x0. field_locates decimal_of 3 (is_number ∷ is_number ∷ []) _ (λ x1. field_locates decimal_of 4 (is_number ∷ []) _ (λ x2. field_locates decimal_of 5 ([]) _ (λ x3. end_locates 6 _))))

-- one case of the choice by letter
choice : (t : Bool) (forms : List (List ℕ → Bool)) (others : Option (List (List ℕ → Bool))) (ps : List (List ℕ)) (x y : Result Row Spot) → Located (first_wrong 2 forms ps) x → Located (wrong_behind others ps) y → Located (wrong_behind (cond t (Some forms) others) ps) (cond t x y)
choice true forms others ps x y h k = h
choice false forms others ps x y h k = k

by_letter_of : (o : Option ℕ) (ps : List (List ℕ)) → Located (wrong_after o ps) (by_first o ps)
by_letter_of None ps = (refl, refl)
by_letter_of (Some b) ps =
    choice (eqb b 66) bus_forms _ ps _ _ (bus_locates ps) (choice (eqb b 76) one_number _ ps _ _ (one_locates row.Lambda ps) (choice (eqb b 67) two_numbers _ ps _ _ (two_locates row.Constraint ps) (
    choice (eqb b 79) two_numbers _ ps _ _ (two_locates row.Outage ps) (choice (eqb b 82) four_numbers _ ps _ _ (run_locates ps) (choice (eqb b 90) one_number _ ps _ _ (one_locates row.End ps) (refl, refl))))))

pub line_located : (ps : List (List ℕ)) → Located (wrong_field ps) (row_of ps)
line_located [] = (refl, refl)
line_located (p ∷ ps) = by_letter_of (letter_of p) ps

-- the same of the line that was read
pub read_located : (ps : List (List ℕ)) (r : Result Line Spot) → ReadLine pieces row_of ps r → Located (wrong_field ps) r
read_located ps (Ok l) h = subst (Located (wrong_field ps)) h.1.1 (line_located ps)
read_located ps (Err e) h = subst (Located (wrong_field ps)) h (line_located ps)
