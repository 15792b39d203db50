-- The form of each field of a line, by the line's letter.
use Rattle.std.specs.Prelude.{ℕ, Bool, cond, List, [], ◌∷◌, Some, None, Option, ◌==◌}
use Rattle.cuts.specs.Fields.{letter_of}
use Rattle.cuts.specs.FirstWrong.{is_number, is_status, first_wrong}

-- bus, hub bus, zone, day-ahead status and load, real-time status and load
abbrev pub bus_forms : List (List ℕ → Bool)
bus_forms = is_number ∷ is_number ∷ is_number ∷ is_status ∷ is_number ∷ is_status ∷ is_number ∷ []

-- lambda, or a count
abbrev pub one_number : List (List ℕ → Bool)
one_number = is_number ∷ []

-- constraint and shadow price, or constraint and bus
abbrev pub two_numbers : List (List ℕ → Bool)
two_numbers = is_number ∷ is_number ∷ []

-- run, seconds and two adders
abbrev pub four_numbers : List (List ℕ → Bool)
four_numbers = is_number ∷ is_number ∷ is_number ∷ is_number ∷ []

-- behind the letters B, L, C, O, R and Z
abbrev pub forms_of : ℕ → Option (List (List ℕ → Bool))
forms_of b =
    cond (b == 66) (Some bus_forms) (
    cond (b == 76) (Some one_number) (
    cond (b == 67) (Some two_numbers) (
    cond (b == 79) (Some two_numbers) (
    cond (b == 82) (Some four_numbers) (
    cond (b == 90) (Some one_number) (
    None))))))

abbrev pub wrong_behind : Option (List (List ℕ → Bool)) → List (List ℕ) → Option ℕ
wrong_behind None ps = Some 1
wrong_behind (Some forms) ps = first_wrong 2 forms ps

abbrev pub wrong_after : Option ℕ → List (List ℕ) → Option ℕ
wrong_after None ps = Some 1
wrong_after (Some b) ps = wrong_behind (forms_of b) ps

-- the first wrong, missing or surplus field of a line, whose first is its letter
abbrev pub wrong_field : List (List ℕ) → Option ℕ
wrong_field [] = Some 1
wrong_field (p ∷ ps) = wrong_after (letter_of p) ps
