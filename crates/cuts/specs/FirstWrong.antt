-- The first wrong, missing or surplus field of a line, by the form that each field has to have.
use Rattle.std.specs.Prelude.{◌≡◌, ℕ, ◌+◌, Bool, cond, List, [], ◌∷◌, is_ok, Some, None, Option, Result, MatchResult}
use Rattle.decimals.specs.Decimals.{decimal_of}
use Rattle.faults.specs.declared.Spot.{Spot}
use Rattle.cuts.specs.Fields.{form_at, status_of}

abbrev pub is_number : List ℕ → Bool
is_number p = is_ok (decimal_of p)

abbrev pub is_status : List ℕ → Bool
is_status p = is_ok (status_of p)

-- the number of the first field that is not as it should be, where the first piece is field n
abbrev pub first_wrong : ℕ → List (List ℕ → Bool) → List (List ℕ) → Option ℕ
first_wrong n [] [] = None
first_wrong n [] (p ∷ ps) = Some n
first_wrong n (form ∷ forms) [] = Some n
first_wrong n (form ∷ forms) (p ∷ ps) = cond (form p) (first_wrong (n + 1) forms ps) (Some n)

-- a fault is of form, and at that field; without one there is none
abbrev pub Located : {R : Type 0} → Option ℕ → Result R Spot → Type 0
Located wrong r = MatchResult r (λ _. wrong ≡ None) (λ s. (s ≡ form_at s.field) × (wrong ≡ Some s.field))

-- a reader of pieces, the first of which is field n, faults where the forms say
abbrev pub Locates : {R : Type 0} → ℕ → List (List ℕ → Bool) → (List (List ℕ) → Result R Spot) → Type 0
Locates n forms of = (ps : List (List ℕ)) → Located (first_wrong n forms ps) (of ps)
