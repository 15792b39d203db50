-- Fields that are taken one by one fault at the first wrong one.
use Rattle.std.proofs.Common.{ℕ, ◌+◌, Bool, cond, List, [], ◌∷◌, is_ok, Some, Ok, Err, Result, refl}
use Rattle.faults.specs.declared.Spot.{Spot}
use Rattle.cuts.specs.Fields.{holding, taking, end}
use Rattle.cuts.specs.FirstWrong.{first_wrong, Located, Locates}

pub end_locates : {R : Type 0} (n : ℕ) (row : R) → Locates n [] (end n row)
end_locates n row [] = refl
end_locates n row (p ∷ ps) = (refl, refl)

module _ {X E R : Type 0} (read : List ℕ → Result X E) (n : ℕ) (forms : List (List ℕ → Bool)) (k : X → List (List ℕ) → Result R Spot) (later : (x : X) → Locates (n + 1) forms (k x)) where
  piece_locates : (ps : List (List ℕ)) (y : Result X E) → Located (cond (is_ok y) (first_wrong (n + 1) forms ps) (Some n)) (holding n y (λ x. k x ps))
  piece_locates ps (Ok x) = later x ps
  piece_locates ps (Err e) = (refl, refl)

  pub field_locates : Locates n ((λ p. is_ok (read p)) ∷ forms) (taking read n k)
  field_locates [] = (refl, refl)
  field_locates (p ∷ ps) = piece_locates ps (read p)
