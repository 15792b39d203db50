-- The fields of a line, taken one by one.
use Rattle.std.proofs.Common.{◌≡◌, ℕ, Bool, true, false, not, List, [], ◌∷◌, Some, None, Ok, Err, Option, Result, is_some, sym, refl, ap, ◌∙◌, subst, arith, Bor, MatchOption, MatchResult}
use Rattle.std.specs.Bool.{then_some}
use Rattle.std.specs.Option.{ok_or}
use Rattle.faults.specs.declared.Spot.{Spot}
use Rattle.cuts.specs.Cuts.{split, front, after, split_rest}
use Rattle.cuts.specs.Fields.{comma, form_at, letter_of, holding, taking, end, left_in, Stuck, Further, ReadAs, ReadLine}
use Rattle.cuts.proofs.Cutting.{split_front}

-- what a cut leaves
pub left_cut : (t : List ℕ) (p : Bor (List ℕ)) (o : Option (Bor (List ℕ))) → p.now ≡ front comma t → MatchOption o (after comma t ≡ None) (λ u. after comma t ≡ Some u.now) → split comma t ≡ p.now ∷ left_in o
left_cut t p None f h = split_front comma t ∙ ap (λ x. front comma t ∷ split_rest comma x) h ∙ ap (λ l. l ∷ []) (sym f)
left_cut t p (Some u) f h = split_front comma t ∙ ap (λ x. front comma t ∷ split_rest comma x) h ∙ ap (λ l. l ∷ left_in (Some u)) (sym f)

pub further_some : (o : Option (Bor (List ℕ))) (t : Bor (List ℕ)) → o ≡ Some t → Further (left_in o)
further_some o t e = subst (λ x. Further (left_in x)) (sym e) (subst Further (sym (split_front comma t.now)) tt)

-- the end is a fault where something is left
pub none_left : (o : Option (Bor (List ℕ))) (b : Bool) (field : ℕ) (s : Spot) (r : Result (Unit {0}) Spot) → is_some o ≡ not b → s ≡ form_at field → r ≡ ok_or (then_some b (tt {0})) s
    → MatchResult r (λ _. left_in o ≡ []) (λ e. (e ≡ form_at field) × Further (left_in o))
none_left o b field s r some at is = subst (λ r. MatchResult r (λ _. left_in o ≡ []) (λ e. (e ≡ form_at field) × Further (left_in o))) (sym is) (by o b some)
  where
    by : (o : Option (Bor (List ℕ))) (b : Bool) → is_some o ≡ not b → MatchResult (ok_or (then_some b (tt {0})) s) (λ _. left_in o ≡ []) (λ e. (e ≡ form_at field) × Further (left_in o))
    by None true some = refl
    by None false some = absurd (grind arith)
    by (Some t) true some = absurd (grind arith)
    by (Some t) false some = (at, further_some (Some t) t refl)

-- one field more, or none
module _ {X E R : Type 0} (read : List ℕ → Result X E) (f : ℕ) (k : X → List (List ℕ) → Result R Spot) where
  pub take_field : (l m : List (List ℕ)) (p : List ℕ) (x : X) → l ≡ p ∷ m → read p ≡ Ok x → taking read f k l ≡ k x m
  take_field l m p x e h = ap (taking read f k) e ∙ ap (λ y. holding f y (λ z. k z m)) h

  pub stuck_field : (l : List (List ℕ)) → Stuck read l → taking read f k l ≡ Err (form_at f)
  stuck_field [] h = refl
  stuck_field (p ∷ ps) h = ap (λ y. holding f y (λ z. k z ps)) h.1

  -- where a row is read, the field was there and well formed
  held : (p : List ℕ) (ps : List (List ℕ)) (y : Result X E) (row : R) → read p ≡ y → holding f y (λ z. k z ps) ≡ Ok row → (x : X) × (q : List ℕ) × (m : List (List ℕ)) × (p ∷ ps ≡ q ∷ m) × (read q ≡ Ok x) × (k x m ≡ Ok row)
  held p ps (Ok x) row e h = (x, p, ps, refl, e, h)
  held p ps (Err d) row e h = let z : ◌≡◌ {A = ℕ} 0 1 = cc in absurd (omega arith)

  pub taken_field : (l : List (List ℕ)) (row : R) → taking read f k l ≡ Ok row → (x : X) × (p : List ℕ) × (m : List (List ℕ)) × (l ≡ p ∷ m) × (read p ≡ Ok x) × (k x m ≡ Ok row)
  taken_field [] row h = let z : ◌≡◌ {A = ℕ} 0 1 = cc in absurd (omega arith)
  taken_field (p ∷ ps) row h = held p ps (read p) row refl h

module _ {R : Type 0} (f : ℕ) (row : R) where
  pub end_further : (l : List (List ℕ)) → Further l → end f row l ≡ Err (form_at f)
  end_further [] h = absurd h
  end_further (p ∷ ps) h = refl

  pub ended : (l : List (List ℕ)) (row' : R) → end f row l ≡ Ok row' → (l ≡ []) × (row ≡ row')
  ended [] row' h = (refl, cc)
  ended (p ∷ ps) row' h = let z : ◌≡◌ {A = ℕ} 0 1 = cc in absurd (omega arith)

pub only_byte : (p : List ℕ) (b : ℕ) → Some b ≡ letter_of p → p ≡ b ∷ []
only_byte [] b e = let q : ◌≡◌ {A = ℕ} 0 1 = cc in absurd (omega arith)
only_byte (c ∷ []) b e = let q : b ≡ c = cc in ap (λ x. x ∷ []) (sym q)
only_byte (c ∷ d ∷ ds) b e = let q : ◌≡◌ {A = ℕ} 0 1 = cc in absurd (omega arith)

-- a line of the kind that its letter says
module _ {L R : Type 0} (pieces : L → List (List ℕ)) (row of : List (List ℕ) → Result R Spot) (letter : ℕ) (whole rest : List (List ℕ)) (p : List ℕ) where
  of_kind : (r : Result L Spot) → whole ≡ (letter ∷ []) ∷ rest → row whole ≡ of rest → ReadAs pieces letter of rest r → ReadLine pieces row whole r
  of_kind (Ok l) w e h = (h.0 ∙ sym w, (h.1.0, e ∙ h.1.1))
  of_kind (Err d) w e h = e ∙ h

  pub read_kind : (r : Result L Spot) → whole ≡ p ∷ rest → Some letter ≡ letter_of p → row ((letter ∷ []) ∷ rest) ≡ of rest → ReadAs pieces letter of rest r → ReadLine pieces row whole r
  read_kind r w l e h = let q = w ∙ ap (λ x. x ∷ rest) (only_byte p letter l) in of_kind r q (ap row q ∙ e) h
