-- One turn of the reader.
use Rattle.std.proofs.Common.{◌≡◌, ℕ, ◌+◌, ◌-◌, ◌<◌, true, false, cond, eqb, List, [], ◌∷◌, length, Some, None, Ok, Err, Option, Result, sym, refl, ap, ◌∙◌, subst, arith, Bor, MatchOption}
use Rattle.std.specs.Option.{ok_or}
use Rattle.std.proofs.lemmas.Bool.Decides.{nat_tests}
use Rattle.std.proofs.lemmas.Bool.{cond-true, cond-false}
use Rattle.faults.specs.declared.Spot.{Spot}
use Rattle.faults.specs.declared.Fault.{Fault}
use Rattle.faults.specs.Faults.{fault, in_line}
use Rattle.cuts.specs.Cuts.{split, front, after, split_rest}
use Rattle.cuts.specs.Fields.{comma, line_end}
use Rattle.cuts.proofs.Cutting.{split_front, front_whole}
use Rattle.hour.specs.Hour.{Hour}
use Rattle.saved_rows.specs.declared.row.Row.{Row}
use Rattle.saved_rows.specs.declared.stage.Stage.{Stage}
use Rattle.saved_rows.specs.Order.{finished}
use Rattle.saved_rows.specs.Running.{Place, place, step, onward, misended, Takes}
use Rattle.saved.specs.Lines.{row_of}
use Rattle.saved.specs.Reading.{unended, read_last, read_from}

-- what follows a line whose row is r
abbrev pub after_row : Place → ℕ → Option (List ℕ) → Row → Result Hour Fault
after_row p n None r = Err (unended n)
after_row p n (Some t) r = onward (in_line n (step p (n - 1) r)) (λ q. read_from q (n + 1) (split line_end t))

abbrev pub in_turn : Place → ℕ → List ℕ → Option (List ℕ) → Result Hour Fault
in_turn p n l o = cond (finished p.stage) (Err (misended n)) (onward (in_line n (row_of (split comma l))) (after_row p n o))

-- a line with its end
pub with_end : (p : Place) (n : ℕ) (l t : List ℕ) → read_from p n (l ∷ split line_end t) ≡ in_turn p n l (Some t)
with_end p n l t =
    subst (λ (x : List (List ℕ)). read_from p n (l ∷ x) ≡ cond (finished p.stage) (Err (misended n)) (onward (in_line n (row_of (split comma l))) (λ r. onward (in_line n (step p (n - 1) r)) (λ q. read_from q (n + 1) x))))
    (sym (split_front line_end t)) refl

pub unroll : (p : Place) (n : ℕ) (s : List ℕ) (o : Option (List ℕ)) → 0 < length s → after line_end s ≡ o → read_from p n (split line_end s) ≡ in_turn p n (front line_end s) o
unroll p n [] o h e = absurd (omega arith)
unroll p n (c ∷ cs) None h e = ap (read_from p n) (split_front line_end (c ∷ cs) ∙ ap (λ x. front line_end (c ∷ cs) ∷ split_rest line_end x) e) ∙ subst (λ (l : List ℕ). read_last p n l ≡ in_turn p n l None) (sym (front_whole line_end c cs e)) refl
unroll p n (c ∷ cs) (Some t) h e = ap (read_from p n) (split_front line_end (c ∷ cs) ∙ ap (λ x. front line_end (c ∷ cs) ∷ split_rest line_end x) e) ∙ with_end p n (front line_end (c ∷ cs)) t

module _ (p : Place) (n : ℕ) (l : List ℕ) (o : Option (List ℕ)) where
  pub turn_done : finished p.stage ≡ true → in_turn p n l o ≡ Err (misended n)
  turn_done d = cond-true _ _ _ d

  pub turn_row_err : finished p.stage ≡ false → (f : Fault) → Err f ≡ in_line n (row_of (split comma l)) → in_turn p n l o ≡ Err f
  turn_row_err d f e = cond-false _ _ _ d ∙ ap (λ x. onward x (after_row p n o)) (sym e)

  pub turn_on : finished p.stage ≡ false → (r : Row) → Ok r ≡ in_line n (row_of (split comma l)) → in_turn p n l o ≡ after_row p n o r
  turn_on d r e = cond-false _ _ _ d ∙ ap (λ x. onward x (after_row p n o)) (sym e)

-- what a cut leaves, as the fault of a missing line end takes it
pub ended_at : (s : List ℕ) (o : Option (Bor (List ℕ))) (e : Fault) (t : Bor (List ℕ)) → Ok t ≡ ok_or o e → MatchOption o (after line_end s ≡ None) (λ u. after line_end s ≡ Some u.now) → after line_end s ≡ Some t.now
ended_at s None e t k h = let z : ◌≡◌ {A = ℕ} 0 1 = cc in absurd (omega arith)
ended_at s (Some u) e t k h = let z : u ≡ t = cc in h ∙ ap (λ (v : Bor (List ℕ)). Some v.now) z

pub unended_at : (s : List ℕ) (o : Option (Bor (List ℕ))) (e f : Fault) → Err f ≡ ok_or o e → MatchOption o (after line_end s ≡ None) (λ u. after line_end s ≡ Some u.now) → (after line_end s ≡ None) × (f ≡ e)
unended_at s None e f k h = (h, cc)
unended_at s (Some u) e f k h = let z : ◌≡◌ {A = ℕ} 0 1 = cc in absurd (omega arith)

-- the same from what the code knows of a turn
module _ (p : Place) (n : ℕ) (s : List ℕ) (some : false ≡ eqb (length s) 0) where
  longer : 0 < length s
  longer = grind (arith, nat_tests)

  pub at_done : (o : Option (List ℕ)) → after line_end s ≡ o → true ≡ finished p.stage → read_from p n (split line_end s) ≡ Err (misended n)
  at_done o e d = unroll p n s o longer e ∙ turn_done p n (front line_end s) o (sym d)

  pub on_err : (o : Option (List ℕ)) (l : List ℕ) (q : Result Row Spot) (f : Fault) → after line_end s ≡ o → false ≡ finished p.stage → l ≡ front line_end s → q ≡ row_of (split comma l) → Err f ≡ in_line n q → read_from p n (split line_end s) ≡ Err f
  on_err o l q f e d h k g = unroll p n s o longer e ∙ turn_row_err p n (front line_end s) o (sym d) f (g ∙ ap (in_line n) (k ∙ ap (λ x. row_of (split comma x)) h))

  pub on_row : (o : Option (List ℕ)) (l : List ℕ) (q : Result Row Spot) (r : Row) → after line_end s ≡ o → false ≡ finished p.stage → l ≡ front line_end s → q ≡ row_of (split comma l) → Ok r ≡ in_line n q → read_from p n (split line_end s) ≡ after_row p n o r
  on_row o l q r e d h k g = unroll p n s o longer e ∙ turn_on p n (front line_end s) o (sym d) r (g ∙ ap (in_line n) (k ∙ ap (λ x. row_of (split comma x)) h))

-- after a step that the code took
module _ (p : Place) (n : ℕ) (t : List ℕ) (r : Row) (b : Hour) where
  pub after_err : (q : Result Stage Spot) (f : Fault) → Takes (step p (n - 1) r) p.hour b q → Err f ≡ in_line n q → after_row p n (Some t) r ≡ Err f
  after_err (Ok s) f h e = let z : ◌≡◌ {A = ℕ} 0 1 = cc in absurd (omega arith)
  after_err (Err d) f h e = let z : f ≡ fault d.why n d.field = cc in ap (λ x. onward (in_line n x) (λ q. read_from q (n + 1) (split line_end t))) h.0 ∙ ap Err (sym z)

  pub after_ok : (q : Result Stage Spot) (s : Stage) → Takes (step p (n - 1) r) p.hour b q → Ok s ≡ in_line n q → after_row p n (Some t) r ≡ read_from (place s b) (n + 1) (split line_end t)
  after_ok (Ok u) s h e = let z : u ≡ s = cc in ap (λ x. onward (in_line n x) (λ q. read_from q (n + 1) (split line_end t))) h ∙ ap (λ x. read_from (place x b) (n + 1) (split line_end t)) z
  after_ok (Err d) s h e = let z : ◌≡◌ {A = ℕ} 0 1 = cc in absurd (omega arith)
