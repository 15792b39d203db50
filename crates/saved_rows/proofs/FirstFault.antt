-- The fault of lines that are not taken is their first.
use Rattle.std.proofs.Common.{◌≡◌, ℕ, ◌+◌, ◌-◌, Bool, true, false, cond, List, [], ◌∷◌, ◌++◌, length, Ok, Err, Result, sym, refl, ap, ◌∙◌, subst, inl, inr, arith}
use Rattle.faults.specs.declared.Spot.{Spot}
use Rattle.faults.specs.declared.Fault.{Fault}
use Rattle.faults.specs.Faults.{fault, in_line}
use Rattle.saved_rows.specs.Order.{finished}
use Rattle.saved_rows.specs.Running.{Place, begin, step, onward, run_rows, misended}
use Rattle.saved_rows.specs.Laws.{reached, Wrong, FirstFault}
use Rattle.saved_rows.specs.declared.row.Row.{Row}
use Rattle.saved_rows.proofs.OnlySaved.{never}

pub same_err : {A E : Type 0} (d e : E) → ◌≡◌ {A = Result A E} (Err d) (Err e) → e ≡ d
same_err d e p = cc

-- from any place on, n lines before the first
abbrev From : Place → ℕ → List Row → Fault → Type 0
From p n rs f = (good : List Row) × (rest : List Row) × (at : Place) × (rs ≡ good ++ rest) × (reached p n good ≡ Ok at) × Wrong at (n + length good) rest f

here : (p : Place) (n : ℕ) (rs : List Row) (f : Fault) → Wrong p n rs f → From p n rs f
here p n rs f w = ([], rs, p, refl, refl, subst (λ (m : ℕ). Wrong p m rs f) (omega arith) w)

ends : (p : Place) (n : ℕ) (f : Fault) (t : Bool) → finished p.stage ≡ t → cond t (Ok p.hour) (Err (misended (n + 1))) ≡ Err f → From p n [] f
ends p n f true is e = never p.hour f (sym e)
ends p n f false is e = here p n [] f (is, same_err (misended (n + 1)) f e)

goes : (p : Place) (n : ℕ) (r : Row) (rs : List Row) (f : Fault) (t : Bool) (x : Result Place Spot) → ((q : Place) → run_rows q (n + 1 + 1) rs ≡ Err f → From q (n + 1) rs f)
    → finished p.stage ≡ t → step p n r ≡ x → cond t (Err (misended (n + 1))) (onward (in_line (n + 1) x) (λ q. run_rows q (n + 1 + 1) rs)) ≡ Err f → From p n (r ∷ rs) f
goes p n r rs f true x again is said e = here p n (r ∷ rs) f (inl (is, same_err (misended (n + 1)) f e))
goes p n r rs f false (Err s) again is said e = here p n (r ∷ rs) f (inr (is, s, said, same_err (fault s.why (n + 1) s.field) f e))
goes p n r rs f false (Ok q) again is said e =
    let w = again q e in
    let count : n + 1 + length w.0 ≡ n + length (r ∷ w.0) = omega arith in
    (r ∷ w.0, w.1, w.2, ap (λ (l : List Row). r ∷ l) w.3, ap (λ (y : Result Place Spot). onward y (λ q. reached q (n + 1) w.0)) said ∙ w.4, subst (λ (m : ℕ). Wrong w.2 m w.1 f) count w.5)

fault_from : (rs : List Row) (p : Place) (n : ℕ) (f : Fault) → run_rows p (n + 1) rs ≡ Err f → From p n rs f
fault_from [] p n f e = ends p n f (finished p.stage) refl e
fault_from (r ∷ rs) p n f e =
    let before : n + 1 - 1 ≡ n = omega arith in
    goes p n r rs f (finished p.stage) (step p n r) (λ q. fault_from rs q (n + 1) f) refl refl
    (sym (ap (λ (m : ℕ). cond (finished p.stage) (Err (misended (n + 1))) (onward (in_line (n + 1) (step p m r)) (λ q. run_rows q (n + 1 + 1) rs))) before) ∙ e)

pub first_fault : FirstFault
first_fault rs f e =
    let w = fault_from rs begin 0 f e in
    let count : 0 + length w.0 ≡ length w.0 = omega arith in
    record { good = w.0; rest = w.1; parts = w.3; at = w.2; taken = w.4; wrong = subst (λ (m : ℕ). Wrong w.2 m w.1 f) count w.5 }
