-- Lines that are taken one after another, and a table read entry by entry.
use Rattle.std.proofs.Common.{◌≡◌, ℕ, suc, ◌+◌, ◌-◌, ◌<◌, Bool, true, false, cond, List, [], ◌∷◌, ◌++◌, length, set, Some, None, Ok, Option, Result, sym, refl, ap, ◌∙◌, subst, append_assoc, add-zero, arith}
use Rattle.std.proofs.lemmas.List.{length-append, length-set}
use Rattle.std.proofs.lemmas.Bool.{cond-true, cond-false, and_parts}
use Rattle.faults.specs.declared.Spot.{Spot}
use Rattle.faults.specs.Faults.{in_line}
use Rattle.hour.specs.Hour.{Hour}
use Rattle.hour.specs.Sound.{all_by}
use Rattle.saved_rows.specs.declared.row.Row.{Row}
use Rattle.saved_rows.specs.declared.stage.Kind.{Kind}
use Rattle.saved_rows.specs.declared.stage.Kind.TheVariants as kind
use Rattle.saved_rows.specs.declared.stage.Stage.{Stage}
use Rattle.saved_rows.specs.Order.{may_follow, behind, kind_of, blank_row, in_order, next, is_end, finished}
use Rattle.saved_rows.specs.Entering.{enter}
use Rattle.saved_rows.specs.Rows.{indexed}
use Rattle.saved_rows.specs.Running.{Place, place, step, step_by, onward, run_rows}
use Rattle.saved_rows.proofs.Tables.{From, from_later, from_set, set_from, same_set}

-- the lines rs lead from p to q
abbrev pub Runs : Place → List Row → Place → Type 0
Runs p rs q = (n : ℕ) (rest : List Row) → run_rows p n (rs ++ rest) ≡ run_rows q (n + length rs) rest

pub runs_none : (p : Place) → Runs p [] p
runs_none p n rest = ap (λ (m : ℕ). run_rows p m rest) (sym (add-zero n))

pub runs_append : (p q r : Place) (xs ys : List Row) → Runs p xs q → Runs q ys r → Runs p (xs ++ ys) r
runs_append p q r xs ys f g n rest =
    let e : n + length xs + length ys ≡ n + length (xs ++ ys) = omega (arith, length-append xs ys) in
    ap (run_rows p n) (append_assoc xs ys rest) ∙ f n (ys ++ rest) ∙ g (n + length xs) rest ∙ ap (λ (m : ℕ). run_rows r m rest) e

runs_step : (p q : Place) (r : Row) → finished p.stage ≡ false → ((n : ℕ) → step p n r ≡ Ok q) → Runs p (r ∷ []) q
runs_step p q r d h n rest = cond-false _ _ _ d ∙ ap (λ (x : Result Place Spot). onward (in_line n x) (λ q. run_rows q (n + 1) rest)) (h (n - 1))

pub no_true : {X : Type 0} → false ≡ true → X
no_true e = let z : ◌≡◌ {A = ℕ} 0 1 = ap (λ (b : Bool). cond b 1 0) e in absurd (omega arith)

-- nothing may follow the last line
pub going : (s : Option Kind) (k : Kind) → may_follow s k ≡ true → is_end s ≡ false
going (Some kind.End) (kind.Bus i) e = no_true e
going (Some kind.End) kind.Lambda e = no_true e
going (Some kind.End) (kind.Constraint i) e = no_true e
going (Some kind.End) (kind.Outage i b) e = no_true e
going (Some kind.End) (kind.Run i) e = no_true e
going (Some kind.End) kind.End e = no_true e
going s k e = refl

-- one line that may come, and is entered
pub runs_one : (s : Stage) (h h' : Hour) (r : Row) → blank_row r ≡ false → may_follow s.last (kind_of r) ≡ true → ((n : ℕ) → enter h n r ≡ Ok h') → Runs (place s h) (r ∷ []) (place (behind (kind_of r)) h')
runs_one s h h' r full after said =
    let order : next s r ≡ Ok (behind (kind_of r)) = cond-false (blank_row r) _ _ full ∙ ap in_order (cond-true (may_follow s.last (kind_of r)) (Some (behind (kind_of r))) None after) in
    runs_step (place s h) (place (behind (kind_of r)) h') r (going s.last (kind_of r) after) (λ n i. step_by (order i) (said n i))

-- a table is read entry by entry, where a rule that holds of a table holds of its front
module _ {A : Type 0} (f : ℕ → A → List Row) (d : A) (good : A → Bool) (mk : List A → Hour) (Q : ℕ → Option Kind → Type 0) (N : ℕ) (Rule : List A → Type 0)
    (front : (xs t : List A) (k : ℕ) → length t ≡ k + length xs → From d t k → Rule (set_from t k xs) → Rule t)
    (entry : (t : List A) (k : ℕ) (x : A) (s : Stage) → k < N → length t ≡ N → good x ≡ true → Rule (set t k x) → Q k s.last → From d t k → (u : Stage) × Q (suc k) u.last × Runs (place s (mk t)) (f k x) (place u (mk (set t k x)))) where
  pub table : (xs t : List A) (k : ℕ) (s : Stage) → k + length xs ≡ N → length t ≡ N → all_by good xs ≡ true → Rule (set_from t k xs) → Q k s.last → From d t k
      → (u : Stage) × Q N u.last × Runs (place s (mk t)) (indexed f k xs) (place u (mk (set_from t k xs)))
  table [] t k s e l g rule q h = (s, subst (λ (m : ℕ). Q m s.last) (sym (add-zero k) ∙ e) q, runs_none (place s (mk t)))
  table (x ∷ xs) t k s e l g rule q h =
      let p = and_parts (good x) (all_by good xs) g in
      let later = from_set d x t k (from_later d t k (suc k) (omega arith) h) in
      let here = front xs (set t k x) (suc k) (length-set t k x ∙ l ∙ sym e ∙ omega arith) later rule in
      let a = entry t k x s (omega arith) l p.0 here q h in
      let b = table xs (set t k x) (suc k) a.0 (omega arith) (length-set t k x ∙ l) p.1 rule a.1 later in
      (b.0, b.1, runs_append (place s (mk t)) (place a.0 (mk (set t k x))) (place b.0 (mk (set_from (set t k x) (suc k) xs))) (f k x) (indexed f (suc k) xs) a.2 b.2)

-- an entry that is blank changes nothing
pub runs_blank : {A : Type 0} (mk : List A → Hour) (d x : A) (t : List A) (k : ℕ) (s : Stage) (rs : List Row) → rs ≡ [] → x ≡ d → From d t k → Runs (place s (mk t)) rs (place s (mk (set t k x)))
runs_blank mk d x t k s rs e q h =
    subst (λ (l : List Row). Runs (place s (mk t)) l (place s (mk (set t k x)))) (sym e)
    (subst (λ (y : List _). Runs (place s (mk t)) [] (place s (mk y))) (sym (same_set d x t k q h)) (runs_none (place s (mk t))))
