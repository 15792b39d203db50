-- Arrays made by `from_fn`, at a closure that stays as it is.
use Rattle.std.proofs.Common.{◌≡◌, ℕ, suc, zero, ◌+◌, ◌<◌, ◌≤◌, List, slice_index_or, sym, subst, ⊎_elim, arith}
use Rattle.std.proofs.lemmas.Bool.{cases_eq}
use Rattle.std.specs.Fn.{Mut, Called}
use Rattle.std.specs.Array.{IsFromFnResult, IsFromFnResultFrom}

module _ {F B : Type 0} (g : Mut F (ℕ × Unit {0}) B) (f : F) (P : ℕ → B → Type 0) (one : (i : ℕ) (y : B) (q : F) → Called g f (i, tt) y q → (q ≡ f) × P i y) where
  made_from : (ys : List B) (i n k : ℕ) (d : B) → IsFromFnResultFrom g f ys i n → i ≤ k → k < i + n → P k (slice_index_or ys k d)
  made_from ys i zero k d from low high = absurd (omega arith)
  made_from ys i (suc n) k d (q, y, is, called, from) low high = ⊎_elim
      (λ (same : k ≡ i). subst (λ (j : ℕ). P j (slice_index_or ys j d)) (sym same) (subst (P i) (sym (is.1 d)) (one i y q called).1))
      (λ (other : k ≡ i → ⊥).
      made_from ys (i + 1) n k d (subst (λ (p : F). IsFromFnResultFrom g p ys (i + 1) n) (one i y q called).0 from) (omega (arith, other)) (omega arith))
      (cases_eq k i)

  -- what holds of each call holds of each element
  pub made_at : (ys : List B) (n k : ℕ) (d : B) → IsFromFnResult g f ys n → k < n → P k (slice_index_or ys k d)
  made_at ys n k d made low = made_from ys 0 n k d made.each (omega arith) (omega arith)
