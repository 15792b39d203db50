-- Laws of sums over the numbers below n.
use Rattle.std.specs.Prelude.{◌≡◌, ℕ, zero, suc, ◌+◌, ◌*◌, ◌<◌, ◌≤◌, Bool, true, false, cond, ◌≢◌, refl}
use Rattle.std.proofs.Common.{sym, ap, ap₂, ◌∙◌, ⊎_elim, arith, add-mul, zero-mul, one-mul, add-one}
use Rattle.std.proofs.lemmas.Bool.{cases_eq, cases_lt}
use Rattle.bus_set.specs.Sets.{count_below}
use Rattle.weighting.specs.Sums.{sum_below}

pub sum_none : (f : ℕ → ℕ) → sum_below f 0 ≡ 0
unfolding sum_below
sum_none f = refl

pub sum_more : (f : ℕ → ℕ) (n : ℕ) → sum_below f (n + 1) ≡ sum_below f n + f n
unfolding sum_below
sum_more f n = ap (sum_below f) (add-one n)

pub sum_part : (f : ℕ → ℕ) (m n : ℕ) → m ≤ n → sum_below f m ≤ sum_below f n
unfolding sum_below
sum_part f m zero l = let e : m ≡ 0 = omega arith in omega (arith, ap (sum_below f) e)
sum_part f m (suc n) l = ⊎_elim
    (λ (same : m ≡ suc n). omega (arith, ap (sum_below f) same))
    (λ (other : m ≡ suc n → ⊥). ⊎_elim
    (λ (less : m < suc n). omega (arith, sum_part f m n (omega arith)))
    (λ (past : suc n ≤ m). absurd (other (omega arith)))
    (cases_lt m (suc n)))
    (cases_eq m (suc n))

pub sum_same : (f g : ℕ → ℕ) (n : ℕ) → ((i : ℕ) → i < n → f i ≡ g i) → sum_below f n ≡ sum_below g n
unfolding sum_below
sum_same f g zero h = refl
sum_same f g (suc n) h = ap₂ (λ (a b : ℕ). a + b) (sum_same f g n (λ i l. h i (omega arith))) (h n (omega arith))

pub sum_zeros : (f : ℕ → ℕ) (n : ℕ) → ((i : ℕ) → i < n → f i ≡ 0) → sum_below f n ≡ 0
unfolding sum_below
sum_zeros f zero h = refl
sum_zeros f (suc n) h = omega (arith, sum_zeros f n (λ i l. h i (omega arith)), h n (omega arith))

pub sum_most : (f : ℕ → ℕ) (m n : ℕ) → ((i : ℕ) → i < n → f i ≤ m) → sum_below f n ≤ n * m
unfolding sum_below
sum_most f m zero h = omega (arith, zero-mul m)
sum_most f m (suc n) h = omega (arith, sum_most f m n (λ i l. h i (omega arith)), h n (omega arith), add-mul n 1 m, ap (λ (k : ℕ). k * m) (add-one n), one-mul m)

-- one number only
pub sum_pick : (f : ℕ → ℕ) (t n : ℕ) → t < n → ((k : ℕ) → k < n → (k ≢ t) → f k ≡ 0) → sum_below f n ≡ f t
unfolding sum_below
sum_pick f t zero l h = absurd (omega arith)
sum_pick f t (suc n) l h = ⊎_elim
    (λ (e : t ≡ n). omega (arith, sum_zeros f n (λ k lk. h k (omega arith) (λ z. omega arith)), ap f e))
    (λ (ne : t ≡ n → ⊥). omega (arith, sum_pick f t n (omega arith) (λ k lk nk. h k (omega arith) nk), h n (omega arith) (λ z. ne (sym z))))
    (cases_eq t n)

pub sum_add : (f g : ℕ → ℕ) (n : ℕ) → sum_below (λ i. f i + g i) n ≡ sum_below f n + sum_below g n
unfolding sum_below
sum_add f g zero = refl
sum_add f g (suc n) = omega (arith, sum_add f g n)

pub sum_swap : (f : ℕ → ℕ → ℕ) (m n : ℕ) → sum_below (λ i. sum_below (f i) m) n ≡ sum_below (λ k. sum_below (λ i. f i k) n) m
unfolding sum_below
sum_swap f m zero = sym (sum_zeros (λ k. 0) m (λ i l. refl))
sum_swap f m (suc n) =
    ap (λ (x : ℕ). x + sum_below (f n) m) (sum_swap f m n) ∙ sym (sum_add (λ k. sum_below (λ i. f i k) n) (f n) m)

cond_times : (b : Bool) (x : ℕ) → cond b x 0 ≡ cond b 1 0 * x
cond_times true x = sym (one-mul x)
cond_times false x = sym (zero-mul x)

-- the same number wherever a test passes
pub sum_times : (p : ℕ → Bool) (x n : ℕ) → sum_below (λ i. cond (p i) x 0) n ≡ count_below p n * x
unfolding sum_below count_below
sum_times p x zero = sym (zero-mul x)
sum_times p x (suc n) =
    ap₂ (λ (a b : ℕ). a + b) (sum_times p x n) (cond_times (p n) x) ∙ sym (add-mul (count_below p n) (cond (p n) 1 0) x)
