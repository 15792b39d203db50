-- Counts of the numbers below n that pass a test.
use Rattle.std.proofs.Common.{◌≡◌, ℕ, zero, suc, ◌+◌, ◌<◌, ◌≤◌, Bool, true, false, cond, List, length, get_or, take, count_by, sym, refl, ap, ◌∙◌, subst, ap₂, ⊎_elim, add-zero, add_assoc, add-suc, add-one, arith}
use Rattle.std.proofs.lemmas.List.{take_all}
use Rattle.std.proofs.lemmas.List.Sums.{sum_by_more}
use Rattle.std.proofs.lemmas.Bool.{cases_eq, cond-true}
use Rattle.bus_set.specs.Sets.{count_below}

pub count_same : (p q : ℕ → Bool) (n : ℕ) → ((i : ℕ) → i < n → p i ≡ q i) → count_below p n ≡ count_below q n
unfolding count_below
count_same p q zero h = refl
count_same p q (suc n) h =
    ap₂ (λ (a b : ℕ). a + b) (count_same p q n (λ i l. h i (omega arith))) (ap (λ (b : Bool). cond b 1 0) (h n (omega arith)))

pub count_add : (p : ℕ → Bool) (m n : ℕ) → count_below p (m + n) ≡ count_below p m + count_below (λ i. p (m + i)) n
unfolding count_below
count_add p m zero = ap (count_below p) (add-zero m) ∙ sym (add-zero (count_below p m))
count_add p m (suc n) =
    ap (count_below p) (add-suc m n) ∙ ap (λ (x : ℕ). x + cond (p (m + n)) 1 0) (count_add p m n)
    ∙ add_assoc (count_below p m) (count_below (λ i. p (m + i)) n) (cond (p (m + n)) 1 0)

cond_le : (a b : Bool) → (a ≡ true → b ≡ true) → cond a 1 0 ≤ cond b 1 0
cond_le true true h = omega arith
cond_le true false h = let e : ◌≡◌ {A = ℕ} 0 1 = ap (λ (x : Bool). cond x 1 0) (h refl) in omega arith
cond_le false true h = omega arith
cond_le false false h = omega arith

pub count_le : (p q : ℕ → Bool) (n : ℕ) → ((i : ℕ) → i < n → p i ≡ true → q i ≡ true) → count_below p n ≤ count_below q n
unfolding count_below
count_le p q zero h = omega arith
count_le p q (suc n) h =
    omega (arith, count_le p q n (λ i l e. h i (omega arith) e), cond_le (p n) (q n) (h n (omega arith)))

pub count_some : (p : ℕ → Bool) (n i : ℕ) → i < n → p i ≡ true → 1 ≤ count_below p n
unfolding count_below
count_some p zero i l e = omega arith
count_some p (suc n) i l e = ⊎_elim
    (λ (same : i ≡ n). omega (arith, cond-true {A = ℕ} (p n) 1 0 (subst (λ (k : ℕ). p k ≡ true) same e)))
    (λ (ne : i ≡ n → ⊥). omega (arith, count_some p n i (omega arith) e))
    (cases_eq i n)

-- a count over the places of a list is a count over its elements
count_take : {A : Type 0} (p : A → Bool) (xs : List A) (d : A) (n : ℕ) → n ≤ length xs → count_below (λ i. p (get_or xs i d)) n ≡ count_by p (take n xs)
unfolding count_below
count_take p xs d zero l = refl
count_take p xs d (suc n) l =
    let m = sum_by_more (λ x. cond (p x) 1 0) xs n d (omega arith) in
    ap (λ (x : ℕ). x + cond (p (get_or xs n d)) 1 0) (count_take p xs d n (omega arith)) ∙ sym m ∙ ap (λ (k : ℕ). count_by p (take k xs)) (add-one n)

pub count_list : {A : Type 0} (p : A → Bool) (xs : List A) (d : A) (n : ℕ) → length xs ≡ n → count_below (λ i. p (get_or xs i d)) n ≡ count_by p xs
count_list p xs d n e = count_take p xs d n (omega arith) ∙ ap (count_by p) (take_all n xs (omega arith))
