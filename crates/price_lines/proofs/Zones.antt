-- Which zones have a bus.
use Rattle.std.proofs.Common.{◌≡◌, ℕ, zero, suc, ◌<◌, ◌≤◌, Bool, true, false, ◌||◌, nat_eq, List, length, get_or, take, sym, refl, ap, ◌∙◌, ⊎_elim, add-one, arith}
use Rattle.std.specs.List.{list_any}
use Rattle.std.proofs.lemmas.Bool.{cases_lt}
use Rattle.std.proofs.lemmas.List.{take_all}
use Rattle.std.proofs.lemmas.List.Folds.{list_any_more}
use Rattle.hour.specs.Hour.{no_bus}
use Rattle.hour.specs.declared.records.Bus.{Bus}
use Rattle.price_lines.specs.Lines.{any_below}

or_true : (a b : Bool) → b ≡ true → a || b ≡ true
or_true true b e = refl
or_true false b e = e

or_here : (a b : Bool) → a ≡ true → a || b ≡ true
or_here true b e = refl
or_here false b e = let z : ◌≡◌ {A = ℕ} 0 1 = cc in absurd (omega arith)

pub some_here : (test : ℕ → Bool) (n i : ℕ) → i < n → test i ≡ true → any_below test n ≡ true
unfolding any_below
some_here test zero i low here = absurd (omega arith)
some_here test (suc n) i low here =
    ⊎_elim
    (λ l. or_true (test n) (any_below test n) (some_here test n i l here))
    (λ h. let at : i ≡ n = omega arith in or_here (test n) (any_below test n) (ap test (sym at) ∙ here))
    (cases_lt i n)

-- here, or below
here_or_below : (test : ℕ → Bool) (n : ℕ) (t below : Bool) → test n ≡ t → (below ≡ true → (i : ℕ) × (i < n) × (test i ≡ true)) → t || below ≡ true → (i : ℕ) × (i < suc n) × (test i ≡ true)
here_or_below test n true below here rest e = (n, omega arith, here)
here_or_below test n false below here rest e = let at = rest e in (at.0, omega (arith, at.1), at.2)

pub some_where : (test : ℕ → Bool) (n : ℕ) → any_below test n ≡ true → (i : ℕ) × (i < n) × (test i ≡ true)
unfolding any_below
some_where test zero e = let z : ◌≡◌ {A = ℕ} 0 1 = cc in absurd (omega arith)
some_where test (suc n) e = here_or_below test n (test n) (any_below test n) refl (some_where test n) e

or_swap : (a b : Bool) → (a || b) ≡ (b || a)
or_swap true true = refl
or_swap true false = refl
or_swap false true = refl
or_swap false false = refl

-- the tests at the entries of a list
any_front : {X : Type 0} (p : X → Bool) (xs : List X) (d : X) (n : ℕ) → n ≤ length xs → list_any p (take n xs) ≡ any_below (λ i. p (get_or xs i d)) n
unfolding any_below
any_front p xs d zero inside = refl
any_front p xs d (suc n) inside =
    ap (λ k. list_any p (take k xs)) (sym (add-one n))
    ∙ list_any_more p xs n d (omega arith)
    ∙ or_swap (list_any p (take n xs)) (p (get_or xs n d))
    ∙ ap (λ t. p (get_or xs n d) || t) (any_front p xs d n (omega arith))

pub some_bus : (buses : List Bus) (zone : ℕ) → length buses ≡ 256 → list_any (λ (b : Bus). nat_eq b.zone zone) buses ≡ any_below (λ i. nat_eq (get_or buses i no_bus).zone zone) 256
some_bus buses zone size =
    ap (list_any (λ (b : Bus). nat_eq b.zone zone)) (sym (take_all 256 buses (omega arith)))
    ∙ any_front (λ (b : Bus). nat_eq b.zone zone) buses no_bus 256 (omega arith)
