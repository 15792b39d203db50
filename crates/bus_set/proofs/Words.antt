-- Bits of words, and the ones of a word.
use Rattle.std.proofs.Common.{◌≡◌, ℕ, zero, suc, ◌+◌, ◌-◌, ◌/◌, ◌%◌, ◌^◌, ◌<◌, Bool, false, cond, not, ◌&&◌, ◌||◌, eqb, sym, refl, ap, ◌∙◌, pow-suc, one-add, arith, shr-shr}
use lib.Bits.{bit_and, bit_or}
use lib.Count.{ones, ones_step, ones_in}
use Rattle.std.proofs.lemmas.Nat.{and_shr, or_shr, and_mod, or_mod, mod_below}
use Rattle.std.proofs.lemmas.Bool.{ne_eqb}
use Rattle.std.proofs.lemmas.Bool.Decides.{nat_tests}
use Rattle.bus_set.specs.Sets.{bit, count_below}
use Rattle.bus_set.proofs.Counts.{count_same, count_add}

pub bit_low : (w : ℕ) → bit w 0 ≡ eqb (w % 2) 1
unfolding bit
bit_low w = let e : w / 1 ≡ w = omega arith in ap (λ (x : ℕ). eqb (x % 2) 1) e

pub bit_up : (w k : ℕ) → bit w (suc k) ≡ bit (w / 2) k
unfolding bit
bit_up w k = ap (λ (x : ℕ). eqb (x % 2) 1) (ap (λ (j : ℕ). w / 2 ^ j) (sym (one-add k)) ∙ sym (shr-shr w 1 k))

and_digit : (x y : ℕ) → x < 2 → y < 2 → eqb (bit_and x y) 1 ≡ (eqb x 1 && eqb y 1)
and_digit zero zero p q = refl
and_digit zero (suc zero) p q = refl
and_digit (suc zero) zero p q = refl
and_digit (suc zero) (suc zero) p q = refl
and_digit zero (suc (suc y)) p q = absurd (omega arith)
and_digit (suc zero) (suc (suc y)) p q = absurd (omega arith)
and_digit (suc (suc x)) y p q = absurd (omega arith)

or_digit : (x y : ℕ) → x < 2 → y < 2 → eqb (bit_or x y) 1 ≡ (eqb x 1 || eqb y 1)
or_digit zero zero p q = refl
or_digit zero (suc zero) p q = refl
or_digit (suc zero) zero p q = refl
or_digit (suc zero) (suc zero) p q = refl
or_digit zero (suc (suc y)) p q = absurd (omega arith)
or_digit (suc zero) (suc (suc y)) p q = absurd (omega arith)
or_digit (suc (suc x)) y p q = absurd (omega arith)

pub bit_of_and : (a b k : ℕ) → bit (bit_and a b) k ≡ (bit a k && bit b k)
unfolding bit
bit_of_and a b k =
    let x = a / 2 ^ k in
    let y = b / 2 ^ k in
    ap (λ (n : ℕ). eqb (n % 2) 1) (and_shr a b k) ∙ ap (λ (n : ℕ). eqb n 1) (and_mod x y 1)
    ∙ and_digit (x % 2) (y % 2) (mod_below x 2 (omega arith)) (mod_below y 2 (omega arith))

pub bit_of_or : (a b k : ℕ) → bit (bit_or a b) k ≡ (bit a k || bit b k)
unfolding bit
bit_of_or a b k =
    let x = a / 2 ^ k in
    let y = b / 2 ^ k in
    ap (λ (n : ℕ). eqb (n % 2) 1) (or_shr a b k) ∙ ap (λ (n : ℕ). eqb n 1) (or_mod x y 1)
    ∙ or_digit (x % 2) (y % 2) (mod_below x 2 (omega arith)) (mod_below y 2 (omega arith))

pub bit_none : (k : ℕ) → bit 0 k ≡ false
bit_none zero = bit_low 0
bit_none (suc k) = bit_up 0 k ∙ bit_none k

eqb_suc : (j k : ℕ) → eqb (suc j) (suc k) ≡ eqb j k
eqb_suc j k = grind (arith, nat_tests)

pub bit_pow : (j k : ℕ) → bit (2 ^ k) j ≡ eqb j k
bit_pow zero zero = bit_low 1
bit_pow zero (suc k) =
    let e : 2 ^ suc k % 2 ≡ 0 = omega (arith, pow-suc 2 k) in
    bit_low (2 ^ suc k) ∙ ap (λ (x : ℕ). eqb x 1) e ∙ sym (ne_eqb 0 (suc k) (λ z. omega arith))
bit_pow (suc j) zero = bit_up 1 j ∙ bit_none j ∙ sym (ne_eqb (suc j) 0 (λ z. omega arith))
bit_pow (suc j) (suc k) =
    let e : 2 ^ suc k / 2 ≡ 2 ^ k = omega (arith, pow-suc 2 k) in
    bit_up (2 ^ suc k) j ∙ ap (λ (x : ℕ). bit x j) e ∙ bit_pow j k ∙ sym (eqb_suc j k)

not_digit : (x y : ℕ) → x + y ≡ 1 → eqb x 1 ≡ not (eqb y 1)
not_digit zero zero h = absurd (omega arith)
not_digit zero (suc zero) h = refl
not_digit (suc zero) zero h = refl
not_digit zero (suc (suc y)) h = absurd (omega arith)
not_digit (suc zero) (suc y) h = absurd (omega arith)
not_digit (suc (suc x)) y h = absurd (omega arith)

pub bit_not : (n k a : ℕ) → a < 2 ^ n → k < n → bit (2 ^ n - 1 - a) k ≡ not (bit a k)
bit_not zero k a h l = absurd (omega arith)
bit_not (suc n) zero a h l =
    let e = pow-suc 2 n in
    let d : (2 ^ suc n - 1 - a) % 2 + a % 2 ≡ 1 = omega arith in
    bit_low (2 ^ suc n - 1 - a) ∙ not_digit ((2 ^ suc n - 1 - a) % 2) (a % 2) d ∙ ap not (sym (bit_low a))
bit_not (suc n) (suc k) a h l =
    let e = pow-suc 2 n in
    let d : (2 ^ suc n - 1 - a) / 2 ≡ 2 ^ n - 1 - a / 2 = omega arith in
    bit_up (2 ^ suc n - 1 - a) k ∙ ap (λ (x : ℕ). bit x k) d ∙ bit_not n k (a / 2) (omega arith) (omega arith) ∙ ap not (sym (bit_up a k))

digit_one : (x : ℕ) → x < 2 → cond (eqb x 1) 1 0 ≡ x
digit_one zero h = refl
digit_one (suc zero) h = refl
digit_one (suc (suc x)) h = absurd (omega arith)

pub count_none : (p : ℕ → Bool) → count_below p 0 ≡ 0
unfolding count_below
count_none p = refl

count_one : (p : ℕ → Bool) → count_below p 1 ≡ cond (p 0) 1 0
unfolding count_below
count_one p = omega arith

-- the ones of a word are its set bits
pub ones_count : (n w : ℕ) → w < 2 ^ n → ones w ≡ count_below (bit w) n
unfolding count_below ones ones_in
ones_count zero w h = let e : w ≡ 0 = omega arith in ap ones e
ones_count (suc n) w h =
    let e = pow-suc 2 n in
    let rest = ones_count n (w / 2) (omega arith) in
    let low : cond (bit w 0) 1 0 ≡ w % 2 = ap (λ (b : Bool). cond b 1 0) (bit_low w) ∙ digit_one (w % 2) (mod_below w 2 (omega arith)) in
    let first = count_add (bit w) 1 n in
    let up : count_below (λ i. bit w (1 + i)) n ≡ count_below (bit (w / 2)) n =
    count_same (λ i. bit w (1 + i)) (bit (w / 2)) n (λ i l. ap (bit w) (one-add i) ∙ bit_up w i)
    in
    let whole : count_below (bit w) (suc n) ≡ count_below (bit w) (1 + n) = ap (count_below (bit w)) (sym (one-add n)) in
    let one = count_one (bit w) in
    omega (arith, ones_step w, rest, low, first, up, whole, one)
