-- The floor of m / k, by inequalities: there is one, and no other.
use Rattle.std.proofs.Common.{◌≡◌, ℕ, suc, ◌+◌, ◌-◌, ◌/◌, ◌<◌, ℤ, pos, negsuc, ◌+ℤ◌, ◌*ℤ◌, ◌≤ℤ◌, ◌<ℤ◌, ap, ◌∙◌, suc-mul, arith}
use borrow.Author.Differences.{up, down}
use Rattle.std.specs.Int.{int_div_euclid, int_rem_euclid}
use Rattle.std.proofs.lemmas.Int.{ints, by_lt_z}
use Rattle.std.proofs.lemmas.Nat.{div-add-mod', mod_below}
use Rattle.numbers.proofs.Integers.{add_mul}

-- q ≤ m / k < q + 1
pub record Floor (m : ℤ) (k : ℕ) (q : ℤ) : Type 0 where
  pub low : (q *ℤ pos k) ≤ℤ m
  pub high : m <ℤ ((q *ℤ pos k) +ℤ pos k)

pub floor : (m : ℤ) (k : ℕ) → 0 < k → Floor m k (int_div_euclid m (pos k))
floor (pos a) k h = record { low = omega (arith, ints, div-add-mod' a k); high = omega (arith, ints, div-add-mod' a k, mod_below a k h) }
floor (negsuc a) k h = record { low = omega (arith, ints, suc-mul (a / k) k, div-add-mod' a k, mod_below a k h); high = omega (arith, ints, suc-mul (a / k) k, div-add-mod' a k, mod_below a k h) }

-- a number is its quotient times the divisor, and the rest
pub parts : (m : ℤ) (k : ℕ) → 0 < k → m ≡ (int_div_euclid m (pos k) *ℤ pos k) +ℤ int_rem_euclid m (pos k)
parts (pos a) k h = omega (arith, ints, div-add-mod' a k)
parts (negsuc a) k h = omega (arith, ints, suc-mul (a / k) k, div-add-mod' a k, mod_below a k h)

pub rest_low : (m : ℤ) (k : ℕ) → pos 0 ≤ℤ int_rem_euclid m (pos k)
rest_low (pos a) k = omega (arith, ints)
rest_low (negsuc a) k = omega (arith, ints)

pub rest_high : (m : ℤ) (k : ℕ) → 0 < k → int_rem_euclid m (pos k) <ℤ pos k
rest_high (pos a) k h = omega (arith, ints, mod_below a k h)
rest_high (negsuc a) k h = omega (arith, ints)

apart : (a b : ℤ) → a <ℤ b → (m : ℕ) × (b ≡ a +ℤ pos (suc m))
apart a b l = (up b + down a - up a - down b - 1, omega (arith, ints))

gap : (a b : ℤ) (k : ℕ) → a <ℤ b → ((a *ℤ pos k) +ℤ pos k) ≤ℤ (b *ℤ pos k)
gap a b k l =
    let m = (apart a b l).0 in
    let e : b *ℤ pos k ≡ (a *ℤ pos k) +ℤ (pos (suc m) *ℤ pos k) = ap (λ (x : ℤ). x *ℤ pos k) (apart a b l).1 ∙ add_mul a (pos (suc m)) (pos k) in
    omega (arith, ints, e, suc-mul m k)

pub floor_only : (m : ℤ) (k : ℕ) (q r : ℤ) → Floor m k q → Floor m k r → q ≡ r
floor_only m k q r f g =
    by_lt_z q r (λ l. absurd (omega (arith, ints, gap q r k l)))
    (λ l. by_lt_z r q (λ j. absurd (omega (arith, ints, gap r q k j))) (λ j. omega (arith, ints)))
