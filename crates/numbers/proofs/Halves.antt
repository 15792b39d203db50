-- What `half_up` gives: the one nearest number, halves toward the higher.
use Rattle.std.proofs.Common.{◌≡◌, ℕ, zero, suc, ◌*◌, ◌<◌, ◌≤◌, ℤ, pos, negsuc, ◌+ℤ◌, ◌-ℤ◌, ◌*ℤ◌, ◌≤ℤ◌, ◌<ℤ◌, sym, refl, ap, ◌∙◌, mul-le-mul_left, arith, SFits}
use lib.IntN.{*ℤ_comm, zero-*ℤ}
use mir.Syntax.{w128}
use Rattle.std.specs.Int.{int_div_euclid, int_rem_euclid}
use Rattle.std.proofs.lemmas.Int.{ints}
use Rattle.numbers.specs.Rounding.{half_up, Nearest, HalvesRise}
use Rattle.numbers.proofs.Integers as I
use Rattle.numbers.proofs.Floors.{floor, floor_only, parts, rest_low, rest_high}

twice : (r : ℤ) (d : ℕ) → r *ℤ pos (2 * d) ≡ pos 2 *ℤ (r *ℤ pos d)
twice r d = sym (I.mul_assoc r (pos 2) (pos d)) ∙ ap (λ (x : ℤ). x *ℤ pos d) (*ℤ_comm r (pos 2)) ∙ I.mul_assoc (pos 2) r (pos d)

pub half_up_nearest : (n : ℤ) (d : ℕ) → 0 < d → Nearest n d (half_up n d)
unfolding half_up
half_up_nearest n d h =
    let k : 0 < 2 * d = omega arith in
    let f = floor ((pos 2 *ℤ n) +ℤ pos d) (2 * d) k in
    let e = twice (int_div_euclid ((pos 2 *ℤ n) +ℤ pos d) (pos (2 * d))) d in
    record { low = rw e at f.low; high = rw e at f.high }

-- no other number is as near
pub half_up_only : (n : ℤ) (d : ℕ) (r : ℤ) → 0 < d → Nearest n d r → r ≡ half_up n d
unfolding half_up
half_up_only n d r h near =
    let k : 0 < 2 * d = omega arith in
    let e = twice r d in
    floor_only ((pos 2 *ℤ n) +ℤ pos d) (2 * d) r (int_div_euclid ((pos 2 *ℤ n) +ℤ pos d) (pos (2 * d)))
    (record { low = omega (arith, ints, e, near.low); high = omega (arith, ints, e, near.high) })
    (floor ((pos 2 *ℤ n) +ℤ pos d) (2 * d) k)

-- a whole number comes out of a rounding
pub half_up_sub : (n t : ℤ) (d : ℕ) → 0 < d → half_up (n -ℤ (pos d *ℤ t)) d ≡ half_up n d -ℤ t
unfolding half_up
half_up_sub n t d l =
    let k : 0 < 2 * d = omega arith in
    let q = int_div_euclid ((pos 2 *ℤ n) +ℤ pos d) (pos (2 * d)) in
    let f = floor ((pos 2 *ℤ n) +ℤ pos d) (2 * d) k in
    let e : (q -ℤ t) *ℤ pos (2 * d) ≡ (q *ℤ pos (2 * d)) -ℤ (t *ℤ pos (2 * d)) = I.sub_mul q t (pos (2 * d)) in
    let u : t *ℤ pos (2 * d) ≡ pos 2 *ℤ (pos d *ℤ t) = *ℤ_comm t (pos (2 * d)) ∙ I.mul_assoc (pos 2) (pos d) t in
    floor_only ((pos 2 *ℤ (n -ℤ (pos d *ℤ t))) +ℤ pos d) (2 * d) (int_div_euclid ((pos 2 *ℤ (n -ℤ (pos d *ℤ t))) +ℤ pos d) (pos (2 * d))) (q -ℤ t)
    (floor ((pos 2 *ℤ (n -ℤ (pos d *ℤ t))) +ℤ pos d) (2 * d) k)
    (record { low = omega (arith, ints, f.low, e, u, I.mul_sub (pos 2) n (pos d *ℤ t)); high = omega (arith, ints, f.high, e, u, I.mul_sub (pos 2) n (pos d *ℤ t)) })

pub halves_rise : HalvesRise
unfolding half_up
halves_rise = record { minus_half = refl; half = refl; zero_stays = refl }

-- from a quotient and a rest: with less than half of the divisor left, the quotient
pub rest_below : (n : ℤ) (d : ℕ) (q s : ℤ) → n ≡ (q *ℤ pos d) +ℤ s → pos 0 ≤ℤ s → (pos 2 *ℤ s) <ℤ pos d → Nearest n d q
rest_below n d q s e low less = record { low = omega (arith, ints); high = omega (arith, ints) }

-- with half of it or more, the next
pub rest_above : (n : ℤ) (d : ℕ) (q s : ℤ) → n ≡ (q *ℤ pos d) +ℤ s → s <ℤ pos d → pos d ≤ℤ (pos 2 *ℤ s) → Nearest n d (q +ℤ pos 1)
rest_above n d q s e high more =
    let f : (q +ℤ pos 1) *ℤ pos d ≡ (q *ℤ pos d) +ℤ (pos 1 *ℤ pos d) = I.add_mul q (pos 1) (pos d) in
    record { low = omega (arith, ints); high = omega (arith, ints) }

-- the same of the quotient and the rest that the library's division gives
pub below_half : (n : ℤ) (d : ℕ) → 0 < d → (pos 2 *ℤ int_rem_euclid n (pos d)) <ℤ pos d → Nearest n d (int_div_euclid n (pos d))
below_half n d h less = rest_below n d (int_div_euclid n (pos d)) (int_rem_euclid n (pos d)) (parts n d h) (rest_low n d) less

pub above_half : (n : ℤ) (d : ℕ) → 0 < d → pos d ≤ℤ (pos 2 *ℤ int_rem_euclid n (pos d)) → Nearest n d (int_div_euclid n (pos d) +ℤ pos 1)
above_half n d h more = rest_above n d (int_div_euclid n (pos d)) (int_rem_euclid n (pos d)) (parts n d h) (rest_high n d h) more

-- a quotient by 2 or more has room for the next
pub next_fits : (n : ℤ) (d : ℕ) (q s : ℤ) → n ≡ (q *ℤ pos d) +ℤ s → pos 0 ≤ℤ s → 2 ≤ d → SFits w128 n → SFits w128 q → SFits w128 (q +ℤ pos 1)
next_fits n d (pos a) s e low two fits quotient = let m = mul-le-mul_left a two in omega (arith, ints)
next_fits n d (negsuc a) s e low two fits quotient = omega (arith, ints)

-- only by a divisor that is not 0
pub nearest_some : (n : ℤ) (d : ℕ) (r : ℤ) → Nearest n d r → 0 < d
nearest_some n zero r near = absurd (omega (arith, ints, *ℤ_comm r (pos 0), zero-*ℤ r, near.low, near.high))
nearest_some n (suc d) r near = omega arith
