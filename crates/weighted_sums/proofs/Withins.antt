-- How far from 0 sums and products of whole numbers are.
use Rattle.std.proofs.Common.{◌≡◌, true, ℕ, zero, suc, ◌+◌, ◌*◌, ◌<◌, ◌≤◌, ℤ, pos, negsuc, ◌+ℤ◌, ◌-ℤ◌, ◌*ℤ◌, ⊎_elim, add-mul, arith}
use Rattle.std.proofs.lemmas.Int.{ints}
use Rattle.std.specs.Prelude.{unsigned_abs}
use Rattle.std.proofs.lemmas.Nat.{mul-le}
use Rattle.std.proofs.lemmas.Bool.{cases_lt, leb-true}
use Rattle.bounds.specs.Bounds.{within}
use Rattle.numbers.specs.Rounding.{Nearest}
use Rattle.posting.specs.Grids.{Within}
use Rattle.weighting.specs.Sums.{sum_below}
use Rattle.weighting.specs.SumLaws.{sum_more, sum_part}
use Rattle.weighted_sums.specs.Sums.{sum_z}

pub within_zero : (h : ℕ) → Within h (pos 0)
within_zero h = record { low = omega (arith, ints); high = omega (arith, ints) }

pub within_more : (h k : ℕ) (z : ℤ) → h ≤ k → Within h z → Within k z
within_more h k z l w = record { low = omega (arith, ints); high = omega (arith, ints) }

pub within_add : (h k : ℕ) (a b : ℤ) → Within h a → Within k b → Within (h + k) (a +ℤ b)
within_add h k a b v w = record { low = omega (arith, ints); high = omega (arith, ints) }

pub within_sub : (h k : ℕ) (a b : ℤ) → Within h a → Within k b → Within (h + k) (a -ℤ b)
within_sub h k a b v w = record { low = omega (arith, ints); high = omega (arith, ints) }

pub within_mul : (h k : ℕ) (a b : ℤ) → Within h a → Within k b → Within (h * k) (a *ℤ b)
within_mul h k (pos a) (pos b) v w = let e = mul-le a b h k (omega (arith, ints)) (omega (arith, ints)) in record { low = omega (arith, ints); high = omega (arith, ints) }
within_mul h k (pos a) (negsuc b) v w = let e = mul-le a (suc b) h k (omega (arith, ints)) (omega (arith, ints)) in record { low = omega (arith, ints); high = omega (arith, ints) }
within_mul h k (negsuc a) (pos b) v w = let e = mul-le (suc a) b h k (omega (arith, ints)) (omega (arith, ints)) in record { low = omega (arith, ints); high = omega (arith, ints) }
within_mul h k (negsuc a) (negsuc b) v w = let e = mul-le (suc a) (suc b) h k (omega (arith, ints)) (omega (arith, ints)) in record { low = omega (arith, ints); high = omega (arith, ints) }

pub within_pos : (n k : ℕ) → n ≤ k → Within k (pos n)
within_pos n k l = record { low = omega (arith, ints); high = omega (arith, ints) }

-- a sum of weight times number, where each number is within m
pub within_sum : (w : ℕ → ℕ) (p : ℕ → ℤ) (m n : ℕ) → ((b : ℕ) → Within m (p b)) → Within (sum_below w n * m) (sum_z (λ b. pos (w b) *ℤ p b) n)
unfolding sum_below sum_z
within_sum w p m zero h = record { low = omega (arith, ints); high = omega (arith, ints) }
within_sum w p m (suc n) h =
    within_more (sum_below w n * m + w n * m) ((sum_below w n + w n) * m) _ (omega (arith, add-mul (sum_below w n) (w n) m))
    (within_add (sum_below w n * m) (w n * m) _ _ (within_sum w p m n h) (within_mul (w n) m (pos (w n)) (p n) (within_pos (w n) (w n) (omega arith)) (h n)))

-- weights that sum to at most 2,560,000, and numbers within 2,000,000
module _ (w : ℕ → ℕ) (p : ℕ → ℤ) (small : sum_below w 256 ≤ 2560000) (within : (b : ℕ) → Within 2000000 (p b)) where
  pub one_weight : (b : ℕ) → b < 256 → w b ≤ 2560000
  one_weight b h = omega (arith, sum_more w b, sum_part w (b + 1) 256 (omega arith))

  pub weighted_within : (n : ℕ) → n ≤ 256 → Within 5120000000000 (sum_z (λ b. pos (w b) *ℤ p b) n)
  weighted_within n h =
      within_more (sum_below w n * 2000000) 5120000000000 (sum_z (λ b. pos (w b) *ℤ p b) n) (omega (arith, sum_part w n 256 h)) (within_sum w p 2000000 n within)

  pub product_within : (b : ℕ) → b < 256 → Within 5120000000000 (pos (w b) *ℤ p b)
  product_within b h =
      within_mul 2560000 2000000 (pos (w b)) (p b) (within_pos (w b) 2560000 (one_weight b h)) (within b)

-- a factor of at least c makes a number c times as large or more
within_factor : (h c d : ℕ) (r : ℤ) → 0 < c → c ≤ d → Within (c * h) (r *ℤ pos d) → Within h r
within_factor h c d r some l w = record { low = omega (arith, ints, small r w); high = omega (arith, ints, small r w) }
  where
    no_more : (a : ℕ) → a * d ≤ c * h → a ≤ h
    no_more a k = ⊎_elim (λ (more : h < a). let e = mul-le (suc h) c a d (omega arith) l in absurd (omega arith)) (λ (less : a ≤ h). less) (cases_lt h a)

    small : (r : ℤ) → Within (c * h) (r *ℤ pos d) → unsigned_abs r ≤ h
    small (pos a) w = no_more a (omega (arith, ints))
    small (negsuc a) w = no_more (suc a) (omega (arith, ints))

-- the whole number nearest to n / d, where d is at least c
pub nearest_within : (h k c d : ℕ) (n r : ℤ) → 0 < c → c ≤ d → Within k n → k + d ≤ c * h → Nearest n d r → Within h r
nearest_within h k c d n r some l w m near =
    within_factor h c d r some l (record { low = omega (arith, ints, near.low, near.high); high = omega (arith, ints, near.low, near.high) })

pub within_by : (z : ℤ) (n : ℕ) → within z n ≡ true → Within n z
within_by (pos a) n h = let e = leb-true a n h in record { low = omega (arith, ints); high = omega (arith, ints) }
within_by (negsuc a) n h = let e = leb-true (suc a) n h in record { low = omega (arith, ints); high = omega (arith, ints) }
