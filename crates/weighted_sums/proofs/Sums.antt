-- Laws of sums of whole numbers.
use Rattle.std.proofs.Common.{◌≡◌, ℕ, zero, suc, ◌+◌, ◌<◌, ℤ, pos, ◌+ℤ◌, ◌-ℤ◌, refl, add-one, arith}
use Rattle.std.proofs.lemmas.Int.{ints}
use Rattle.weighted_sums.specs.Sums.{sum_z}

pub sum_z_none : (f : ℕ → ℤ) → sum_z f 0 ≡ pos 0
unfolding sum_z
sum_z_none f = refl

pub sum_z_more : (f : ℕ → ℤ) (n : ℕ) → sum_z f (n + 1) ≡ sum_z f n +ℤ f n
unfolding sum_z
sum_z_more f n = rw add-one refl

pub sum_z_same : (f g : ℕ → ℤ) (n : ℕ) → ((b : ℕ) → b < n → f b ≡ g b) → sum_z f n ≡ sum_z g n
unfolding sum_z
sum_z_same f g zero h = refl
sum_z_same f g (suc n) h = omega (arith, ints, sum_z_same f g n (λ b l. h b (omega arith)), h n (omega arith))

pub sum_z_sub : (f g : ℕ → ℤ) (n : ℕ) → sum_z (λ b. f b -ℤ g b) n ≡ sum_z f n -ℤ sum_z g n
unfolding sum_z
sum_z_sub f g zero = refl
sum_z_sub f g (suc n) = omega (arith, ints, sum_z_sub f g n)
