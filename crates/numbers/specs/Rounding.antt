-- Division to a whole number, with halves toward the higher one.
use Rattle.std.specs.Prelude.{◌≡◌, ℕ, ◌*◌, ℤ, pos, negsuc, ◌+ℤ◌, ◌*ℤ◌, ◌≤ℤ◌, ◌<ℤ◌}
use Rattle.std.specs.Int.{int_div_euclid}

-- the floor of n / d + 1/2
unfoldable pub half_up : ℤ → ℕ → ℤ
half_up n d = int_div_euclid ((pos 2 *ℤ n) +ℤ pos d) (pos (2 * d))

-- r - 1/2 ≤ n / d < r + 1/2, over whole numbers
pub record Nearest (n : ℤ) (d : ℕ) (r : ℤ) : Type 0 where
  pub low : (pos 2 *ℤ (r *ℤ pos d)) ≤ℤ ((pos 2 *ℤ n) +ℤ pos d)
  pub high : ((pos 2 *ℤ n) +ℤ pos d) <ℤ ((pos 2 *ℤ (r *ℤ pos d)) +ℤ pos (2 * d))

-- minus one half rises to 0, one half to 1, and 0 stays
pub record HalvesRise : Type 0 where
  pub minus_half : half_up (negsuc 0) 2 ≡ pos 0
  pub half : half_up (pos 1) 2 ≡ pos 1
  pub zero_stays : half_up (pos 0) 1 ≡ pos 0
