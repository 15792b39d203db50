-- Sums over the buses of weight times posted number.
use Rattle.std.specs.Prelude.{ℕ, ℤ, pos, ◌*ℤ◌, slice_index}
use Rattle.posting.specs.Grids.{Grid}
use Rattle.weighting.specs.declared.weights.Weights.{Weights}
use Rattle.weighted_sums.specs.Sums.{sum_z}

-- the sum over the buses of weight times the number posted in column k
abbrev pub weighted_sum : (ℕ → ℕ) → Grid → ℕ → ℤ
weighted_sum weight posted k = sum_z (λ b. pos (weight b) *ℤ posted.at b k) 256

-- a total weight of 2,560,000, numbers of 2,000,000
abbrev pub most_weighted : ℕ
most_weighted = 5120000000000

abbrev pub weight_in : Weights → ℕ → ℕ
weight_in w b = slice_index w.weights b
