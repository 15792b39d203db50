-- What a weighting weighs, and its weighted factors, stay small in any view.
use Rattle.std.proofs.Common.{ℕ, ◌+◌, ◌<◌, ◌≤◌, pos, ◌*ℤ◌, arith}
use Rattle.posting.specs.Grids.{Within, Grid}
use Rattle.weighting.specs.Sums.{sum_below}
use Rattle.weighting.specs.SumLaws.{sum_more, sum_part}
use Rattle.weighting.specs.Views.{View}
use Rattle.weighting.specs.Meanings.{Meaning}
use Rattle.weighted_sums.specs.Sums.{sum_z}
use Rattle.weighted_sums.proofs.Withins.{weighted_within}

module _ (m : Meaning) (v : View) where
  sums : sum_below (m.weight v) 256 ≤ 2560000
  sums = omega (arith, m.total_is_the_sum v, m.total_is_bounded v)

  pub weight_most : (b : ℕ) → b < 256 → m.weight v b ≤ 2560000
  weight_most b h = omega (arith, sums, sum_more (m.weight v) b, sum_part (m.weight v) (b + 1) 256 (omega arith))

  -- the sum over the first n buses of weight times factor
  pub factors_within : (g : Grid) (k n : ℕ) → n ≤ 256 → Within 5120000000000 (sum_z (λ b. pos (m.weight v b) *ℤ g.at b k) n)
  factors_within g k n h = weighted_within (m.weight v) (λ b. g.at b k) sums (λ b. g.within b k) n h
