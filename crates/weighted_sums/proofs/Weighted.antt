-- Weighted sums stay small on the way, and a number counts only where there is weight.
use Rattle.std.proofs.Common.{◌≡◌, ℕ, zero, suc, ◌+◌, ◌<◌, ◌≤◌, ℤ, pos, ◌*ℤ◌, sym, ap, ◌∙◌, arith}
use lib.IntN.{zero-*ℤ}
use Rattle.posting.specs.Grids.{Within, Grid}
use Rattle.weighting.specs.Sums.{sum_below}
use Rattle.weighting.specs.SumLaws.{sum_more, sum_part}
use Rattle.weighting.specs.Meanings.{most_total}
use Rattle.weighting.specs.declared.weights.Weights.{Weights}
use Rattle.weighted_sums.specs.Sums.{sum_z}
use Rattle.weighted_sums.specs.Weighted.{weight_in, weighted_sum, most_weighted}
use Rattle.weighted_sums.proofs.Sums.{sum_z_same}
use Rattle.weighted_sums.proofs.Withins.{weighted_within, product_within as any_product}

module _ (w : Weights) where
  small : sum_below (weight_in w) 256 ≤ most_total
  small = omega (arith, w.sum, w.most)

  pub weight_most : (b : ℕ) → b < 256 → weight_in w b ≤ most_total
  weight_most b h = omega (arith, small, sum_more (weight_in w) b, sum_part (weight_in w) (b + 1) 256 (omega arith))

  module _ (g : Grid) (k : ℕ) where
    pub product_within : (b : ℕ) → b < 256 → Within most_weighted (pos (weight_in w b) *ℤ g.at b k)
    product_within b h = any_product (weight_in w) (λ b. g.at b k) small (λ b. g.within b k) b h

    pub sum_within : (n : ℕ) → n ≤ 256 → Within most_weighted (sum_z (λ b. pos (weight_in w b) *ℤ g.at b k) n)
    sum_within n h = weighted_within (weight_in w) (λ b. g.at b k) small (λ b. g.within b k) n h

term_same : (m n : ℕ) (x y : ℤ) → m ≡ n → (0 < m → x ≡ y) → pos m *ℤ x ≡ pos n *ℤ y
term_same zero n x y e h = zero-*ℤ x ∙ sym (zero-*ℤ y) ∙ ap (λ (k : ℕ). pos k *ℤ y) e
term_same (suc m) n x y e h = ap (λ (z : ℤ). pos (suc m) *ℤ z) (h (omega arith)) ∙ ap (λ (k : ℕ). pos k *ℤ y) e

pub weighted_same : (w u : ℕ → ℕ) (p q : Grid) (k : ℕ) → ((b : ℕ) → b < 256 → w b ≡ u b) → ((b : ℕ) → b < 256 → 0 < w b → p.at b k ≡ q.at b k)
    → weighted_sum w p k ≡ weighted_sum u q k
weighted_same w u p q k same here =
    sum_z_same (λ b. pos (w b) *ℤ p.at b k) (λ b. pos (u b) *ℤ q.at b k) 256 (λ b l. term_same (w b) (u b) (p.at b k) (q.at b k) (same b l) (here b l))
