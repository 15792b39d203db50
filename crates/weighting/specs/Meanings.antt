-- The meaning of a weighting: what each bus weighs at each view, the total, and the four laws that every weighting shows.
use Rattle.std.specs.Prelude.{◌≡◌, ℕ, ◌<◌, ◌≤◌, false, List, slice_index}
use Rattle.weighting.specs.Sums.{sum_below}
use Rattle.weighting.specs.Views.{View, Alike}

-- 256 buses of at most 10,000 each
abbrev pub most_total : ℕ
most_total = 2560000

pub record Meaning : Type 0 where
  pub weight : View → ℕ → ℕ
  pub total : View → ℕ
  pub dead_weighs_nothing : (v : View) (b : ℕ) → b < 256 → v.live b ≡ false → weight v b ≡ 0
  pub total_is_the_sum : (v : View) → total v ≡ sum_below (weight v) 256
  pub total_is_bounded : (v : View) → total v ≤ most_total
  pub alike_weigh_the_same : (v u : View) → Alike v u → (b : ℕ) → b < 256 → weight v b ≡ weight u b

-- an answer holds the weights of all buses
abbrev pub WeightsOf : Meaning → View → List ℕ → Type 0
WeightsOf m v r = (b : ℕ) → b < 256 → slice_index r b ≡ m.weight v b
