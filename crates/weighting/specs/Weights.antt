-- The weights of all buses in a case beside their total.
use Rattle.std.specs.Prelude.{◌≡◌}
use Rattle.weighting.specs.Views.{View, Alike}
use Rattle.weighting.specs.Meanings.{Meaning, WeightsOf}
use Rattle.weighting.specs.declared.weights.Weights.{Weights}

-- what a weighting gives in a case, and in every case alike
pub record Weighs (m : Meaning) (v : View) (w : Weights) : Type 0 where
  pub weights : (u : View) → Alike v u → WeightsOf m u w.weights
  pub total : (u : View) → Alike v u → w.total ≡ m.total u
