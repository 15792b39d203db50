-- The price of a point that someone names by kind and number.
use Rattle.std.specs.Prelude.{◌≡◌, ℤ, Err, Result}
use Rattle.refusals.specs.declared.Refusal.{Refusal}
use Rattle.refusals.specs.declared.Refusal.TheVariants.{PointOutside}
use Rattle.weighting.specs.HubLaws.{hub_meaning}
use Rattle.weighting.specs.Meanings.{Meaning}
use Rattle.weighting.specs.SettlementPoints.{point_meaning, OfPoint}
use Rattle.weighting.specs.declared.hubs.Hub.{Hub}
use Rattle.weighting.specs.declared.hubs.Hub.TheVariants.{Average}
use Rattle.weighting.specs.declared.points.Point.{Point}
use Rattle.weighting.specs.declared.points.SettlementPoint.{SettlementPoint}
use Rattle.weighting.specs.declared.points.SettlementPoint.TheVariants as point
use Rattle.pricing.specs.Origins.{Priced, own_price, hub_price}

module _ (price : Meaning → Result ℤ Refusal) where
  abbrev pub hub_priced : Hub → Priced
  hub_priced h = hub_price (price (hub_meaning h)) (price (hub_meaning Average))

  abbrev pub point_priced : SettlementPoint → Priced
  point_priced (point.Hub h) = hub_priced h
  point_priced (point.Zone z) = own_price (price (point_meaning (point.Zone z)))
  point_priced (point.Tie t) = own_price (price (point_meaning (point.Tie t)))

  -- the price of the point that has the kind and number; where none has them, the question is refused
  abbrev pub PricedAt : Point → Priced → Type 0
  PricedAt p r = OfPoint (λ s. r ≡ point_priced s) (r ≡ Err PointOutside) p
