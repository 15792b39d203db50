-- The weighting that a point's price takes.
use Rattle.std.specs.Prelude.{◌≡◌, cond, ℤ, pos, ◌==◌}
use Rattle.weighting.specs.Hubs.{hub_number, hub_total}
use Rattle.weighting.specs.HubLaws.{hub_meaning}
use Rattle.weighting.specs.Meanings.{Meaning}
use Rattle.weighting.specs.Ties.{tie_meaning}
use Rattle.weighting.specs.Views.{View}
use Rattle.weighting.specs.SettlementPoints.{zone_number, tie_bus}
use Rattle.weighting.specs.Zones.{zone_meaning}
use Rattle.weighting.specs.declared.hubs.Hub.{Hub}
use Rattle.weighting.specs.declared.hubs.Hub.TheVariants.{Average}
use Rattle.weighting.specs.declared.points.Kind.{Kind}
use Rattle.weighting.specs.declared.points.Kind.TheVariants as kind
use Rattle.weighting.specs.declared.points.Point.{Point}
use Rattle.weighting.specs.declared.ties.Tie.{Tie}
use Rattle.weighting.specs.declared.zones.Zone.{Zone}

module _ (base : View) where
  -- a hub's own, or the average's where the hub's total in the base case is 0
  abbrev pub hub_takes : Hub → Meaning
  hub_takes h = cond (hub_total h base == 0) (hub_meaning Average) (hub_meaning h)

  -- load zones and ties take their own
  abbrev pub TakenByKind : Kind → ℤ → (Meaning → Type 0) → Type 0
  TakenByKind kind.Hub z Of = (h : Hub) → z ≡ pos (hub_number h) → Of (hub_takes h)
  TakenByKind kind.Zone z Of = (a : Zone) → z ≡ pos (zone_number a) → Of (zone_meaning (zone_number a))
  TakenByKind kind.Tie z Of = (t : Tie) → z ≡ pos (tie_bus t) → Of (tie_meaning (tie_bus t))

  -- something holds of the weighting that the point's price takes; a point that is none takes none
  abbrev pub OfTaken : Point → (Meaning → Type 0) → Type 0
  OfTaken p Of = TakenByKind p.kind p.number Of
