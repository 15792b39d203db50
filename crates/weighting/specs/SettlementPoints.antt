-- The points that there are: their kinds and numbers, and their weightings.
use Rattle.std.specs.Prelude.{◌≡◌, ℕ, ℤ, pos, Result, MatchResult, ◌≢◌}
use Rattle.refusals.specs.declared.Refusal.{Refusal}
use Rattle.refusals.specs.declared.Refusal.TheVariants.{PointOutside}
use Rattle.weighting.specs.Meanings.{Meaning}
use Rattle.weighting.specs.Hubs.{hub_number}
use Rattle.weighting.specs.HubLaws.{hub_meaning}
use Rattle.weighting.specs.Zones.{zone_meaning}
use Rattle.weighting.specs.Ties.{tie_meaning}
use Rattle.weighting.specs.declared.points.Kind.{Kind}
use Rattle.weighting.specs.declared.points.Kind.TheVariants as kind
use Rattle.weighting.specs.declared.points.Point.{Point}
use Rattle.weighting.specs.declared.points.SettlementPoint.{SettlementPoint}
use Rattle.weighting.specs.declared.points.SettlementPoint.TheVariants as point
use Rattle.weighting.specs.declared.zones.Zone.{Zone}
use Rattle.weighting.specs.declared.ties.Tie.{Tie}

abbrev pub zone_number : Zone → ℕ
zone_number z = z.number

abbrev pub tie_bus : Tie → ℕ
tie_bus t = t.bus

-- the point as someone names it
abbrev pub point_name : SettlementPoint → Point
point_name (point.Hub h) = record { kind = kind.Hub; number = pos (hub_number h) }
point_name (point.Zone z) = record { kind = kind.Zone; number = pos (zone_number z) }
point_name (point.Tie t) = record { kind = kind.Tie; number = pos (tie_bus t) }

abbrev pub point_meaning : SettlementPoint → Meaning
point_meaning (point.Hub h) = hub_meaning h
point_meaning (point.Zone z) = zone_meaning (zone_number z)
point_meaning (point.Tie t) = tie_meaning (tie_bus t)

-- the point that has the name, or the refusal where none has it
abbrev pub PointNamed : Point → Result SettlementPoint Refusal → Type 0
PointNamed p r = MatchResult r (λ s. p ≡ point_name s) (λ e. ((s : SettlementPoint) → p ≢ point_name s) × (e ≡ PointOutside))

-- something holds of the one that has the number; where none has it, something else does
abbrev pub OfNumber : {T : Type 0} → (T → ℕ) → (T → Type 0) → Type 0 → ℤ → Type 0
OfNumber {T} number_of Of Otherwise z = ((t : T) → z ≡ pos (number_of t) → Of t) × (((t : T) → z ≢ pos (number_of t)) → Otherwise)

module _ (Of : SettlementPoint → Type 0) (Otherwise : Type 0) where
  abbrev pub OfKind : Kind → ℤ → Type 0
  OfKind kind.Hub = OfNumber hub_number (λ h. Of (point.Hub h)) Otherwise
  OfKind kind.Zone = OfNumber zone_number (λ z. Of (point.Zone z)) Otherwise
  OfKind kind.Tie = OfNumber tie_bus (λ t. Of (point.Tie t)) Otherwise

  -- the same of the point that has the name
  abbrev pub OfPoint : Point → Type 0
  OfPoint p = OfKind p.kind p.number
