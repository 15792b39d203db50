-- What holds of the point that has a name.
use Rattle.std.proofs.Common.{◌≡◌, ℕ, ◌≤◌, ℤ, pos, cond, eqb, sym, ap, ap₂, refl, ◌∙◌, subst, ◌≢◌}
use Rattle.std.proofs.Math.Bridge.{le_prop}
use Rattle.weighting.specs.Hubs.{hub_number}
use Rattle.weighting.specs.SettlementPoints.{zone_number, tie_bus, point_name, OfPoint}
use Rattle.weighting.specs.declared.hubs.Hub.{Hub}
use Rattle.weighting.specs.declared.hubs.Hub.TheVariants.{North, South, Houston, West, Panhandle, Average}
use Rattle.weighting.specs.declared.points.Kind.{Kind}
use Rattle.weighting.specs.declared.points.Kind.TheVariants as kind
use Rattle.weighting.specs.declared.points.Point.{Point}
use Rattle.weighting.specs.declared.points.SettlementPoint.{SettlementPoint}
use Rattle.weighting.specs.declared.points.SettlementPoint.TheVariants as point
use Rattle.weighting.specs.declared.zones.Zone.{Zone}
use Rattle.weighting.specs.declared.ties.Tie.{Tie}

pub number_is : (m n : ℕ) → pos m ≡ pos n → m ≡ n
number_is m n e = cc

-- the number tells the point of a kind
abbrev hub_of : ℕ → Hub
hub_of n = cond (eqb n 1) North (cond (eqb n 2) South (cond (eqb n 3) Houston (cond (eqb n 4) West (cond (eqb n 5) Panhandle Average))))

hub_is : (h : Hub) → hub_of (hub_number h) ≡ h
hub_is North = refl
hub_is South = refl
hub_is Houston = refl
hub_is West = refl
hub_is Panhandle = refl
hub_is Average = refl

pub same_hub : (h g : Hub) → hub_number h ≡ hub_number g → h ≡ g
same_hub h g e = sym (hub_is h) ∙ ap hub_of e ∙ hub_is g

same_zone : (y z : Zone) → zone_number y ≡ zone_number z → y ≡ z
same_zone y z e = subst (λ (n : ℕ). (w : (1 ≤ n) × (n ≤ 16)) → y ≡ record { number = n; within = w }) e
    (λ w. ap₂ (λ (a : 1 ≤ y.number) (b : y.number ≤ 16). record { number = y.number; within = (a, b) }) (le_prop y.within.0 w.0) (le_prop y.within.1 w.1)) z.within

same_tie : (s t : Tie) → tie_bus s ≡ tie_bus t → s ≡ t
same_tie s t e = subst (λ (n : ℕ). (w : n ≤ 255) → s ≡ record { bus = n; within = w }) e
    (λ w. ap (λ (a : s.bus ≤ 255). record { bus = s.bus; within = a }) (le_prop s.within w)) t.within

module _ (Of : SettlementPoint → Type 0) (Otherwise : Type 0) where
  of_its_name : (s : SettlementPoint) → Of s → OfPoint Of Otherwise (point_name s)
  of_its_name (point.Hub h) of =
      ((λ g e. subst (λ (x : Hub). Of (point.Hub x)) (same_hub h g (number_is _ _ e)) of), λ none. absurd (none h refl))
  of_its_name (point.Zone z) of =
      ((λ y e. subst (λ (x : Zone). Of (point.Zone x)) (same_zone z y (number_is _ _ e)) of), λ none. absurd (none z refl))
  of_its_name (point.Tie t) of =
      ((λ s e. subst (λ (x : Tie). Of (point.Tie x)) (same_tie t s (number_is _ _ e)) of), λ none. absurd (none t refl))

  pub of_named : (p : Point) (s : SettlementPoint) → p ≡ point_name s → Of s → OfPoint Of Otherwise p
  of_named p s is of = subst (OfPoint Of Otherwise) (sym is) (of_its_name s of)

  pub of_none : (p : Point) → ((s : SettlementPoint) → p ≢ point_name s) → Otherwise → OfPoint Of Otherwise p
  of_none p none other = by p.kind p.number none
    where
      by : (k : Kind) (z : ℤ) → ((s : SettlementPoint) → record { kind = k; number = z } ≢ point_name s) → OfPoint Of Otherwise (record { kind = k; number = z })
      by kind.Hub z none' = ((λ h e. absurd (none' (point.Hub h) (ap (λ (n : ℤ). record { kind = kind.Hub; number = n }) e))), λ _. other)
      by kind.Zone z none' = ((λ h e. absurd (none' (point.Zone h) (ap (λ (n : ℤ). record { kind = kind.Zone; number = n }) e))), λ _. other)
      by kind.Tie z none' = ((λ h e. absurd (none' (point.Tie h) (ap (λ (n : ℤ). record { kind = kind.Tie; number = n }) e))), λ _. other)
