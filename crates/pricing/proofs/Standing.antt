-- When the price of a point stands: what one hour answers, another does too.
use Rattle.std.proofs.Common.{◌≡◌, ℕ, eqb, ℤ, pos, Err, Result, ap, ◌∙◌, subst, ap₂, ⊎_elim}
use Rattle.std.proofs.lemmas.Bool.{cases_eq, cond-true, cond-false, eq-eqb, ne_eqb}
use Rattle.refusals.specs.declared.Refusal.{Refusal}
use Rattle.refusals.specs.declared.Refusal.TheVariants.{PointOutside}
use Rattle.weighting.specs.Hubs.{hub_total}
use Rattle.weighting.specs.HubLaws.{hub_meaning}
use Rattle.weighting.specs.Meanings.{Meaning}
use Rattle.weighting.specs.SettlementPoints.{OfNumber}
use Rattle.weighting.specs.Views.{View}
use Rattle.weighting.specs.declared.hubs.Hub.{Hub}
use Rattle.weighting.specs.declared.hubs.Hub.TheVariants.{Average}
use Rattle.weighting.specs.declared.points.Kind.{Kind}
use Rattle.weighting.specs.declared.points.Kind.TheVariants as kind
use Rattle.weighting.specs.declared.points.Point.{Point}
use Rattle.pricing.specs.Origins.{Priced, own_price, hub_price}
use Rattle.pricing.specs.Points.{hub_priced, PricedAt}
use Rattle.pricing.specs.Taken.{hub_takes, TakenByKind, OfTaken}

-- two hours' prices, where something holds of a weighting
pub record Stands (price price' : Meaning → Result ℤ Refusal) (base : View) (Of : Meaning → Type 0) : Type 0 where
  -- that weighting has the same price in both
  pub priced_the_same : (m : Meaning) → Of m → price m ≡ price' m
  -- and one without base total is refused alike
  pub refused_alike : (m : Meaning) → Of m → (n : Meaning) → n.total base ≡ 0 → price n ≡ price' n
  -- a hub with base total does not ask for the average
  pub alone : (m : Meaning) → (m.total base ≡ 0 → ⊥) → (a b : Result ℤ Refusal) → hub_price (price m) a ≡ hub_price (price m) b

price_of : {T : Type 0} (number_of : T → ℕ) (priced priced' : T → Priced) (z : ℤ) (r : Priced) → ((p : T) → z ≡ pos (number_of p) → priced p ≡ priced' p)
    → OfNumber number_of (λ p. r ≡ priced p) (r ≡ Err PointOutside) z → OfNumber number_of (λ p. r ≡ priced' p) (r ≡ Err PointOutside) z
price_of number_of priced priced' z r same was = (λ p e. was.0 p e ∙ same p e, was.1)

module _ (price price' : Meaning → Result ℤ Refusal) (base : View) (Of : Meaning → Type 0) (stands : Stands price price' base Of) where
  hub_stands : (h : Hub) → Of (hub_takes base h) → hub_priced price h ≡ hub_priced price' h
  hub_stands h of =
      let total = hub_total h base in
      let own = hub_meaning h in
      let average = hub_meaning Average in
      ⊎_elim
      (λ (none : total ≡ 0).
      let taken : Of average = subst Of (cond-true (eqb total 0) average own (eq-eqb total 0 none)) of in
      ap₂ hub_price (stands.refused_alike average taken own none) (stands.priced_the_same average taken))
      (λ (some : total ≡ 0 → ⊥).
      let taken : Of own = subst Of (cond-false (eqb total 0) average own (ne_eqb total 0 some)) of in
      stands.alone own some (price average) (price' average)
      ∙ ap (λ (x : Result ℤ Refusal). hub_price x (price' average)) (stands.priced_the_same own taken))
      (cases_eq total 0)

  by_kind : (k : Kind) (z : ℤ) (r : Priced) → TakenByKind base k z Of → PricedAt price (record { kind = k; number = z }) r → PricedAt price' (record { kind = k; number = z }) r
  by_kind kind.Hub z r of was = price_of _ _ _ z r (λ h e. hub_stands h (of h e)) was
  by_kind kind.Zone z r of was = price_of _ _ _ z r (λ a e. ap own_price (stands.priced_the_same _ (of a e))) was
  by_kind kind.Tie z r of was = price_of _ _ _ z r (λ t e. ap own_price (stands.priced_the_same _ (of t e))) was

  pub point_stands : (p : Point) (r : Priced) → OfTaken base p Of → PricedAt price p r → PricedAt price' p r
  point_stands p r of was = by_kind p.kind p.number r of was
