use Rattle.std.proofs.Common.{◌≡◌, pos, ◌*ℤ◌, Option, ℤ, MatchOption, sym, ap, ◌∙◌, subst, ap₂, arith, to_z, of_z}
use mir.Syntax.{w128}
use Rattle.std.proofs.lemmas.Int.{ints}
use Rattle.posting.specs.Grids.{Within}
use Rattle.weighted_sums.specs.Weighted.{weight_in, weighted_sum}
use Rattle.day_ahead.specs.Prices.{case_under, contribution}
use Rattle.day_ahead.proofs.Congestion.{none_is, weightless_is, divided_is, shadow_price_within, product_within, divided_within}
use Rattle.day_ahead.proofs.contributions.Pricing.contribution.Given.{Over}
use Rattle.day_ahead.proofs.contributions.Pricing.contribution.Goals as goal

pub returns-in_err-constraint-clause-value : goal.returns-in_err-constraint-clause-value
returns-in_err-constraint-clause-value g c =
    let m = g.W.Weighting.meaning c.args.self.now.weighting.now in
    let p = g.P.Posting.grid c.args.self.now.posting.now in
    let n = contribution m p c.args.self.now.book.now c.args.k in
    subst (λ (r : Option ℤ). MatchOption r (pos 0 ≡ n) (λ q. q ≡ n)) (sym c.from_residual.ensures) (none_is m p c.args.self.now.book.now c.args.k (sym c.in_err-constraint.ensures.value))

pub returns-then-weights-eq0-clause-value : goal.returns-then-weights-eq0-clause-value
returns-then-weights-eq0-clause-value g c =
    let m = g.W.Weighting.meaning c.args.self.now.weighting.now in
    let p = g.P.Posting.grid c.args.self.now.posting.now in
    let book = c.args.self.now.book.now in
    let k = c.args.k in
    let at = c.weigh-weights.ensures in
    let like = c.in_ok-case.ensures.case.alike in
    weightless_is m p book k c.in_ok-constraint.constraint (sym c.in_ok-constraint.ensures.value) c.weigh-weights.result (at.weights (case_under book k) like) (at.total (case_under book k) like) c.if-weights-eq0.true

product : (g : Over) (c : goal.After-half_up g) →
    to_z w128 (of_z w128 (to_z w128 (of_z w128 c.from-2.result) *ℤ to_z w128 (of_z w128 c.from-3.result))) ≡ c.weighted_sum-sum.result *ℤ c.in_ok-constraint.constraint.shadow_price
product g c =
    let s = c.in_ok-constraint.constraint.shadow_price in
    let n = c.weighted_sum-sum.result in
    let small = c.weighted_sum-sum.ensures.bound in
    let price = shadow_price_within c.in_ok-constraint.constraint c.in_ok-constraint.ensures.sound in
    let a : to_z w128 (of_z w128 c.from-2.result) ≡ n = omega (arith, ints, c.from-2.ensures, small.low, small.high) in
    let b : to_z w128 (of_z w128 c.from-3.result) ≡ s = omega (arith, ints, c.from-3.ensures, price.low, price.high) in
    let most = product_within n s small price in
    ap₂ (λ x y. to_z w128 (of_z w128 (x *ℤ y))) a b ∙ omega (arith, ints, most.low, most.high)

pub returns-clause-value : goal.returns-clause-value
returns-clause-value g c =
    let m = g.W.Weighting.meaning c.args.self.now.weighting.now in
    let p = g.P.Posting.grid c.args.self.now.posting.now in
    let book = c.args.self.now.book.now in
    let k = c.args.k in
    let s = c.in_ok-constraint.constraint.shadow_price in
    let w = c.weigh-weights.result in
    let at = c.weigh-weights.ensures in
    let like = c.in_ok-case.ensures.case.alike in
    divided_is m p book k c.in_ok-constraint.constraint (sym c.in_ok-constraint.ensures.value) w (at.weights (case_under book k) like) (at.total (case_under book k) like)
    _ c.half_up.result (product g c ∙ ap (λ (x : ℤ). x *ℤ s) (c.weighted_sum-sum.ensures.value ∙ ap (weighted_sum (weight_in w) p) c.from.ensures)) c.half_up.ensures.value c.half_up.ensures.nearest

pub returns-clause-bound : goal.returns-clause-bound
returns-clause-bound g c =
    let price = shadow_price_within c.in_ok-constraint.constraint c.in_ok-constraint.ensures.sound in
    divided_within c.weigh-weights.result _ c.half_up.result (subst (Within _) (sym (product g c)) (product_within _ _ c.weighted_sum-sum.ensures.bound price)) c.half_up.ensures.nearest
