use Rattle.std.proofs.Common.{◌≡◌, ◌<◌, sum, sym, ◌∙◌, arith, rules}
use Rattle.weighting.specs.Views.{view}
use Rattle.weighting.proofs.Sums.{sum_list, sum_weights}
use Rattle.weighting.proofs.Weighed.{total_alike}
use Rattle.weighting.proofs.weightings.Weighting.weigh.Goals as goal

pub sum-total-requires-clause-fits : goal.sum-total-requires-clause-fits
sum-total-requires-clause-fits g c =
    let m = g.Self.Weighting.meaning c.args.self.now in
    let v = view c.args.case.now in
    let is : sum c.weights-weights.result ≡ m.total v = sum_weights m v c.weights-weights.result (search rules) c.weights-weights.ensures in
    let fits : sum c.weights-weights.result < 4294967296 = omega (arith, is, m.total_is_bounded v) in
    search rules

pub invariant_of-result : goal.invariant_of-result
invariant_of-result g c =
    let m = g.Self.Weighting.meaning c.args.self.now in
    let v = view c.args.case.now in
    let added : c.sum-total.result ≡ sum c.weights-weights.result = search rules in
    let is : sum c.weights-weights.result ≡ m.total v = sum_weights m v c.weights-weights.result (search rules) c.weights-weights.ensures in
    record {
      sum = added ∙ sym (sum_list c.weights-weights.result 256 (search rules));
      most = omega (arith, added, is, m.total_is_bounded v);
    }

pub returns : goal.returns
returns g c =
    let m = g.Self.Weighting.meaning c.args.self.now in
    let v = view c.args.case.now in
    let added : c.sum-total.result ≡ sum c.weights-weights.result = search rules in
    let is : sum c.weights-weights.result ≡ m.total v = sum_weights m v c.weights-weights.result (search rules) c.weights-weights.ensures in
    record {
      weights = λ u like b low. c.weights-weights.ensures b low ∙ m.alike_weigh_the_same v u like b low;
      total = λ u like. added ∙ is ∙ total_alike m v u like;
    }
