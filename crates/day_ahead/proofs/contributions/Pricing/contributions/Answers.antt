use Rattle.std.proofs.Common.{◌≡◌, sym, arith, to_z, of_z}
use mir.Syntax.{w128}
use Rattle.std.proofs.lemmas.Int.{ints}
use Rattle.day_ahead.specs.Prices.{contribution}
use Rattle.weighted_sums.proofs.Sums.{sum_z_none, sum_z_more}
use Rattle.weighted_sums.proofs.Withins.{within_zero}
use Rattle.day_ahead.proofs.Congestion.{or_zero}
use Rattle.day_ahead.proofs.contributions.Pricing.contributions.Goals as goal

pub loop-k-init : goal.loop-k-init
loop-k-init g c = (sym (sum_z_none _), within_zero 0)

pub loop-k-preserved : goal.loop-k-preserved
loop-k-preserved g c =
    let f = contribution (g.W.Weighting.meaning c.args.self.now.weighting.now) (g.P.Posting.grid c.args.self.now.posting.now) c.args.self.now.book.now in
    let one = or_zero (f c.loop-k.k) c.contribution.result c.contribution.ensures.value c.contribution.ensures.bound in
    let is : to_z w128 (of_z w128 c.unwrap_or-sum.result) ≡ f c.loop-k.k = omega (arith, ints, c.unwrap_or-sum.ensures, one.0, one.1) in
    let small = one.1 in (
      omega (arith, ints, c.loop-k.invariant, is, one.0, small.low, small.high, sum_z_more f c.loop-k.k),
      record { low = omega (arith, ints, c.loop-k.invariant, is, one.0, small.low, small.high); high = omega (arith, ints, c.loop-k.invariant, is, one.0, small.low, small.high) },
    )
