use Rattle.std.proofs.Common.{◌≡◌, ◌*◌}
use Rattle.posting.specs.Grids.{Within}
use Rattle.weighted_sums.specs.Sums.{sum_z}
use Rattle.day_ahead.specs.Bounds.{most_contribution}
use Rattle.day_ahead.specs.Prices.{contribution}
use Rattle.day_ahead.proofs.contributions.Pricing.contributions.Given as goal

abbrev pub invariant-loop-k : goal.invariant-loop-k
invariant-loop-k g l =
    (l.sum ≡ sum_z (contribution (g.W.Weighting.meaning l.self.weighting.now) (g.P.Posting.grid l.self.posting.now) l.self.book.now) l.k)
    × Within (l.k * most_contribution) l.sum
