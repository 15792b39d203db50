use Rattle.std.proofs.Common.{◌≡◌, ◌*◌}
use Rattle.posting.specs.Grids.{Within}
use Rattle.hour.specs.Hour.{entries, run_at}
use Rattle.weighted_sums.specs.Sums.{sum_z}
use Rattle.weighted_sums.specs.Weighted.{weight_in}
use Rattle.real_time.specs.Bounds.{most_part}
use Rattle.real_time.specs.Prices.{run_part}
use Rattle.real_time.proofs.prices.Pricing.hour_sum.Given as goal

abbrev pub invariant-loop-column : goal.invariant-loop-column
invariant-loop-column g l =
    (l.sum ≡ sum_z (λ k. run_part (weight_in l.self.weights.now) (g.P.Posting.grid l.self.posting.now) l.self.weights.now.total k (run_at (entries l.self.book.now) k)) l.column)
    × Within (l.column * most_part) l.sum
