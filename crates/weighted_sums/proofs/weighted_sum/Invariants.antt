use Rattle.std.proofs.Common.{◌≡◌, pos, ◌*ℤ◌}
use Rattle.weighted_sums.specs.Sums.{sum_z}
use Rattle.weighted_sums.specs.Weighted.{weight_in}
use Rattle.weighted_sums.proofs.weighted_sum.Given as goal

abbrev pub invariant-loop-bus : goal.invariant-loop-bus
invariant-loop-bus g l = l.sum ≡ sum_z (λ b. pos (weight_in l.weights b) *ℤ (g.P.Posting.grid l.posting).at b l.column) l.bus
