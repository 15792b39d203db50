use Rattle.std.proofs.Common.{rules}
use Rattle.weighting.proofs.ties.Tie.mark.Goals as goal

pub returns-clause-weights : goal.returns-clause-weights
returns-clause-weights c b low = let one = c.each.ensures b low in search rules

pub returns-clause-shares : goal.returns-clause-shares
returns-clause-shares c = let is = returns-clause-weights c in search rules
