use Rattle.std.proofs.Common.{rules}
use Rattle.weighting.specs.Views.{view}
use Rattle.weighting.proofs.Shares.{hub_shares}
use Rattle.weighting.proofs.hubs.Hub.shares.Goals as goal

pub returns-clause-weights : goal.returns-clause-weights
returns-clause-weights c b low = let one = c.each.ensures b low in search rules

pub returns-clause-shares : goal.returns-clause-shares
returns-clause-shares c = hub_shares c.args.self (view c.args.case.now) c.each.result (returns-clause-weights c)
