use Rattle.weighting.specs.Views.{view}
use Rattle.weighting.proofs.Shares.{live_members}
use Rattle.weighting.proofs.hubs.Counted.live_buses.Goals as goal

pub returns : goal.returns
returns c =
    live_members (view c.args.self.now.case) c.args.self.now.members c.from.result c.args.hub_bus c.count.result c.both.result c.from.ensures
    (c.args.self.now.sorted c.args.hub_bus c.requires) c.both.ensures c.count.ensures
