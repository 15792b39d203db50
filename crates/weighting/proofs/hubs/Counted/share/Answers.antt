use Rattle.std.proofs.Common.{sym, arith, rules}
use Rattle.weighting.specs.Views.{view}
use Rattle.weighting.proofs.Shares.{some_live}
use Rattle.weighting.proofs.hubs.Counted.share.Goals as goal

pub nonzero_div-result : goal.nonzero_div-result
nonzero_div-result c =
    let some = some_live (view c.args.self.now.case) c.args.bus c.hub_bus-hub_bus.result (search rules) (search rules) (sym c.hub_bus-hub_bus.ensures.value) in
    omega (arith, c.live_buses.ensures, some)
