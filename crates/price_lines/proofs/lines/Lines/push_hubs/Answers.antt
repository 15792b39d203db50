use Rattle.std.proofs.Common.{ℕ, ◌+◌, List, get_or, take, subst, arith}
use Rattle.std.specs.List.{flat_map}
use Rattle.weighting.specs.declared.hubs.Hub.TheVariants.{North}
use Rattle.price_lines.specs.Lines.{hub_line, hubs}
use Rattle.price_lines.specs.Adding.{Adds}
use Rattle.price_lines.proofs.Adding.{adds_none, adds_more, joined_take_more}
use Rattle.price_lines.proofs.lines.Lines.push_hubs.Goals as goal

pub loop-hub-init : goal.loop-hub-init
loop-hub-init g c = adds_none c.args.self.now.page

pub loop-hub-preserved : goal.loop-hub-preserved
loop-hub-preserved g c =
    let price = g.M.Market.price c.args.market.now in
    let i = c.loop-hub.hub-index in
    let one : Adds {n = g.row.N} 1 (hub_line price (get_or hubs i North)) c.loop-hub.self.page c.push_hub.new.self.page = c.push_hub.ensures in
    subst (λ (t : List ℕ). Adds {n = g.row.N} (i + 1) t c.args.self.now.page c.push_hub.new.self.page) (joined_take_more (hub_line price) hubs i North (omega arith))
    (adds_more i (flat_map (hub_line price) (take i hubs)) (hub_line price (get_or hubs i North)) c.args.self.now.page c.loop-hub.self.page c.push_hub.new.self.page c.loop-hub.invariant one)
