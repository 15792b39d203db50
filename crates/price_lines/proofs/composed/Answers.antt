use Rattle.std.proofs.Common.{arith}
use Rattle.std.specs.List.{flat_map}
use Rattle.hour.specs.Hour.{entries}
use Rattle.price_lines.specs.Lines.{hubs, hub_line, zone_line, zones_to, day_ahead, price_lines}
use Rattle.price_lines.proofs.Adding.{all_fit}
use Rattle.price_lines.proofs.composed.Goals as goal

pub returns : goal.returns
unfolding price_lines
returns g c =
    let price = day_ahead c.args.book.now (g.P.Posting.grid c.args.posting.now) in
    all_fit (flat_map (hub_line price) hubs) (flat_map (zone_line price) (zones_to (entries c.args.book.now) 16)) c.none-lines.result.page c.push_hubs.new.self.page c.push_zones.new.self.page
    (omega arith) c.none-lines.ensures c.push_hubs.ensures c.push_zones.ensures
