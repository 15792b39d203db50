use Rattle.std.proofs.Common.{sym, ◌∙◌, w64, SFits, to_z, of_z, rules}
use Rattle.std.proofs.lemmas.Int.{to_z-of_z}
use Rattle.hour.specs.Hour.{entries}
use Rattle.price_lines.proofs.Adding.{zone_added, zone_left_out}
use Rattle.price_lines.proofs.Zones.{some_bus}
use Rattle.price_lines.proofs.lines.Lines.push_zone.Goals as goal

pub returns-then-has_bus : goal.returns-then-has_bus
returns-then-has_bus g c =
    let fits : SFits w64 c.from.result = search rules in
    zone_added (g.M.Market.price c.args.market.now) (entries c.args.book.now) c.args.zone (to_z w64 (of_z w64 c.from.result)) c.args.self.now.page c.push_priced.new.self.page
    (to_z-of_z w64 c.from.result fits ∙ c.from.ensures) c.requires.0 c.requires.1 (sym (c.if-has_bus.ensures ∙ some_bus c.args.book.now.buses c.args.zone c.args.book.now.size)) c.push_priced.ensures

pub returns-else-has_bus : goal.returns-else-has_bus
returns-else-has_bus g c =
    zone_left_out (g.M.Market.price c.args.market.now) (entries c.args.book.now) c.args.zone c.args.self.now.page (sym (c.if-has_bus.ensures ∙ some_bus c.args.book.now.buses c.args.zone c.args.book.now.size))
