use Rattle.std.proofs.Common.{◌-◌}
use Rattle.std.specs.List.{flat_map}
use Rattle.hour.specs.Hour.{entries}
use Rattle.price_lines.specs.Lines.{zone_line, zones_to}
use Rattle.price_lines.specs.Adding.{Adds}
use Rattle.price_lines.proofs.lines.Lines.push_zones.Given as goal

-- the lines of the zones so far
abbrev pub invariant-loop-zone : goal.invariant-loop-zone
invariant-loop-zone g l = Adds (l.zone - 1) (flat_map (zone_line (g.M.Market.price l.market)) (zones_to (entries l.book) (l.zone - 1))) l.initial.self.page l.self.page
