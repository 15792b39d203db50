use Rattle.std.proofs.Common.{take}
use Rattle.std.specs.List.{flat_map}
use Rattle.price_lines.specs.Lines.{hub_line, hubs}
use Rattle.price_lines.specs.Adding.{Adds}
use Rattle.price_lines.proofs.lines.Lines.push_hubs.Given as goal

-- the lines of the hubs so far
abbrev pub invariant-loop-hub : goal.invariant-loop-hub
invariant-loop-hub g l = Adds l.hub-index (flat_map (hub_line (g.M.Market.price l.market)) (take l.hub-index hubs)) l.initial.self.page l.self.page
