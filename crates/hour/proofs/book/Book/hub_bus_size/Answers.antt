use Rattle.std.proofs.Common.{◌<◌, length, ap, arith}
use Rattle.std.proofs.lemmas.List.Sums.{count_by_more_yes, count_by_more_no}
use Rattle.std.proofs.lemmas.List.{take_all}
use Rattle.std.proofs.lemmas.Bool.{eq-eqb, ne_eqb}
use Rattle.hour.specs.Sound.{in_hub_bus, hub_bus_size}
use Rattle.hour.specs.Hour.{no_bus}
use Rattle.hour.proofs.book.Book.hub_bus_size.Goals as goal
use Rattle.hour.proofs.book.Book.hub_bus_size.Goals.{then-b-hub_bus, else-b-hub_bus}

pub loop-b-preserved : goal.loop-b-preserved
loop-b-preserved c =
    let bs = c.args.self.now.buses in
    let size = c.args.self.now.size in
    let lt : c.loop-b.b-index < length bs = omega arith in
    elim c.if-b-hub_bus.branch [
      | then-b-hub_bus w ↦ let e = count_by_more_yes (in_hub_bus c.args.hub_bus) bs c.loop-b.b-index no_bus lt (eq-eqb _ _ w.if-b-hub_bus.true) in (omega (arith, e), omega arith)
      | else-b-hub_bus w ↦ let e = count_by_more_no (in_hub_bus c.args.hub_bus) bs c.loop-b.b-index no_bus lt (ne_eqb _ _ w.if-b-hub_bus.false) in (omega (arith, e), omega arith)
    ]

pub returns : goal.returns
returns c =
    let bs = c.args.self.now.buses in
    let size = c.args.self.now.size in
    let e = ap (hub_bus_size c.args.hub_bus) (take_all c.loop-b.b-index bs (omega arith)) in
    omega (arith, e)
