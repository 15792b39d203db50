use Rattle.std.proofs.Common.{◌<◌, length, ap, ◌∙◌, arith}
use Rattle.hour.specs.Hour.{no_bus}
use Rattle.hour.specs.declared.records.Bus.{Bus}
use Rattle.hour.proofs.Tables.{few_kept, status_hub}
use Rattle.hour.proofs.book.Book.set_status.Goals as goal

pub replace_bus-requires-clause-few : goal.replace_bus-requires-clause-few
replace_bus-requires-clause-few c =
    let book = c.args.self.now in
    let size = book.size in
    let b = c.in_ok-b.b in
    let low = c.in_ok-b.ensures in
    let lt : b < length book.buses = omega arith in
    let hub = λ (x : Bus). x.hub_bus in
    few_kept book.buses b c.with_status-new.result no_bus lt book.few (ap hub c.with_status-new.ensures ∙ status_hub c.bus.result c.args.market c.args.live ∙ ap hub c.bus.ensures.value)
