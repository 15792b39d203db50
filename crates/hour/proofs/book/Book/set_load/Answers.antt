use Rattle.std.proofs.Common.{◌<◌, length, ap, ◌∙◌, arith}
use Rattle.hour.specs.Hour.{no_bus}
use Rattle.hour.specs.declared.records.Bus.{Bus}
use Rattle.hour.proofs.Tables.{few_kept, load_hub}
use Rattle.hour.proofs.book.Book.set_load.Goals as goal

pub replace_bus-requires-clause-few : goal.replace_bus-requires-clause-few
replace_bus-requires-clause-few c =
    let book = c.args.self.now in
    let size = book.size in
    let b = c.in_ok-b.b in
    let low = c.in_ok-b.ensures in
    let lt : b < length book.buses = omega arith in
    let hub = λ (x : Bus). x.hub_bus in
    few_kept book.buses b c.with_load-new.result no_bus lt book.few (ap hub c.with_load-new.ensures ∙ load_hub c.bus.result c.args.market c.in_ok-amount.amount ∙ ap hub c.bus.ensures.value)
