use Rattle.std.proofs.Common.{◌<◌, length, sym, arith}
use Rattle.hour.specs.Hour.{entries}
use Rattle.hour.specs.Steps.{placed_in}
use Rattle.hour.proofs.Tables.{few_put, full_room}
use Rattle.hour.proofs.book.Book.place.Goals as goal

pub replace_bus-requires-clause-few : goal.replace_bus-requires-clause-few
replace_bus-requires-clause-few c =
    let book = c.args.self.now in
    let size = book.size in
    let b = c.in_ok-b.b in
    let k = c.in_ok-hub.hub in
    let low = c.in_ok-b.ensures in
    let lt : b < length book.buses = omega arith in
    few_put book.buses b (placed_in c.bus-old.result k c.in_ok-area.area) lt book.few (full_room (entries book) b k (sym c.if-is_full.ensures))
