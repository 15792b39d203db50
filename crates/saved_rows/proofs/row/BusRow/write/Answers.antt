use Rattle.std.proofs.Common.{rules}
use Rattle.hour.specs.Hour.{entries}
use Rattle.saved_rows.proofs.Calls.{full, written}
use Rattle.saved_rows.proofs.row.BusRow.write.Goals as goal

pub returns-in_err-at : goal.returns-in_err-at
returns-in_err-at c =
    let f = full (entries c.args.book.now) c.args.self c.requires (entries c.place.new.self) c.in_err-at.field-0.0 c.place.result c.place.ensures c.in_err-at.ensures in
    search rules

pub returns : goal.returns
returns c =
    written (entries c.args.book.now) c.args.self c.requires (entries c.place.new.self) (entries c.set_status.new.self) (entries c.set_load.new.self) (entries c.set_status-2.new.self) (entries c.set_load-2.new.self)
    c.place.result c.set_status.result c.set_load.result c.set_status-2.result c.set_load-2.result c.at-5.result c.args.book.now.size c.in_ok-at.ensures
    c.place.ensures c.set_status.ensures c.set_load.ensures c.set_status-2.ensures c.set_load-2.ensures c.at-5.ensures
