use Rattle.std.proofs.Common.{◌<◌, length, Some, None, arith}
use Rattle.std.proofs.lemmas.Int.{to_z-of_z}
use Rattle.hour.specs.Sound.{seconds_of}
use Rattle.hour.specs.Steps.{entered_run}
use Rattle.hour.proofs.Tables.{sum_by_put}
use Rattle.hour.proofs.book.Book.enter_run.Goals as goal

pub replace_run-requires-clause-seconds : goal.replace_run-requires-clause-seconds
replace_run-requires-clause-seconds c =
    let book = c.args.self.now in
    let size = book.columns.1 in
    let i = c.from-i.result in
    let same = c.from-i.ensures in
    let low = c.in_ok-up_to.ensures in
    let fits = c.in_ok-length.ensures in
    let lt : i < length book.runs = omega arith in
    let put = sum_by_put seconds_of book.runs i (Some (entered_run c.in_ok-length.length c.args.reserve_adder c.args.reliability_adder)) None lt in
    let reserve = c.ranges.reserve_adder in
    let reliability = c.ranges.reliability_adder in
    simp to_z-of_z (omega (arith, put, c.other_seconds-left.ensures.value, c.other_seconds-left.ensures.most))
