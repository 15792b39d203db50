use Rattle.std.proofs.Common.{None, Err, sym, refl, ap, ◌∙◌, arith}
use Rattle.std.proofs.lemmas.Result.{err_from_is_err_and}
use Rattle.cuts.specs.Cuts.{split}
use Rattle.cuts.proofs.Cutting.{after_shorter}
use Rattle.hour.specs.Hour.{entries}
use Rattle.saved_rows.specs.Running.{place}
use Rattle.saved.specs.Reading.{read_from}
use Rattle.saved.proofs.Turns.{at_done, on_err, on_row, after_err, after_ok, ended_at, unended_at}
use Rattle.saved.proofs.reading.read_text.Goals as goal
use Rattle.cuts.specs.Fields.{line_end}

pub loop-rest-init : goal.loop-rest-init
loop-rest-init c = ((λ i. read_from (place (record { last = c.default-stage.ensures i }) (c.fresh-book.ensures i)) 1 (split line_end c.args.text.now)), omega arith, omega arith)

pub returns-then-is_done : goal.returns-then-is_done
returns-then-is_done c =
    sym c.loop-rest.invariant.0
    ∙ at_done (place c.loop-rest.stage (entries c.loop-rest.book)) c.loop-rest.line c.loop-rest.rest.now c.loop-rest-test.ensures _ refl c.if-is_done.ensures
    ∙ ap Err (sym c.line_fault.ensures)

pub returns-in_err-row : goal.returns-in_err-row
returns-in_err-row c =
    let p = err_from_is_err_and c.from_residual.result c.from_residual.ensures.1 in
    rw (p.1, p.2) (sym c.loop-rest.invariant.0
    ∙ on_err (place c.loop-rest.stage (entries c.loop-rest.book)) c.loop-rest.line c.loop-rest.rest.now c.loop-rest-test.ensures _ c.cut.result.0.now c.read_row.result
    c.in_err-row.field-0.0 refl c.if-is_done.ensures c.cut.ensures.front c.read_row.ensures c.in_err-row.ensures)

pub returns-in_err-rest : goal.returns-in_err-rest
returns-in_err-rest c =
    let p = err_from_is_err_and c.from_residual-in_err-rest.result c.from_residual-in_err-rest.ensures.1 in
    let e = unended_at c.loop-rest.rest.now c.cut.result.1 c.line_fault-in-loop-rest.result c.in_err-rest.field-0.0 c.in_err-rest.ensures.value c.cut.ensures.after in
    rw (p.1, p.2) (sym c.loop-rest.invariant.0
    ∙ on_row (place c.loop-rest.stage (entries c.loop-rest.book)) c.loop-rest.line c.loop-rest.rest.now c.loop-rest-test.ensures None c.cut.result.0.now c.read_row.result
    c.in_ok-row.row e.0 c.if-is_done.ensures c.cut.ensures.front c.read_row.ensures c.in_ok-row.ensures
    ∙ ap Err (sym (e.1 ∙ c.line_fault-in-loop-rest.ensures)))

pub returns-in_err-stage : goal.returns-in_err-stage
returns-in_err-stage c =
    let p = err_from_is_err_and c.from_residual-in_err-stage.result c.from_residual-in_err-stage.ensures.1 in
    let e = ended_at c.loop-rest.rest.now c.cut.result.1 c.line_fault-in-loop-rest.result c.in_ok-rest.rest c.in_ok-rest.ensures.value c.cut.ensures.after in
    rw (p.1, p.2) (sym c.loop-rest.invariant.0
    ∙ on_row (place c.loop-rest.stage (entries c.loop-rest.book)) c.loop-rest.line c.loop-rest.rest.now c.loop-rest-test.ensures _ c.cut.result.0.now c.read_row.result
    c.in_ok-row.row e c.if-is_done.ensures c.cut.ensures.front c.read_row.ensures c.in_ok-row.ensures
    ∙ after_err (place c.loop-rest.stage (entries c.loop-rest.book)) c.loop-rest.line c.in_ok-rest.rest.now c.in_ok-row.row (entries c.take.new.book) c.take.result
    c.in_err-stage.field-0.0 c.take.ensures.value c.in_err-stage.ensures)

pub loop-rest-smaller : goal.loop-rest-smaller
loop-rest-smaller c =
    let e = ended_at c.loop-rest.rest.now c.cut.result.1 c.line_fault-in-loop-rest.result c.in_ok-rest.rest c.in_ok-rest.ensures.value c.cut.ensures.after in
    after_shorter line_end c.loop-rest.rest.now c.in_ok-rest.rest.now e

pub loop-rest-preserved : goal.loop-rest-preserved
loop-rest-preserved c =
    let e = ended_at c.loop-rest.rest.now c.cut.result.1 c.line_fault-in-loop-rest.result c.in_ok-rest.rest c.in_ok-rest.ensures.value c.cut.ensures.after in
    let l = after_shorter line_end c.loop-rest.rest.now c.in_ok-rest.rest.now e in (
      sym (on_row (place c.loop-rest.stage (entries c.loop-rest.book)) c.loop-rest.line c.loop-rest.rest.now c.loop-rest-test.ensures _ c.cut.result.0.now c.read_row.result
          c.in_ok-row.row e c.if-is_done.ensures c.cut.ensures.front c.read_row.ensures c.in_ok-row.ensures
          ∙ after_ok (place c.loop-rest.stage (entries c.loop-rest.book)) c.loop-rest.line c.in_ok-rest.rest.now c.in_ok-row.row (entries c.take.new.book) c.take.result
          c.in_ok-stage.stage c.take.ensures.value c.in_ok-stage.ensures) ∙ c.loop-rest.invariant.0,
      omega arith,
      omega (arith, c.loop-rest.invariant.2),
    )
