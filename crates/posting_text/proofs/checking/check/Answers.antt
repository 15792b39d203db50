use Rattle.std.proofs.Common.{◌≡◌, Ok, Err, sym, refl, ap, ◌∙◌, arith}
use Rattle.std.proofs.lemmas.Result.{err_from_is_err_and}
use Rattle.posting_text.specs.Texts.{checking}
use Rattle.posting_text.proofs.CheckLaws.{check_says, accepts}
use Rattle.posting_text.proofs.Turning.{turn_shorter, turn_on, turn_stops, check_none}
use Rattle.posting_text.proofs.checking.check.Goals as goal

pub loop-rest-init : goal.loop-rest-init
unfolding checking
loop-rest-init c = (refl, omega arith)

pub returns-in_err-rest : goal.returns-in_err-rest
returns-in_err-rest c =
    let p = err_from_is_err_and c.from_residual.result c.from_residual.ensures.1 in
    let e : c.from_residual.result ≡ checking c.args.text.now =
    p.1 ∙ ap Err p.2
    ∙ sym (turn_stops c.loop-rest.count c.loop-rest.rest.now c.past_line.result c.past_line.ensures c.loop-rest-test.ensures _ c.in_err-rest.ensures)
    ∙ c.loop-rest.invariant.0 in
    record { value = e; says = check_says c.args.text.now c.from_residual.result e; accepts = λ es right is. e ∙ ap checking is ∙ accepts es right }

pub loop-rest-smaller : goal.loop-rest-smaller
loop-rest-smaller c = turn_shorter c.loop-rest.count c.loop-rest.rest.now c.past_line.result c.past_line.ensures _ c.in_ok-rest.ensures

pub loop-rest-preserved : goal.loop-rest-preserved
loop-rest-preserved c =
    let less = turn_shorter c.loop-rest.count c.loop-rest.rest.now c.past_line.result c.past_line.ensures _ c.in_ok-rest.ensures in (
      sym (turn_on c.loop-rest.count c.loop-rest.rest.now c.past_line.result c.past_line.ensures c.loop-rest-test.ensures _ c.in_ok-rest.ensures) ∙ c.loop-rest.invariant.0,
      omega (arith, c.loop-rest.invariant.1),
    )

pub returns : goal.returns
returns c =
    let e : Ok c.loop-rest.count ≡ checking c.args.text.now =
    sym (check_none c.loop-rest.count c.loop-rest.rest.now c.loop-rest-test.ensures) ∙ c.loop-rest.invariant.0 in
    record { value = e; says = check_says c.args.text.now (Ok c.loop-rest.count) e; accepts = λ es right is. e ∙ ap checking is ∙ accepts es right }
