use Rattle.std.proofs.Common.{◌≡◌, ◌+◌, get_or, drop, pos, sym, ap, ◌∙◌, arith}
use Rattle.std.proofs.lemmas.List.{at_drop_more, at_drop_all}
use Rattle.hour.specs.Hour.{Hour, entries}
use Rattle.hour.specs.Replays.{step, after, worked}
use Rattle.hour.specs.declared.calls.Call.{Call}
use Rattle.hour.specs.declared.calls.Call.TheVariants.{Place}
use Rattle.hour.proofs.Replays.{did_left}
use Rattle.worked_hours.proofs.worked_book.Goals as goal

pub loop-call-preserved : goal.loop-call-preserved
loop-call-preserved c =
    let calls = c.args.calls.now in
    let i = c.loop-call.call-index in
    let before = entries c.loop-call.book in
    let behind = entries c.apply.new.self in
    let none : Call = Place (pos 0) (pos 0) (pos 0) in
    let call = get_or calls i none in
    let steps : behind ≡ after before call = did_left (step before call) before behind c.apply.result c.apply.ensures in
    ap (λ (h : Hour). worked h (drop (i + 1) calls)) steps ∙ sym (at_drop_more (worked before) calls i none c.loop-call-test.true) ∙ c.loop-call.invariant

pub returns : goal.returns
returns c = sym (at_drop_all (worked (entries c.loop-call.book)) c.args.calls.now c.loop-call.call-index (omega arith)) ∙ c.loop-call.invariant
