use Rattle.std.proofs.Common.{◌≡◌, ◌+◌, List, [], ◌∷◌, ◌++◌, get_or, drop, pos, vec_items, Result, sym, ap, ◌∙◌, ap₂, append_assoc, append-nil, arith, rules}
use Rattle.std.proofs.lemmas.List.{at_drop_more, at_drop_all}
use Rattle.refusals.specs.declared.Refusal.{Refusal}
use Rattle.hour.specs.Hour.{Hour, entries}
use Rattle.hour.specs.Replays.{step, after, said, worked, answers}
use Rattle.hour.specs.declared.calls.Call.{Call}
use Rattle.hour.specs.declared.calls.Call.TheVariants.{Place}
use Rattle.hour.proofs.Replays.{did_left, did_said}
use Rattle.hour.proofs.Laws.{laws}
use Rattle.hour.proofs.book.replays.replay.Goals as goal

pub returns-in_err-push : goal.returns-in_err-push
returns-in_err-push c = record { book = search rules; answers = search rules; laws = laws }

pub loop-call-preserved : goal.loop-call-preserved
loop-call-preserved c =
    let calls = c.args.calls.now in
    let i = c.loop-call.call-index in
    let before = entries c.loop-call.book in
    let behind = entries c.apply.new.self in
    let none : Call = Place (pos 0) (pos 0) (pos 0) in
    let call = get_or calls i none in
    let rest = drop (i + 1) calls in
    let so_far = vec_items c.loop-call.answers in
    let inside = c.loop-call-test.true in
    let steps : behind ≡ after before call = did_left (step before call) before behind c.apply.result c.apply.ensures in
    let says : c.apply.result ≡ said (step before call) = did_said (step before call) before behind c.apply.result c.apply.ensures in (
      ap (λ (h : Hour). worked h rest) steps ∙ sym (at_drop_more (worked before) calls i none inside) ∙ c.loop-call.invariant.0,
      ap (λ (xs : List (Result (Unit {0}) Refusal)). xs ++ answers behind rest) c.in_ok-push.ensures.items
          ∙ append_assoc so_far (c.apply.result ∷ []) (answers behind rest)
          ∙ ap₂ (λ (r : Result (Unit {0}) Refusal) (h : Hour). so_far ++ (r ∷ answers h rest)) says steps
          ∙ sym (at_drop_more (λ xs. so_far ++ answers before xs) calls i none inside)
          ∙ c.loop-call.invariant.1,
    )

pub returns : goal.returns
returns c =
    let calls = c.args.calls.now in
    let h = entries c.loop-call.book in
    let i = c.loop-call.call-index in
    record {
      book = sym (at_drop_all (worked h) calls i (omega arith)) ∙ c.loop-call.invariant.0;
      answers = sym (append-nil (vec_items c.loop-call.answers)) ∙ sym (at_drop_all (λ xs. vec_items c.loop-call.answers ++ answers h xs) calls i (omega arith)) ∙ c.loop-call.invariant.1;
      laws = laws;
    }
