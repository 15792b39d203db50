use Rattle.std.proofs.Common.{◌≡◌, length, pos, sym, refl, ap, ◌∙◌, arith}
use Rattle.std.proofs.lemmas.List.{take-append-drop, length-take-le}
use Rattle.std.proofs.lemmas.Option.{MatchOption-at_some}
use Rattle.posting.specs.Limits.{places}
use Rattle.posting_text.proofs.Tabling.{fills}
use Rattle.posting_text.proofs.CheckLaws.{grant_long}
use Rattle.posting_text.proofs.filling.fill.Goals as goal

pub returns-in_err-check-clause-kept : goal.returns-in_err-check-clause-kept
returns-in_err-check-clause-kept c =
    let taken = MatchOption-at_some _ _ _ c.in_ok-places.ensures.ok_part c.first_chunk_mut.ensures.cases in
    λ _. rw taken.same (take-append-drop places c.args.table.now)

pub returns-clause-granted : goal.returns-clause-granted
returns-clause-granted c =
    let taken = MatchOption-at_some _ _ _ c.in_ok-places.ensures.ok_part c.first_chunk_mut.ensures.cases in
    (c.in_ok-check.field-0, sym (c.in_ok-check.ensures.value ∙ grant_long c.args.text.now c.args.table.now taken.enough))

pub returns-clause-says : goal.returns-clause-says
returns-clause-says c =
    let taken = MatchOption-at_some _ _ _ c.in_ok-places.ensures.ok_part c.first_chunk_mut.ensures.cases in
    (taken.enough, (c.in_ok-check.field-0, c.in_ok-check.ensures.says))

pub returns-clause-filled : goal.returns-clause-filled
returns-clause-filled c =
    let taken = MatchOption-at_some _ _ _ c.in_ok-places.ensures.ok_part c.first_chunk_mut.ensures.cases in
    let front : length c.fill.new.self ≡ places = c.fill.ensures.len ∙ ap length taken.same ∙ length-take-le places c.args.table.now taken.enough in
    rw c.write_lines.ensures
    (fills c.args.text.now c.args.table.now c.fill.new.self taken.enough front
    (λ k h. c.fill.ensures.clones k (pos 0) (omega (arith, front, c.fill.ensures.len)) refl))
