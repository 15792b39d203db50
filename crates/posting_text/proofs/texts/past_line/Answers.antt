use Rattle.std.proofs.Common.{◌≡◌, ℕ, List, Some, None, Err, sym, ap, ◌∙◌, Bor}
use Rattle.std.proofs.lemmas.Result.{err_from_is_err_and}
use Rattle.std.proofs.lemmas.Option.{MatchOption-at_some, MatchOption-at_none}
use Rattle.std.specs.Option.{ok_or}
use Rattle.cuts.specs.Cuts.{after}
use Rattle.cuts.specs.Fields.{form_at}
use Rattle.posting_text.proofs.Turning.{past_form, past_unended, past_value, past_right}
use Rattle.posting_text.proofs.texts.past_line.Goals as goal

pub returns-in_err-numbers : goal.returns-in_err-numbers
returns-in_err-numbers c =
    let p = err_from_is_err_and c.from_residual.result c.from_residual.ensures.1 in
    rw (p.1, p.2) (past_form c.args.text.now c.cut.result.0.now c.cut.ensures.front _ c.in_err-numbers.ensures)

pub returns-in_err-rest : goal.returns-in_err-rest
returns-in_err-rest c =
    let p = err_from_is_err_and c.from_residual-in_err-rest.result c.from_residual-in_err-rest.ensures.1 in
    let none : c.cut.result.1 ≡ None = c.in_err-rest.ensures.ok_part in
    let e : after 10 c.args.text.now ≡ None = MatchOption-at_none _ _ none c.cut.ensures.after in
    let w = ap Err (sym c.malformed.ensures) ∙ sym (c.in_err-rest.ensures.value ∙ ap (λ o. ok_or o c.malformed.result) none) in
    let at_end : form_at 0 ≡ c.in_err-rest.field-0.0 = cc in
    rw (p.1, p.2) (past_unended c.args.text.now c.cut.result.0.now c.cut.ensures.front _ c.in_ok-numbers.ensures e ∙ ap Err at_end)

pub returns-in_err-entry : goal.returns-in_err-entry
returns-in_err-entry c =
    let p = err_from_is_err_and c.from_residual-in_err-entry.result c.from_residual-in_err-entry.ensures.1 in
    let e : after 10 c.args.text.now ≡ Some c.in_ok-rest.rest.now =
    MatchOption-at_some _ (λ (t : Bor (List ℕ)). after 10 c.args.text.now ≡ Some t.now) _ c.in_ok-rest.ensures.ok_part c.cut.ensures.after in
    rw (p.1, p.2) (past_value c.args.text.now c.cut.result.0.now c.cut.ensures.front _ _ _ c.in_ok-numbers.ensures e c.in_err-entry.ensures)

pub returns : goal.returns
returns c =
    let e : after 10 c.args.text.now ≡ Some c.in_ok-rest.rest.now =
    MatchOption-at_some _ (λ (t : Bor (List ℕ)). after 10 c.args.text.now ≡ Some t.now) _ c.in_ok-rest.ensures.ok_part c.cut.ensures.after in
    past_right c.args.text.now c.cut.result.0.now c.cut.ensures.front _ _ _ c.in_ok-numbers.ensures e c.in_ok-entry.ensures
