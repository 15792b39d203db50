use Rattle.std.proofs.Common.{◌≡◌, ℕ, List, ◌∷◌, length, Some, sym, ap, ◌∙◌, arith, Bor}
use Rattle.std.proofs.lemmas.Option.{MatchOption-at_some, MatchOption-at_none}
use Rattle.cuts.specs.Cuts.{after}
use Rattle.posting_text.specs.Texts.{lines}
use Rattle.posting_text.proofs.Turning.{lines_none, lines_some}
use Rattle.posting_text.proofs.texts.LinesIterator.next.Goals as goal

pub returns-in_err-self-clause-steps : goal.returns-in_err-self-clause-steps
returns-in_err-self-clause-steps c =
    let none = lines_none c.args.self.now.rest.now (MatchOption-at_none _ _ c.in_err-self.was c.cut.ensures.after) in
    rw c.from_residual.ensures (none, none)

pub returns-clause-steps : goal.returns-clause-steps
returns-clause-steps c =
    let e : after 10 c.args.self.now.rest.now ≡ Some c.in_ok-self.field-0.now =
    MatchOption-at_some _ (λ (t : Bor (List ℕ)). after 10 c.args.self.now.rest.now ≡ Some t.now) _ c.in_ok-self.was c.cut.ensures.after in
    lines_some c.args.self.now.rest.now c.in_ok-self.field-0.now e ∙ ap (λ l. l ∷ lines c.in_ok-self.field-0.now) (sym c.cut.ensures.front)

pub returns-clause-goes : goal.returns-clause-goes
returns-clause-goes c =
    let fewer = ap length (returns-clause-steps c) in
    record { on = λ _. (tt, tt, omega (arith, fewer)); keeps = tt; rests = λ _. tt }
