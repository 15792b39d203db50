use Rattle.std.proofs.Common.{◌≡◌, ◌∷◌, ap, ◌∙◌, rules}
use Rattle.cuts.specs.Fields.{left, left_in}
use Rattle.cuts.proofs.Taking.{left_cut}
use Rattle.cuts.proofs.fields.FieldsIterator.next.Goals as goal

pub returns-clause-steps : goal.returns-clause-steps
returns-clause-steps c = ap left_in c.in_ok-self.was ∙ left_cut c.in_ok-self.field-0.now c.cut.result.0 c.cut.result.1 c.cut.ensures.front c.cut.ensures.after

pub returns-clause-goes : goal.returns-clause-goes
returns-clause-goes c =
    let e : left c.args.self.now ≡ c.cut.result.0.now ∷ left_in c.cut.result.1 = ap left_in c.in_ok-self.was ∙ left_cut c.in_ok-self.field-0.now c.cut.result.0 c.cut.result.1 c.cut.ensures.front c.cut.ensures.after in
    search (rules, e)
