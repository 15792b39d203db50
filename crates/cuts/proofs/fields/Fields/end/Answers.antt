use Rattle.std.proofs.Common.{ap, ◌∙◌}
use Rattle.std.specs.Option.{ok_or}
use Rattle.cuts.proofs.Taking.{none_left}
use Rattle.cuts.proofs.fields.Fields.end.Goals as goal

pub returns : goal.returns
returns c = none_left _ _ _ _ _ c.is_none.ensures c.malformed.ensures (c.ok_or.ensures.value ∙ ap (λ o. ok_or o c.malformed.result) c.then_some.ensures)
