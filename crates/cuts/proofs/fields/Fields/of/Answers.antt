use Rattle.cuts.proofs.Taking.{left_cut}
use Rattle.cuts.proofs.fields.Fields.of.Goals as goal

pub returns : goal.returns
returns c = left_cut c.args.line.now c.cut.result.0 c.cut.result.1 c.cut.ensures.front c.cut.ensures.after
