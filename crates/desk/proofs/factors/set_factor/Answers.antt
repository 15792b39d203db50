use Rattle.std.proofs.Common.{rules}
use Rattle.desk.proofs.Tables.{only_there}
use Rattle.desk.proofs.factors.set_factor.Goals as goal

pub returns-clause-reads : goal.returns-clause-reads
returns-clause-reads c =
    let h = only_there c.args.factors.now c.args.factor c.in_ok-bus.bus c.in_ok-column.column (search rules) (search rules) (search rules) (search rules) (search rules) (search rules) in
    search rules
