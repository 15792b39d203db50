-- The laws hold of every table.
use Rattle.posting.proofs.TableLaws.{table_laws}
use Rattle.posting.proofs.table.Table.over.Goals as goal

pub returns-clause-laws : goal.returns-clause-laws
returns-clause-laws c = table_laws c.args.numbers.now
