use Rattle.bus_set.proofs.Sets.{both_members}
use Rattle.bus_set.proofs.both.Goals as goal

pub returns : goal.returns
returns c = both_members c.args.a c.args.b
