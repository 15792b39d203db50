use Rattle.bus_set.proofs.Sets.{no_members}
use Rattle.bus_set.proofs.empty.Goals as goal

pub returns : goal.returns
returns c = no_members
