use Rattle.std.proofs.Common.{◌/◌, ◌%◌, get_or}
use Rattle.bus_set.proofs.Sets.{has_member}
use Rattle.bus_set.proofs.contains.Goals as goal

pub returns : goal.returns
returns c = rw c.from-i.ensures (has_member (get_or c.args.set (c.args.bus / 64) 0) (c.args.bus % 64))
