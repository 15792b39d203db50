use Rattle.std.proofs.Common.{◌≡◌, length}
use Rattle.hour.specs.Hour.{entries, bus_at}
use Rattle.weighting.proofs.Members.{SortedTo}
use Rattle.weighting.proofs.hubs.members_of.Given as goal

abbrev pub invariant-loop-bus : goal.invariant-loop-bus
invariant-loop-bus l = (length l.all ≡ 156) × SortedTo (λ i. (bus_at (entries l.book) i).hub_bus) l.all (length l.yielded)
