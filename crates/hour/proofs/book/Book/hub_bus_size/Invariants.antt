use Rattle.std.proofs.Common.{◌≡◌, ◌≤◌, take}
use Rattle.hour.specs.Sound.{hub_bus_size}
use Rattle.hour.proofs.book.Book.hub_bus_size.Given as goal

abbrev pub invariant-loop-b : goal.invariant-loop-b
invariant-loop-b l = (l.n ≡ hub_bus_size l.hub_bus (take l.b-index l.self.buses)) × (l.n ≤ l.b-index)
