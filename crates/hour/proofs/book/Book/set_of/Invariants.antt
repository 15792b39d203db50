use Rattle.std.proofs.Common.{◌≡◌, Bool, ◌&&◌, ltb, length}
use Rattle.std.specs.Fn.{FnReturnsAt}
use Rattle.bus_set.specs.Sets.{SetOf}
use Rattle.hour.specs.Hour.{entries, bus_at}
use Rattle.hour.specs.declared.records.Bus.{Bus}
use Rattle.hour.proofs.book.Book.set_of.Given as goal

-- the set so far has the buses below `i` that pass
abbrev pub invariant-loop-i : goal.invariant-loop-i
invariant-loop-i g l =
    (length l.set ≡ 4)
    × ((p : Bus → Bool) → ((x : Bus) (r : Bool) → FnReturnsAt g.F.Fn l.test x r → r ≡ p x) → SetOf (λ k. ltb k l.i && p (bus_at (entries l.self) k)) l.set)
