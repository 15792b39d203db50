use Rattle.std.proofs.Common.{◌≡◌, drop}
use Rattle.hour.specs.Hour.{entries, fresh}
use Rattle.hour.specs.Replays.{worked}
use Rattle.worked_hours.proofs.worked_book.Given as goal

-- what is left to work makes of the book what the whole list makes of a fresh one
abbrev pub invariant-loop-call : goal.invariant-loop-call
invariant-loop-call l = worked (entries l.book) (drop l.call-index l.calls) ≡ worked fresh l.calls
