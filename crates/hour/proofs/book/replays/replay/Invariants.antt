use Rattle.std.proofs.Common.{◌≡◌, ◌++◌, drop, vec_items}
use Rattle.hour.specs.Hour.{entries, fresh}
use Rattle.hour.specs.Replays.{worked, answers}
use Rattle.hour.proofs.book.replays.replay.Given as goal

-- what is left to work makes of the book, and of the answers so far, what the whole list makes of a fresh book
abbrev pub invariant-loop-call : goal.invariant-loop-call
invariant-loop-call l =
    (worked (entries l.book) (drop l.call-index l.calls) ≡ worked fresh l.calls)
    × (vec_items l.answers ++ answers (entries l.book) (drop l.call-index l.calls) ≡ answers fresh l.calls)
