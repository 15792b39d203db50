use Rattle.std.proofs.Common.{◌≡◌, ℕ, ◌≤◌, List, ◌++◌, take, drop, vec_items}
use Rattle.hour.specs.Hour.{entries, fresh}
use Rattle.settlement.specs.declared.deeds.Answer.{Answer}
use Rattle.settlement.specs.Runs.{hour_of}
use Rattle.settlement.specs.Prices.{AnswersAll}
use Rattle.settlement.proofs.Promises.{Back}
use Rattle.settlement.proofs.runs.settle.Given as goal

-- the book is the one that the deeds so far make; with the answers of those that are left, the answers so far are those of all; and the text of each hour so far is read as it
abbrev pub invariant-loop-deed : goal.invariant-loop-deed
invariant-loop-deed g l =
    (entries l.book ≡ hour_of (take l.deed-index l.deeds))
    × ((rest : List Answer) → AnswersAll (g.W.Weighting.meaning l.weighting) (g.P.Posting.grid l.posting) (entries l.book) (drop l.deed-index l.deeds) rest
    → AnswersAll (g.W.Weighting.meaning l.weighting) (g.P.Posting.grid l.posting) fresh l.deeds (vec_items l.answers ++ rest))
    × ((k : ℕ) → k ≤ l.deed-index → Back (hour_of (take k l.deeds)))
