use Rattle.std.proofs.Common.{◌≡◌, ◌+◌, ◌≤◌, length}
use Rattle.cuts.specs.Cuts.{split}
use Rattle.cuts.specs.Fields.{line_end}
use Rattle.posting_text.specs.Texts.{check_from, checking}
use Rattle.posting_text.proofs.checking.check.Given as goal

-- checking what is left checks the text, and no more lines than bytes were read
abbrev pub invariant-loop-rest : goal.invariant-loop-rest
invariant-loop-rest l = (check_from l.count (split line_end l.rest) ≡ checking l.text) × (l.count + length l.rest ≤ length l.text)

abbrev pub decreases-loop-rest : goal.decreases-loop-rest
decreases-loop-rest l = length l.rest
