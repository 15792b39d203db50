use Rattle.std.proofs.Common.{◌≡◌, ◌+◌, ◌<◌, ◌≤◌, length}
use Rattle.cuts.specs.Cuts.{split}
use Rattle.hour.specs.Hour.{entries}
use Rattle.saved_rows.specs.Running.{place}
use Rattle.saved.specs.Reading.{read_from, reading}
use Rattle.saved.proofs.reading.read_text.Given as goal
use Rattle.cuts.specs.Fields.{line_end}

-- reading what is left from here on is reading the text; a line is at least its end
abbrev pub invariant-loop-rest : goal.invariant-loop-rest
invariant-loop-rest l = (read_from (place l.stage (entries l.book)) l.line (split line_end l.rest) ≡ reading l.text) × (0 < l.line) × (l.line + length l.rest ≤ length l.text + 1)

abbrev pub decreases-loop-rest : goal.decreases-loop-rest
decreases-loop-rest l = length l.rest
