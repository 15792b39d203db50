use Rattle.std.proofs.Common.{◌≡◌}
use Rattle.posting_text.specs.Texts.{lines}
use Rattle.posting_text.specs.Filling.{table_from}
use Rattle.posting_text.proofs.filling.write_lines.Given as goal

-- the lines that are left make the table
abbrev pub invariant-loop-line : goal.invariant-loop-line
invariant-loop-line l = table_from l.places (lines l.line-iterator.rest.now) ≡ table_from l.initial.places (lines l.text)
