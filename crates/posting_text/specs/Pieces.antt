-- The pieces of a line, which its fields are.
use Rattle.std.specs.Prelude.{ℕ, List, [], ◌∷◌}
use Rattle.posting_text.specs.declared.lines.PostingLine.{PostingLine}
use Rattle.posting_text.specs.Lines.{letter}

abbrev pub pieces : PostingLine → List (List ℕ)
pieces line = (letter ∷ []) ∷ line.bus.now ∷ line.column.now ∷ line.value.now ∷ []
