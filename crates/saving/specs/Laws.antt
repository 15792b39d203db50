-- What holds of every saved text.
use Rattle.std.specs.Prelude.{◌≡◌, ◌≤◌, [], ◌∷◌, ◌++◌, map, length}
use Rattle.cuts.specs.Cuts.{split}
use Rattle.hour.specs.Hour.{Hour}
use Rattle.saved_rows.specs.Rows.{all_rows}
use Rattle.saved.specs.Texts.{fields_of, saved_text}
use Rattle.saving.specs.Adding.{longest}

-- a buffer of so many bytes is never too short
abbrev pub Fits : Hour → Type 0
Fits h = length (saved_text h) ≤ longest

-- cut at its line ends, and each line at its commas, the text gives the fields of its lines, and nothing behind the last line end
abbrev pub Legible : Hour → Type 0
Legible h = map (split 44) (split 10 (saved_text h)) ≡ map fields_of (all_rows h) ++ (([] ∷ []) ∷ [])
