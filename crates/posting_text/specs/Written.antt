-- Posting lines and posting texts as they are written.
use Rattle.std.specs.Prelude.{ℕ, ◌<◌, List, [], ◌∷◌, ◌++◌, pos}
use Rattle.std.specs.Fmt.{signed_decimal}
use Rattle.posting.specs.Limits.{buses, columns, most_table_number}
use Rattle.posting.specs.Grids.{Within}
use Rattle.cuts.specs.Cuts.{join}
use Rattle.cuts.specs.Fields.{comma, line_end}
use Rattle.posting_text.specs.declared.entries.Entry.{Entry}
use Rattle.posting_text.specs.Lines.{letter}

-- an entry that may be posted
pub record Right (e : Entry) : Type 0 where
  pub bus_inside : e.bus < buses
  pub column_inside : e.column < columns
  pub number_small : Within most_table_number e.number

-- the letter F, bus, column and number, parted by commas
abbrev pub written : Entry → List ℕ
written e = join comma ((letter ∷ []) ∷ signed_decimal (pos e.bus) ∷ signed_decimal (pos e.column) ∷ signed_decimal e.number ∷ [])

-- a line for each entry, with its end
abbrev pub text_of : List Entry → List ℕ
text_of [] = []
text_of (e ∷ es) = written e ++ (line_end ∷ text_of es)
