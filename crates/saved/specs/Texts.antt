-- The text that writes lines, and an hour.
use Rattle.std.specs.Prelude.{ℕ, Bool, true, false, List, [], ◌∷◌, ◌++◌}
use Rattle.std.specs.List.{flat_map}
use Rattle.std.specs.Fmt.{signed_decimal}
use Rattle.cuts.specs.Cuts.{join}
use Rattle.cuts.specs.Fields.{comma, line_end}
use Rattle.hour.specs.Hour.{Hour}
use Rattle.saved_rows.specs.Rows.{all_rows}
use Rattle.saved_rows.specs.declared.row.Row.{Row}
use Rattle.saved_rows.specs.declared.row.Row.TheVariants as row

-- 0 or 1
abbrev pub status_text : Bool → List ℕ
status_text false = 48 ∷ []
status_text true = 49 ∷ []

-- the letter of a row, and its numbers
abbrev pub fields_of : Row → List (List ℕ)
fields_of (row.Bus b) =
    (66 ∷ []) ∷ signed_decimal b.bus ∷ signed_decimal b.hub_bus ∷ signed_decimal b.zone
    ∷ status_text b.day_ahead_live ∷ signed_decimal b.day_ahead_load ∷ status_text b.real_time_live ∷ signed_decimal b.real_time_load ∷ []
fields_of (row.Lambda z) = (76 ∷ []) ∷ signed_decimal z ∷ []
fields_of (row.Constraint k p) = (67 ∷ []) ∷ signed_decimal k ∷ signed_decimal p ∷ []
fields_of (row.Outage k b) = (79 ∷ []) ∷ signed_decimal k ∷ signed_decimal b ∷ []
fields_of (row.Run k s a r) = (82 ∷ []) ∷ signed_decimal k ∷ signed_decimal s ∷ signed_decimal a ∷ signed_decimal r ∷ []
fields_of (row.End n) = (90 ∷ []) ∷ signed_decimal n ∷ []

-- its fields with commas between them, and a line end
abbrev pub line_text : Row → List ℕ
line_text r = join comma (fields_of r) ++ (line_end ∷ [])

-- the text of rows, line by line
abbrev pub text_of : List Row → List ℕ
text_of rs = flat_map line_text rs

-- the saved text of an hour
unfoldable pub saved_text : Hour → List ℕ
saved_text h = text_of (all_rows h)
