-- One thing added to a page after another.
use Rattle.std.proofs.Common.{◌≡◌, ℕ, Bool, true, false, arith, ◌+◌, ◌<◌, List, [], ◌∷◌, ◌++◌, length, get_or, take, ℤ, pos, sym, ap, ◌∙◌, subst, w64, SFits, to_z, of_z}
use Rattle.std.specs.List.{flat_map}
use Rattle.std.proofs.lemmas.List.{append_assoc, append-nil, flat_map_more, take_more}
use Rattle.std.specs.Fmt.{signed_decimal}
use Rattle.std.specs.Int.{from_bool}
use Rattle.saved_rows.specs.declared.row.BusRow.{BusRow}
use Rattle.saved_rows.specs.declared.row.Row.TheVariants as row
use Rattle.saved.specs.Texts.{status_text, line_text}
use Rattle.std.proofs.lemmas.Fmt.{decimal_digit}
use Rattle.std.proofs.lemmas.Int.{to_z-of_z}
use Rattle.page.specs.Pages.{written}
use Rattle.page.specs.declared.pages.Page.{Page}
use Rattle.page.proofs.Pushing.{and_then}
use Rattle.saving.specs.Adding.{Adds, longest, numbers_text}

pub add_then : {p q r : Page longest} {xs ys : List ℕ} → Adds xs p q → Adds ys q r → Adds (xs ++ ys) p r
add_then {p} {q} {r} {xs} {ys} a b = record { text = and_then longest (written p) (written q) (written r) xs ys a.text b.text }

pub add_same : {p q : Page longest} {xs ys : List ℕ} → Adds xs p q → xs ≡ ys → Adds ys p q
add_same {p} {q} a e = subst (λ t. Adds t p q) e a

abbrev pub number_field : ℤ → List ℕ
number_field z = 44 ∷ signed_decimal z

-- a comma and the next of the numbers
pub add_next : {p q r s : Page longest} (letter : ℕ) (numbers : List ℤ) (i : ℕ) → i < length numbers → SFits w64 (get_or numbers i (pos 0))
    → Adds (letter ∷ flat_map number_field (take i numbers)) p q → Adds (44 ∷ []) q r → Adds (signed_decimal (to_z w64 (of_z w64 (get_or numbers i (pos 0))))) r s
    → Adds (letter ∷ flat_map number_field (take (i + 1) numbers)) p s
add_next {p} {q} {r} {s} letter numbers i more fits before comma number =
    add_same (add_then before (add_then comma (add_same number (ap signed_decimal (to_z-of_z w64 (get_or numbers i (pos 0)) fits)))))
    (ap (λ t. letter ∷ t) (flat_map_more number_field [] (take i numbers) (get_or numbers i (pos 0)) ∙ ap (flat_map number_field) (sym (take_more numbers i (pos 0) more))))

-- a status is the number 0 or 1
pub status_number : (live : Bool) → signed_decimal (pos (from_bool live)) ≡ status_text live
status_number true = decimal_digit 1 (omega arith)
status_number false = decimal_digit 0 (omega arith)

-- the line of a bus, with its statuses as numbers
abbrev pub bus_fields : BusRow → List ℤ
bus_fields b =
    b.bus ∷ b.hub_bus ∷ b.zone ∷ pos (from_bool b.day_ahead_live) ∷ b.day_ahead_load ∷ pos (from_bool b.real_time_live) ∷ b.real_time_load ∷ []

pub bus_line : (b : BusRow) → numbers_text 66 (bus_fields b) ≡ line_text (row.Bus b) ++ []
bus_line b = simp append_assoc (simp (append-nil, status_number))
