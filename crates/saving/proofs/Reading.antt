-- A saved text comes apart into its lines, and a line into its fields.
use Rattle.std.proofs.Common.{◌≡◌, ℕ, suc, ◌+◌, ◌%◌, ◌^◌, ◌<◌, ◌≤◌, Bool, true, false, List, [], ◌∷◌, ◌++◌, map, ℤ, pos, negsuc, decimal, refl, ap, ◌∙◌, arith}
use Rattle.std.specs.List.{flat_map, AllByRecursion as All}
use Rattle.std.specs.Fmt.{signed_decimal}
use Rattle.std.proofs.lemmas.Fmt.{decimal_by_steps}
use Rattle.std.proofs.ByRecursion.{All-append, All-weaker}
use Rattle.std.proofs.lemmas.List.{append_assoc}
use Rattle.cuts.specs.Cuts.{split, join}
use Rattle.cuts.proofs.Cutting.{Plain, split_append, split_join}
use Rattle.hour.specs.Hour.{entries}
use Rattle.hour.specs.declared.book.Book.{Book}
use Rattle.saved_rows.specs.declared.row.Row.{Row}
use Rattle.saved_rows.specs.declared.row.Row.TheVariants as row
use Rattle.saved_rows.specs.Laws.{FewDigits, Writable}
use Rattle.saved_rows.specs.Rows.{all_rows}
use Rattle.saved_rows.proofs.Writable.{all_writable}
use Rattle.saved.specs.Texts.{status_text, fields_of, line_text, saved_text}
use Rattle.saving.specs.Laws.{Legible}

-- each byte is above m
abbrev Above : ℕ → List ℕ → Type 0
Above m s = All (λ b. m < b) s

above_plain : (m sep : ℕ) → sep ≤ m → (s : List ℕ) → Above m s → Plain sep s
above_plain m sep l = All-weaker (λ b. m < b) (λ b. b ≡ sep → ⊥) (λ b h e. omega arith)

above_less : (s : List ℕ) → Above 44 s → Above 43 s
above_less = All-weaker (λ b. 44 < b) (λ b. 43 < b) (λ b h. omega arith)

above_decimal : (n : ℕ) → n < 2 ^ 64 → Above 44 (decimal n)
above_decimal n l =
    decimal_by_steps (λ n ds. Above 44 ds) (λ n h. (omega arith, tt)) (λ n ds h a. All-append (λ b. 44 < b) ds ((48 + n % 10) ∷ []) a (omega arith, tt)) n l

-- the bytes of a number are digits and a minus
above_signed : (z : ℤ) → FewDigits z → Above 44 (signed_decimal z)
above_signed (pos n) h = above_decimal n (omega arith)
above_signed (negsuc n) h = (omega arith, above_decimal (suc n) (omega arith))

above_status : (b : Bool) → Above 44 (status_text b)
above_status true = (omega arith, tt)
above_status false = (omega arith, tt)

above_fields : (r : Row) → Writable r → All (Above 44) (fields_of r)
above_fields (row.Bus b) w = (
  (omega arith, tt),
  (
    above_signed b.bus w.0,
    (
      above_signed b.hub_bus w.1,
      (
        above_signed b.zone w.2,
        (
          above_status b.day_ahead_live,
          (
            above_signed b.day_ahead_load w.3,
            (
              above_status b.real_time_live,
              (above_signed b.real_time_load w.4, tt),
            ),
          ),
        ),
      ),
    ),
  ),
)
above_fields (row.Lambda z) w = ((omega arith, tt), (above_signed z w, tt))
above_fields (row.Constraint i p) w = ((omega arith, tt), (above_signed i w.0, (above_signed p w.1, tt)))
above_fields (row.Outage i b) w = ((omega arith, tt), (above_signed i w.0, (above_signed b w.1, tt)))
above_fields (row.Run i s a r) w = ((omega arith, tt), (above_signed i w.0, (above_signed s w.1, (above_signed a w.2, (above_signed r w.3, tt)))))
above_fields (row.End n) w = ((omega arith, tt), (above_signed n w, tt))

plain_fields : (r : Row) → Writable r → All (Plain 44) (fields_of r)
plain_fields r w = All-weaker (Above 44) (Plain 44) (above_plain 44 44 (omega arith)) (fields_of r) (above_fields r w)

above_join : (fs : List (List ℕ)) → All (Above 44) fs → Above 43 (join 44 fs)
above_join [] a = tt
above_join (f ∷ []) a = above_less f a.0
above_join (f ∷ g ∷ gs) a = All-append (λ b. 43 < b) f (44 ∷ join 44 (g ∷ gs)) (above_less f a.0) (omega arith, above_join (g ∷ gs) a.1)

pub fields_apart : (r : Row) → Writable r → split 44 (join 44 (fields_of r)) ≡ fields_of r
fields_apart (row.Bus b) w = split_join 44 _ _ (plain_fields (row.Bus b) w)
fields_apart (row.Lambda z) w = split_join 44 _ _ (plain_fields (row.Lambda z) w)
fields_apart (row.Constraint i p) w = split_join 44 _ _ (plain_fields (row.Constraint i p) w)
fields_apart (row.Outage i b) w = split_join 44 _ _ (plain_fields (row.Outage i b) w)
fields_apart (row.Run i s a r) w = split_join 44 _ _ (plain_fields (row.Run i s a r) w)
fields_apart (row.End n) w = split_join 44 _ _ (plain_fields (row.End n) w)

-- a first line comes apart from those behind it
pub line_apart : (r : Row) (t : List ℕ) → Writable r → split 10 (line_text r ++ t) ≡ join 44 (fields_of r) ∷ split 10 t
line_apart r t w =
    ap (split 10) (append_assoc (join 44 (fields_of r)) (10 ∷ []) t)
    ∙ split_append 10 (join 44 (fields_of r)) t (above_plain 43 10 (omega arith) (join 44 (fields_of r)) (above_join (fields_of r) (above_fields r w)))

pub lines_apart : (rs : List Row) → All Writable rs → map (split 44) (split 10 (flat_map line_text rs)) ≡ map fields_of rs ++ (([] ∷ []) ∷ [])
lines_apart [] w = refl
lines_apart (r ∷ rs) w =
    ap (map (split 44)) (line_apart r (flat_map line_text rs) w.0)
    ∙ (λ i. fields_apart r w.0 i ∷ lines_apart rs w.1 i)

pub saved_legible : (book : Book) → Legible (entries book)
unfolding saved_text
saved_legible book = lines_apart (all_rows (entries book)) (all_writable book).1
