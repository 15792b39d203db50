-- Texts and rows: a text of lines is read as its rows, and only such a text is read.
use Rattle.std.proofs.Common.{◌≡◌, ℕ, ◌+◌, ◌-◌, Bool, true, false, cond, List, [], ◌∷◌, ◌++◌, Some, Ok, Err, Result, sym, refl, ap, ◌∙◌, append_assoc}
use Rattle.std.specs.List.{AllByRecursion as All}
use Rattle.std.proofs.lemmas.Bool.{cond-false}
use Rattle.faults.specs.declared.Spot.{Spot}
use Rattle.faults.specs.Faults.{fault, in_line}
use Rattle.cuts.specs.Cuts.{split, join}
use Rattle.cuts.specs.Fields.{comma, line_end}
use Rattle.cuts.proofs.Cutting.{split_append}
use Rattle.hour.specs.Hour.{Hour}
use Rattle.saved_rows.specs.declared.row.Row.{Row}
use Rattle.saved_rows.specs.Order.{finished}
use Rattle.saved_rows.specs.Running.{Place, step, onward, misended, run_rows}
use Rattle.saved_rows.specs.Laws.{Writable}
use Rattle.saved_rows.proofs.OnlySaved.{never}
use Rattle.saved.specs.Lines.{row_of}
use Rattle.saved.specs.Texts.{fields_of, line_text, text_of}
use Rattle.saved.specs.Reading.{unended, read_from}
use Rattle.saved.proofs.RowTexts.{row_line, line_row, line_plain}
use Rattle.saved.proofs.Turns.{after_row, with_end}

onward_same : {X Y E : Type 0} (x : Result X E) (j k : X → Result Y E) → ((a : X) → j a ≡ k a) → onward x j ≡ onward x k
onward_same (Ok a) j k h = h a
onward_same (Err e) j k h = refl

-- the line of a row is cut off whole
line_split : (r : Row) (t : List ℕ) → Writable r → split line_end (line_text r ++ t) ≡ join comma (fields_of r) ∷ split line_end t
line_split r t h = ap (split line_end) (append_assoc (join comma (fields_of r)) (line_end ∷ []) t) ∙ split_append line_end (join comma (fields_of r)) t (line_plain r h)

-- a text of lines is read as its rows
pub read_rows : (rs : List Row) (p : Place) (n : ℕ) → All Writable rs → read_from p n (split line_end (text_of rs)) ≡ run_rows p n rs
read_rows [] p n h = refl
read_rows (r ∷ rs) p n h =
    ap (read_from p n) (line_split r (text_of rs) h.0) ∙ with_end p n (join comma (fields_of r)) (text_of rs)
    ∙ ap (λ x. cond (finished p.stage) (Err (misended n)) (onward (in_line n x) (after_row p n (Some (text_of rs))))) (row_line r h.0)
    ∙ ap (cond (finished p.stage) (Err (misended n))) (onward_same (in_line n (step p (n - 1) r)) (λ q. read_from q (n + 1) (split line_end (text_of rs))) (λ q. run_rows q (n + 1) rs) (λ q. read_rows rs q (n + 1) h.1))

-- the pieces are the lines of rows that make the hour
abbrev pub Written : List (List ℕ) → Place → ℕ → Hour → Type 0
Written ps p n h = (rs : List Row) × (join line_end ps ≡ text_of rs) × (run_rows p n rs ≡ Ok h)

-- a line that has its end, with what holds of the lines after it
module _ (l m : List ℕ) (ls : List (List ℕ)) (p : Place) (n : ℕ) (b : Hour) (again : (q : Place) → read_from q (n + 1) (m ∷ ls) ≡ Ok b → Written (m ∷ ls) q (n + 1) b) where
  step_read : (r : Row) (x : Result Place Spot) → finished p.stage ≡ false → row_of (split comma l) ≡ Ok r → step p (n - 1) r ≡ x → onward (in_line n x) (λ q. read_from q (n + 1) (m ∷ ls)) ≡ Ok b → Written (l ∷ m ∷ ls) p n b
  step_read r (Ok q) d h k e =
      let more = again q e in (
        r ∷ more.0,
        (λ i. (line_row l r h).0 i ++ (line_end ∷ more.1 i)) ∙ sym (append_assoc (join comma (fields_of r)) (line_end ∷ []) (text_of more.0)),
        cond-false _ _ _ d ∙ ap (λ x. onward (in_line n x) (λ q. run_rows q (n + 1) more.0)) k ∙ more.2,
      )
  step_read r (Err f) d h k e = never b (fault f.why n f.field) e

  line_read : (t : Bool) (x : Result Row Spot) → finished p.stage ≡ t → row_of (split comma l) ≡ x → cond t (Err (misended n)) (onward (in_line n x) (λ r. onward (in_line n (step p (n - 1) r)) (λ q. read_from q (n + 1) (m ∷ ls)))) ≡ Ok b → Written (l ∷ m ∷ ls) p n b
  line_read true x d h e = never b (misended n) e
  line_read false (Ok r) d h e = step_read r (step p (n - 1) r) d h refl e
  line_read false (Err f) d h e = never b (fault f.why n f.field) e

no_end : (c : ℕ) (cs : List ℕ) (p : Place) (n : ℕ) (b : Hour) (t : Bool) (x : Result Row Spot) → cond t (Err (misended n)) (onward (in_line n x) (λ _. Err (unended n))) ≡ Ok b → Written ((c ∷ cs) ∷ []) p n b
no_end c cs p n b true x e = never b (misended n) e
no_end c cs p n b false (Ok r) e = never b (unended n) e
no_end c cs p n b false (Err d) e = never b (fault d.why n d.field) e

-- and a text that is read is one of lines
pub rows_read : (ps : List (List ℕ)) (p : Place) (n : ℕ) (b : Hour) → read_from p n ps ≡ Ok b → Written ps p n b
rows_read [] p n b e = never b (misended n) e
rows_read ([] ∷ []) p n b e = ([], refl, e)
rows_read ((c ∷ cs) ∷ []) p n b e = no_end c cs p n b (finished p.stage) (row_of (split comma (c ∷ cs))) e
rows_read (l ∷ m ∷ ls) p n b e = line_read l m ls p n b (λ q f. rows_read (m ∷ ls) q (n + 1) b f) (finished p.stage) (row_of (split comma l)) refl refl e
