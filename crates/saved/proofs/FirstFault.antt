-- The fault of a text that is not read is its first.
use Rattle.std.proofs.Common.{◌≡◌, ℕ, ◌+◌, ◌-◌, Bool, true, false, cond, List, [], ◌∷◌, ◌++◌, map, length, Ok, Err, Result, sym, refl, ap, ◌∙◌, subst, inl, inr, arith, MatchResult}
use Rattle.faults.specs.declared.Fault.{Fault}
use Rattle.faults.specs.declared.Spot.{Spot}
use Rattle.faults.specs.Faults.{in_line}
use Rattle.cuts.specs.Cuts.{split}
use Rattle.cuts.specs.Fields.{comma, line_end}
use Rattle.cuts.proofs.Cutting.{split_front}
use Rattle.hour.specs.Hour.{Hour}
use Rattle.saved_rows.specs.Order.{finished}
use Rattle.saved_rows.specs.Running.{Place, begin, step, onward, misended}
use Rattle.saved_rows.specs.Laws.{reached}
use Rattle.saved_rows.specs.declared.row.Row.{Row}
use Rattle.saved_rows.proofs.OnlySaved.{never}
use Rattle.saved_rows.proofs.FirstFault.{same_err}
use Rattle.saved.specs.Lines.{row_of}
use Rattle.saved.specs.Reading.{unended, read_from}
use Rattle.saved.specs.Laws.{fault_of, Wrong, line_of, First, FirstFault}
use Rattle.saved.proofs.RowTexts.{line_row}

-- from any place on, n lines before the first
abbrev From : Place → ℕ → List (List ℕ) → List ℕ → Fault → Type 0
From p n ls l f = (good : List Row) × (line : List ℕ) × (rest : List (List ℕ)) × (at : Place) × (l ∷ ls ≡ map line_of good ++ (line ∷ rest)) × (reached p n good ≡ Ok at) × Wrong at (n + length good) rest line f

here : (p : Place) (n : ℕ) (ls : List (List ℕ)) (l : List ℕ) (f : Fault) → Wrong p n ls l f → From p n ls l f
here p n ls l f w = ([], l, ls, p, refl, refl, subst (λ (m : ℕ). Wrong p m ls l f) (omega arith) w)

-- nothing follows the last line end
ends : (p : Place) (n : ℕ) (f : Fault) (t : Bool) → finished p.stage ≡ t → cond t (Ok p.hour) (Err (misended (n + 1))) ≡ Err f → From p n [] [] f
ends p n f true is e = never p.hour f (sym e)
ends p n f false is e = here p n [] [] f (is, same_err (misended (n + 1)) f e)

-- a line with no end
open_line : (p : Place) (n : ℕ) (b : ℕ) (bs : List ℕ) (f : Fault) (t : Bool) (x : Result Row Spot) → finished p.stage ≡ t → row_of (split comma (b ∷ bs)) ≡ x
    → cond {A = Result Hour Fault} t (Err (misended (n + 1))) (onward (in_line (n + 1) x) (λ _. Err (unended (n + 1)))) ≡ Err f → From p n [] (b ∷ bs) f
open_line p n b bs f true x is said e = here p n [] (b ∷ bs) f (inl (is, same_err (misended (n + 1)) f e))
open_line p n b bs f false (Ok r) is said e =
    here p n [] (b ∷ bs) f (inr (is, subst (λ (y : Result Row Spot). MatchResult y (λ _. f ≡ unended (n + 1)) (λ s. f ≡ fault_of n s)) (sym said) (same_err (unended (n + 1)) f e)))
open_line p n b bs f false (Err s) is said e =
    here p n [] (b ∷ bs) f (inr (is, subst (λ (y : Result Row Spot). MatchResult y (λ _. f ≡ unended (n + 1)) (λ s. f ≡ fault_of n s)) (sym said) (same_err (fault_of n s) f e)))

-- a line with its end
module _ (p : Place) (n : ℕ) (l m : List ℕ) (ls : List (List ℕ)) (f : Fault) (again : (q : Place) → read_from q (n + 1 + 1) (m ∷ ls) ≡ Err f → From q (n + 1) ls m f) where
  taken_line : (r : Row) (x : Result Place Spot) → finished p.stage ≡ false → row_of (split comma l) ≡ Ok r → step p n r ≡ x → onward (in_line (n + 1) x) (λ q. read_from q (n + 1 + 1) (m ∷ ls)) ≡ Err f → From p n (m ∷ ls) l f
  taken_line r (Err s) is form said e =
      here p n (m ∷ ls) l f (inr (is, subst (λ (y : Result Row Spot). MatchResult y (λ r. (s : Spot) × (step p n r ≡ Err s) × (f ≡ fault_of n s)) (λ s. f ≡ fault_of n s)) (sym form) (s, said, same_err (fault_of n s) f e)))
  taken_line r (Ok q) is form said e =
      let w = again q e in
      let count : n + 1 + length w.0 ≡ n + length (r ∷ w.0) = omega arith in (
        r ∷ w.0,
        w.1,
        w.2,
        w.3,
        (λ i. (line_row l r form).0 i ∷ w.4 i),
        ap (λ (y : Result Place Spot). onward y (λ q. reached q (n + 1) w.0)) said ∙ w.5,
        subst (λ (k : ℕ). Wrong w.3 k w.2 w.1 f) count w.6,
      )

  ended_line : (t : Bool) (x : Result Row Spot) → finished p.stage ≡ t → row_of (split comma l) ≡ x
      → cond t (Err (misended (n + 1))) (onward (in_line (n + 1) x) (λ r. onward (in_line (n + 1) (step p n r)) (λ q. read_from q (n + 1 + 1) (m ∷ ls)))) ≡ Err f → From p n (m ∷ ls) l f
  ended_line true x is form e = here p n (m ∷ ls) l f (inl (is, same_err (misended (n + 1)) f e))
  ended_line false (Err s) is form e =
      here p n (m ∷ ls) l f (inr (is, subst (λ (y : Result Row Spot). MatchResult y (λ r. (s : Spot) × (step p n r ≡ Err s) × (f ≡ fault_of n s)) (λ s. f ≡ fault_of n s)) (sym form) (same_err (fault_of n s) f e)))
  ended_line false (Ok r) is form e = taken_line r (step p n r) is form refl e

fault_from : (ls : List (List ℕ)) (l : List ℕ) (p : Place) (n : ℕ) (f : Fault) → read_from p (n + 1) (l ∷ ls) ≡ Err f → From p n ls l f
fault_from [] [] p n f e = ends p n f (finished p.stage) refl e
fault_from [] (b ∷ bs) p n f e = open_line p n b bs f (finished p.stage) (row_of (split comma (b ∷ bs))) refl refl e
fault_from (m ∷ ls) l p n f e =
    let before : n + 1 - 1 ≡ n = omega arith in
    ended_line p n l m ls f (λ q. fault_from ls m q (n + 1) f) (finished p.stage) (row_of (split comma l)) refl refl
    (sym (ap (λ (k : ℕ). cond (finished p.stage) (Err (misended (n + 1))) (onward (in_line (n + 1) (row_of (split comma l))) (λ r. onward (in_line (n + 1) (step p k r)) (λ q. read_from q (n + 1 + 1) (m ∷ ls))))) before) ∙ e)

-- a text has a first piece
from_pieces : (ps : List (List ℕ)) (l : List ℕ) (ls : List (List ℕ)) (t : List ℕ) (f : Fault) → split line_end t ≡ ps → ps ≡ l ∷ ls → read_from begin 1 ps ≡ Err f → First t f
from_pieces ps l ls t f cut is e =
    let w = fault_from ls l begin 0 f (ap (read_from begin 1) (sym is) ∙ e) in
    let count : 0 + length w.0 ≡ length w.0 = omega arith in
    record {
      good = w.0;
      line = w.1;
      rest = w.2;
      parts = cut ∙ is ∙ w.4;
      at = w.3;
      taken = w.5;
      wrong = subst (λ (k : ℕ). Wrong w.3 k w.2 w.1 f) count w.6;
    }

pub first_fault : FirstFault
first_fault t f e = from_pieces (split line_end t) _ _ t f refl (split_front line_end t) e
