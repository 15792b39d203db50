-- What the answer of a check says of the text.
use Rattle.std.proofs.Common.{◌≡◌, ℕ, zero, suc, ◌+◌, ◌<◌, ◌≤◌, true, false, eqb, List, [], ◌∷◌, ◌++◌, length, ℤ, Some, Ok, Err, Result, sym, refl, ap, ◌∙◌, subst, ⊎_elim, append_assoc, arith, MatchResult}
use Rattle.std.specs.List.{AllByRecursion as All}
use Rattle.std.proofs.lemmas.Bool.{cond-true, cond-false, cases_Bool, eqb-true, ne_eqb, le-leb}
use Rattle.faults.specs.declared.Spot.{Spot}
use Rattle.faults.specs.declared.Fault.{Fault}
use Rattle.faults.specs.Faults.{spot, fault, in_line}
use Rattle.cuts.specs.Cuts.{front, after, split}
use Rattle.cuts.proofs.Cutting.{Plain, split_append, after_shorter}
use Rattle.posting.specs.Limits.{places}
use Rattle.posting_text.specs.declared.entries.Entry.{Entry}
use Rattle.posting_text.specs.Lines.{line_entry, and_then}
use Rattle.posting_text.specs.Texts.{check_from, checking, passing, past_line}
use Rattle.posting_text.specs.Written.{Right, written, text_of}
use Rattle.posting_text.specs.Keeping.{never, then_held}
use Rattle.posting_text.specs.Filling.{granting}
use Rattle.posting_text.specs.Laws.{InOrder, FirstFault}
use Rattle.posting_text.proofs.Turning.{turn, check_turn, passing_rest, more_turn}
use Rattle.posting_text.proofs.Canonical.{entry_written, written_entry, written_plain}
use Rattle.cuts.specs.Fields.{line_end}

-- a line end and what stands around it
front_after : (s t : List ℕ) → after line_end s ≡ Some t → s ≡ front line_end s ++ (line_end ∷ t)
front_after [] t e = let z : ◌≡◌ {A = ℕ} 0 1 = cc in absurd (omega arith)
front_after (c ∷ cs) t e = ⊎_elim
    (λ (d : eqb c line_end ≡ true).
    let z : Some cs ≡ Some t = sym (cond-true _ _ _ d) ∙ e in let q : cs ≡ t = cc in
    (λ i. eqb-true c line_end d i ∷ q i) ∙ ap (λ (l : List ℕ). l ++ (line_end ∷ t)) (sym (cond-true _ _ _ d)))
    (λ (d : eqb c line_end ≡ false).
    ap (λ l. c ∷ l) (front_after cs t (sym (cond-false _ _ _ d) ∙ e)) ∙ ap (λ (l : List ℕ). l ++ (line_end ∷ t)) (sym (cond-false _ _ _ d)))
    (cases_Bool (eqb c line_end))

front_plain : (l t : List ℕ) → Plain line_end l → front line_end (l ++ (line_end ∷ t)) ≡ l
front_plain [] t h = refl
front_plain (b ∷ bs) t h = cond-false _ _ _ (ne_eqb b line_end h.0) ∙ ap (λ l. b ∷ l) (front_plain bs t h.1)

after_plain : (l t : List ℕ) → Plain line_end l → after line_end (l ++ (line_end ∷ t)) ≡ Some t
after_plain [] t h = refl
after_plain (b ∷ bs) t h = cond-false _ _ _ (ne_eqb b line_end h.0) ∙ after_plain bs t h.1

-- a text has a right line in front exactly where it is passed
past_written : (e : Entry) → Right e → (t : List ℕ) → past_line (written e ++ (line_end ∷ t)) ≡ Ok t
unfolding past_line
past_written e r t =
    ap (λ l. passing l (after line_end (written e ++ (line_end ∷ t)))) (front_plain (written e) t (written_plain e r))
    ∙ ap (passing (written e)) (after_plain (written e) t (written_plain e r))
    ∙ ap (λ (x : Result Entry Spot). and_then x (λ _. Ok t)) (entry_written e r)

written_past : (s t : List ℕ) → past_line s ≡ Ok t → (e : Entry) × Right e × (s ≡ written e ++ (line_end ∷ t)) × (length t < length s)
unfolding past_line
written_past s t h =
    let a : after line_end s ≡ Some t = passing_rest (front line_end s) (after line_end s) t h in
    let p : passing (front line_end s) (Some t) ≡ Ok t = sym (ap (passing (front line_end s)) a) ∙ h in
    let n = then_held (line_entry (front line_end s)) (λ _. Ok t) t p in
    let w = written_entry (front line_end s) n.0 n.1 in
    (n.0, w.1, front_after s t a ∙ ap (λ (l : List ℕ). l ++ (line_end ∷ t)) w.0, after_shorter line_end s t a)

-- the same of a text behind n lines
pub record InOrderBehind (n : ℕ) (text : List ℕ) (m : ℕ) : Type 0 where
  pub entries : List Entry
  pub all_right : All Right entries
  pub text_is : text ≡ text_of entries
  pub count_is : m ≡ n + length entries

pub record FaultBehind (n : ℕ) (text : List ℕ) (f : Fault) : Type 0 where
  pub before : List Entry
  pub all_right : All Right before
  pub rest : List ℕ
  pub text_is : text ≡ text_of before ++ rest
  pub line_is : f.line ≡ n + length before + 1
  pub fault_is : past_line rest ≡ Err (spot f.why f.field)

abbrev pub Says : ℕ → List ℕ → Result ℕ Fault → Type 0
Says n text r = MatchResult r (InOrderBehind n text) (FaultBehind n text)

-- one right line in front
more_says : (n : ℕ) (s t : List ℕ) (e : Entry) → Right e → s ≡ written e ++ (line_end ∷ t) → (r : Result ℕ Fault) → Says (n + 1) t r → Says n s r
more_says n s t e right is (Ok m) h = record {
  entries = e ∷ h.entries;
  all_right = (right, h.all_right);
  text_is = is ∙ ap (λ (u : List ℕ). written e ++ (line_end ∷ u)) h.text_is;
  count_is = omega (arith, h.count_is);
}
more_says n s t e right is (Err f) h = record {
  before = e ∷ h.before;
  all_right = (right, h.all_right);
  rest = h.rest;
  text_is = is ∙ ap (λ (u : List ℕ). written e ++ (line_end ∷ u)) h.text_is ∙ sym (append_assoc (written e) (line_end ∷ text_of h.before) h.rest);
  line_is = omega (arith, h.line_is);
  fault_is = h.fault_is;
}

stops_says : (n : ℕ) (s : List ℕ) (d : Spot) → past_line s ≡ Err d → Says n s (Err (fault d.why (n + 1) d.field))
stops_says n s d e = record { before = []; all_right = tt; rest = s; text_is = refl; line_is = omega arith; fault_is = e }

-- by what its first line is, and what is said of every shorter text
says_by : (n : ℕ) (s : List ℕ) (p : Result (List ℕ) Spot) → past_line s ≡ p
    → ((m : ℕ) (t : List ℕ) → length t < length s → Says m t (check_from m (split line_end t))) → Says n s (turn n (in_line (n + 1) p))
says_by n s (Ok t) e shorter =
    let w = written_past s t e in
    more_says n s t w.0 w.1 w.2 (check_from (n + 1) (split line_end t)) (shorter (n + 1) t w.3)
says_by n s (Err d) e shorter = stops_says n s d e

says : (k n : ℕ) (s : List ℕ) → length s ≤ k → Says n s (check_from n (split line_end s))
says k n [] h = record { entries = []; all_right = tt; text_is = refl; count_is = omega arith }
says zero n (c ∷ cs) h = absurd (omega arith)
says (suc k) n (c ∷ cs) h =
    subst (Says n (c ∷ cs)) (sym (check_turn n (c ∷ cs) (omega arith)))
    (says_by n (c ∷ cs) (past_line (c ∷ cs)) refl (λ m t less. says k m t (omega arith)))

not_right : (rest : List ℕ) (d : Spot) → past_line rest ≡ Err d → (e : Entry) → Right e → (t : List ℕ) → rest ≡ written e ++ (line_end ∷ t) → ⊥
not_right rest d h e r t is = never t d (sym h ∙ ap past_line is ∙ past_written e r t)

from_start : (text : List ℕ) (r : Result ℕ Fault) → Says 0 text r → MatchResult r (InOrder text) (FirstFault text)
from_start text (Ok m) h = record { entries = h.entries; all_right = h.all_right; text_is = h.text_is; count_is = omega (arith, h.count_is) }
from_start text (Err f) h = record {
  before = h.before;
  all_right = h.all_right;
  rest = h.rest;
  text_is = h.text_is;
  line_is = omega (arith, h.line_is);
  not_right = not_right h.rest (spot f.why f.field) h.fault_is;
  fault_is = h.fault_is;
}

pub check_says : (text : List ℕ) (r : Result ℕ Fault) → r ≡ checking text → MatchResult r (InOrder text) (FirstFault text)
unfolding checking
check_says text r e = from_start text r (subst (Says 0 text) (sym e) (says (length text) 0 text (omega arith)))

-- and a text of right lines is in order
accepts_from : (n : ℕ) (es : List Entry) → All Right es → check_from n (split line_end (text_of es)) ≡ Ok (n + length es)
accepts_from n [] h = ap Ok (omega arith)
accepts_from n (e ∷ es) h =
    ap (check_from n) (split_append line_end (written e) (text_of es) (written_plain e h.0))
    ∙ more_turn n (written e) (text_of es)
    ∙ ap (λ (x : Result Entry Spot). turn n (in_line (n + 1) (and_then x (λ _. Ok (text_of es))))) (entry_written e h.0)
    ∙ accepts_from (n + 1) es h.1
    ∙ ap Ok (omega arith)

pub accepts : (es : List Entry) → All Right es → checking (text_of es) ≡ Ok (length es)
unfolding checking
accepts es h = accepts_from 0 es h ∙ ap Ok (omega arith)

-- a table that is long enough is granted what the text is
pub grant_long : (text : List ℕ) (table : List ℤ) → places ≤ length table → checking text ≡ granting text table
grant_long text table long = sym (cond-true _ _ _ (le-leb places (length table) long))
