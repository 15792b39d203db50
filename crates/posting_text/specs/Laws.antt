-- Laws of posting texts, in the words of a desk that writes them.
use Rattle.std.specs.Prelude.{◌≡◌, ℕ, ◌+◌, ◌<◌, ◌≤◌, ◌⊎◌, List, [], ◌∷◌, ◌++◌, length, ℤ, pos, Err, Result, MatchResult, ◌≢◌}
use Rattle.std.specs.List.{AllByRecursion}
use Rattle.faults.specs.declared.Fault.{Fault}
use Rattle.faults.specs.declared.Why.TheVariants.{Short}
use Rattle.faults.specs.Faults.{spot, fault}
use Rattle.posting.specs.Grids.{Grid, SmallIn}
use Rattle.posting_text.specs.declared.entries.Entry.{Entry}
use Rattle.posting_text.specs.Texts.{past_line}
use Rattle.posting_text.specs.Written.{Right, written, text_of}
use Rattle.posting_text.specs.Meanings.{direct_grid}
use Rattle.posting.specs.Limits.{places}
use Rattle.cuts.specs.Fields.{line_end}

-- a text in order is a line for each of n entries, all of which may be posted
pub record InOrder (text : List ℕ) (n : ℕ) : Type 0 where
  pub entries : List Entry
  pub all_right : AllByRecursion Right entries
  pub text_is : text ≡ text_of entries
  pub count_is : n ≡ length entries

-- a fault is of the first line that is not right
pub record FirstFault (text : List ℕ) (f : Fault) : Type 0 where
  -- right lines stand before it
  pub before : List Entry
  pub all_right : AllByRecursion Right before
  pub rest : List ℕ
  pub text_is : text ≡ text_of before ++ rest
  pub line_is : f.line ≡ length before + 1
  -- it is no right line
  pub not_right : (e : Entry) → Right e → (t : List ℕ) → rest ≢ written e ++ (line_end ∷ t)
  -- and it has this fault at this field
  pub fault_is : past_line rest ≡ Err (spot f.why f.field)

-- a fill is granted where the table is long enough and the text in order; else the fault is the table's, or the text's first
abbrev pub FillSays : List ℕ → List ℤ → Result (Unit {0}) Fault → Type 0
FillSays text table r =
    MatchResult r
    (λ _. (places ≤ length table) × ((n : ℕ) × InOrder text n))
    (λ f. ((length table < places) × (f ≡ fault Short 0 0)) ⊎ ((places ≤ length table) × FirstFault text f))

-- empty, or with a line end as its last byte
abbrev pub Whole : List ℕ → Type 0
Whole text = (text ≡ []) ⊎ ((t : List ℕ) × (text ≡ t ++ (line_end ∷ [])))

-- no line end among the bytes
abbrev pub OneLine : List ℕ → Type 0
OneLine line = AllByRecursion (λ b. b ≢ line_end) line

-- no entry that may be posted is written so
abbrev pub Wrong : List ℕ → Type 0
Wrong line = (e : Entry) → Right e → line ≢ written e

-- a text with one line more
abbrev pub with_line : List ℕ → List ℕ → List ℕ
with_line text line = text ++ (line ++ (line_end ∷ []))

-- of the direct posting of a text
pub record DirectLaws (text : List ℕ) (direct : Grid) : Type 0 where
  -- no number is more than 1,000,000 away from 0
  pub all_are_small : (column : ℕ) → SmallIn direct column
  -- where nothing is posted, 0 is read
  pub empty_reads_zero : text ≡ [] → (bus column : ℕ) → direct.at bus column ≡ pos 0
  -- one right line more is read at its bus and column
  pub right_line_is_read : Whole text → (e : Entry) → Right e → (direct_grid (with_line text (written e))).at e.bus e.column ≡ e.number
  -- and changes no other place
  pub other_places_stay : Whole text → (e : Entry) → Right e → (bus column : ℕ) → (bus ≡ e.bus → column ≢ e.column)
      → (direct_grid (with_line text (written e))).at bus column ≡ direct.at bus column
  -- one wrong line more changes nothing
  pub wrong_line_changes_nothing : Whole text → (line : List ℕ) → OneLine line → Wrong line
      → (bus column : ℕ) → (direct_grid (with_line text line)).at bus column ≡ direct.at bus column
  -- and so does one without its end
  pub unended_line_changes_nothing : Whole text → (line : List ℕ) → OneLine line
      → (bus column : ℕ) → (direct_grid (text ++ line)).at bus column ≡ direct.at bus column
  -- of two lines for one bus and column the first does not matter
  pub first_of_two_does_not_matter : Whole text → (between : List ℕ) → Whole between
      → (first second : Entry) → Right first → Right second → first.bus ≡ second.bus → first.column ≡ second.column
      → (bus column : ℕ) → (direct_grid (with_line (with_line text (written first) ++ between) (written second))).at bus column
      ≡ (direct_grid (with_line (text ++ between) (written second))).at bus column
