-- Laws of saved texts: they and the books are one to one, and a fault is the first.
use Rattle.std.specs.Prelude.{◌≡◌, ℕ, ◌+◌, true, false, ◌⊎◌, List, [], ◌∷◌, ◌++◌, map, length, Ok, Err, Result, MatchResult}
use Rattle.faults.specs.declared.Fault.{Fault}
use Rattle.faults.specs.declared.Spot.{Spot}
use Rattle.faults.specs.Faults.{fault}
use Rattle.cuts.specs.Cuts.{split, join}
use Rattle.cuts.specs.Fields.{comma, line_end}
use Rattle.hour.specs.Hour.{Hour, entries}
use Rattle.hour.specs.declared.book.Book.{Book}
use Rattle.saved_rows.specs.Order.{finished}
use Rattle.saved_rows.specs.Running.{Place, begin, step, misended}
use Rattle.saved_rows.specs.Laws.{reached}
use Rattle.saved_rows.specs.declared.row.Row.{Row}
use Rattle.saved.specs.Lines.{row_of}
use Rattle.saved.specs.Texts.{fields_of, saved_text}
use Rattle.saved.specs.Reading.{unended, reading}

-- the saved text of a book is read as the book's entries
abbrev pub ReadsBack : Type 0
ReadsBack = (book : Book) → reading (saved_text (entries book)) ≡ Ok (entries book)

-- and a text that is read is the saved text of the hour that it gives
abbrev pub OnlySaved : Type 0
OnlySaved = (t : List ℕ) (h : Hour) → reading t ≡ Ok h → t ≡ saved_text h

-- a fault within the line that n lines stand before
abbrev pub fault_of : ℕ → Spot → Fault
fault_of n s = fault s.why (n + 1) s.field

-- a line that is there: it follows the last line, or its form is wrong, or else what its row brings
abbrev pub WrongLine : Place → ℕ → List ℕ → (Row → Type 0) → Fault → Type 0
WrongLine p n line further f =
    ((finished p.stage ≡ true) × (f ≡ misended (n + 1)))
    ⊎ ((finished p.stage ≡ false) × MatchResult (row_of (split comma line)) further (λ s. f ≡ fault_of n s))

-- what is wrong behind n lines, by the pieces that follow the next and by the next: the last line is missing; or a line is wrong, has no end, or is not taken
abbrev pub Wrong : Place → ℕ → List (List ℕ) → List ℕ → Fault → Type 0
Wrong p n [] [] f = (finished p.stage ≡ false) × (f ≡ misended (n + 1))
Wrong p n [] (b ∷ bs) f = WrongLine p n (b ∷ bs) (λ _. f ≡ unended (n + 1)) f
Wrong p n (l ∷ ls) line f = WrongLine p n line (λ r. (s : Spot) × (step p n r ≡ Err s) × (f ≡ fault_of n s)) f

-- the line of a row, without its end
abbrev pub line_of : Row → List ℕ
line_of r = join comma (fields_of r)

-- the lines before the fault are those of rows that are taken, and it is of the line behind them
pub record First (t : List ℕ) (f : Fault) : Type 0 where
  pub good : List Row
  pub line : List ℕ
  pub rest : List (List ℕ)
  pub parts : split line_end t ≡ map line_of good ++ (line ∷ rest)
  pub at : Place
  pub taken : reached begin 0 good ≡ Ok at
  pub wrong : Wrong at (length good) rest line f

abbrev pub FirstFault : Type 0
FirstFault = (t : List ℕ) (f : Fault) → reading t ≡ Err f → First t f

pub record Laws : Type 0 where
  -- the saved text of a book is read as that book
  pub reads_back : ReadsBack
  -- a text that is read is the saved text of what it gives
  pub only_saved : OnlySaved
  -- a text that is not read is refused by its first fault
  pub first_fault : FirstFault

-- what a resume did: the hour of the text, whole; or the text's fault, and the hour as it was
abbrev pub Resumed : Result Hour Fault → Hour → Hour → Result (Unit {0}) Fault → Type 0
Resumed (Ok h) before after r = (r ≡ Ok tt) × (after ≡ h)
Resumed (Err e) before after r = (r ≡ Err e) × (after ≡ before)
