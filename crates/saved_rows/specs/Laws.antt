-- Laws of saved lines: they and the books are one to one, they can be written, and a fault is the first.
use Rattle.std.specs.Prelude.{◌≡◌, ℕ, suc, ◌+◌, ◌*◌, ◌^◌, ◌<◌, ◌≤◌, true, false, ◌⊎◌, List, [], ◌∷◌, ◌++◌, length, ℤ, pos, negsuc, Ok, Err, Result}
use Rattle.std.specs.List.{AllByRecursion}
use Rattle.faults.specs.declared.Spot.{Spot}
use Rattle.faults.specs.declared.Fault.{Fault}
use Rattle.faults.specs.Faults.{fault}
use Rattle.hour.specs.Hour.{Hour, entries}
use Rattle.hour.specs.declared.book.Book.{Book}
use Rattle.saved_rows.specs.Rows.{rows, all_rows}
use Rattle.saved_rows.specs.Order.{finished}
use Rattle.saved_rows.specs.Running.{Place, begin, step, onward, run_rows, misended}
use Rattle.saved_rows.specs.declared.row.Row.{Row}
use Rattle.saved_rows.specs.declared.row.Row.TheVariants as row

-- the lines of a book make that book
abbrev pub ReadsBack : Type 0
ReadsBack = (book : Book) → run_rows begin 1 (all_rows (entries book)) ≡ Ok (entries book)

-- and no other lines are taken
abbrev pub OnlySaved : Type 0
OnlySaved = (rs : List Row) (h : Hour) → run_rows begin 1 rs ≡ Ok h → rs ≡ all_rows h

-- at most fifteen digits
abbrev pub FewDigits : ℤ → Type 0
FewDigits (pos n) = n < 10 ^ 15
FewDigits (negsuc n) = suc n < 10 ^ 15

-- a line whose numbers can be written
abbrev pub Writable : Row → Type 0
Writable (row.Bus b) = FewDigits b.bus × FewDigits b.hub_bus × FewDigits b.zone × FewDigits b.day_ahead_load × FewDigits b.real_time_load
Writable (row.Lambda z) = FewDigits z
Writable (row.Constraint i p) = FewDigits i × FewDigits p
Writable (row.Outage i b) = FewDigits i × FewDigits b
Writable (row.Run i s a r) = FewDigits i × FewDigits s × FewDigits a × FewDigits r
Writable (row.End n) = FewDigits n

-- the lines before the last are at most a bus line each, lambda, a constraint line each with its outages, and a run line each
abbrev pub most_rows : ℕ
most_rows = 256 + 1 + 32 * 257 + 16

-- the lines of a book are few enough, and can be written
abbrev pub AllWritable : Type 0
AllWritable = (book : Book) → (length (rows (entries book)) ≤ most_rows) × AllByRecursion Writable (all_rows (entries book))

-- the place that lines lead to where each of them is taken, n lines before the first
abbrev pub reached : Place → ℕ → List Row → Result Place Spot
reached p n [] = Ok p
reached p n (r ∷ rs) = onward (step p n r) (λ q. reached q (n + 1) rs)

-- what is wrong where n lines were taken: the last line is missing, or followed by more, or the next line is not taken
abbrev pub Wrong : Place → ℕ → List Row → Fault → Type 0
Wrong p n [] f = (finished p.stage ≡ false) × (f ≡ misended (n + 1))
Wrong p n (r ∷ rs) f =
    ((finished p.stage ≡ true) × (f ≡ misended (n + 1)))
    ⊎ ((finished p.stage ≡ false) × (s : Spot) × (step p n r ≡ Err s) × (f ≡ fault s.why (n + 1) s.field))

-- the lines before the fault are taken, and it is of the line behind them
pub record First (rs : List Row) (f : Fault) : Type 0 where
  pub good : List Row
  pub rest : List Row
  pub parts : rs ≡ good ++ rest
  pub at : Place
  pub taken : reached begin 0 good ≡ Ok at
  pub wrong : Wrong at (length good) rest f

abbrev pub FirstFault : Type 0
FirstFault = (rs : List Row) (f : Fault) → run_rows begin 1 rs ≡ Err f → First rs f

pub record Laws : Type 0 where
  -- the lines of a book make that book
  pub reads_back : ReadsBack
  -- lines that are taken are the lines of the hour that they make
  pub only_saved : OnlySaved
  -- the lines of a book are few enough, and can be written
  pub all_writable : AllWritable
  -- lines that are not taken are refused by their first fault
  pub first_fault : FirstFault
