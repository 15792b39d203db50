-- Laws of real-time prices.
use Rattle.std.specs.Prelude.{◌≡◌, ℕ, ◌*◌, ◌<◌, ℤ, ◌≤ℤ◌, IfOk, Some, Result}
use Rattle.std.specs.Int.{int_max}
use Rattle.numbers.specs.Rounding.{Nearest}
use Rattle.posting.specs.Grids.{Grid}
use Rattle.hour.specs.Hour.{entries, run_at}
use Rattle.hour.specs.declared.book.Book.{Book}
use Rattle.hour.specs.declared.records.Run.{Run}
use Rattle.weighting.specs.Views.{Alike}
use Rattle.weighting.specs.Meanings.{Meaning}
use Rattle.real_time.specs.Weights.{base_view}
use Rattle.real_time.specs.Prices.{interval, floor_price, base_sum, real_time_price}
use Rattle.refusals.specs.declared.Refusal.{Refusal}

-- the greater of the floor and the whole number nearest to n / d, the higher of two that are equally near
pub record NearestAbove (n : ℤ) (d : ℕ) (price : ℤ) : Type 0 where
  pub cent : ℤ
  pub nearest : Nearest n d cent
  pub is : price ≡ int_max cent floor_price
  pub not_below : floor_price ≤ℤ price

-- a granted price is the nearest cent of the exact fraction, and never below the floor
abbrev pub NearestCent : Meaning → Grid → Book → Result ℤ Refusal → Type 0
NearestCent m prices book r = IfOk r (NearestAbove (base_sum m prices book) (interval * m.total (base_view book)))

-- two books and two postings that agree in the runs, in the live buses with their hub buses, load zones and loads, and in the posted
-- prices of the buses that weigh in the entered runs
pub record SameFacts (m : Meaning) (p q : Grid) (a b : Book) : Type 0 where
  pub runs : (k : ℕ) → k < 16 → run_at (entries a) k ≡ run_at (entries b) k
  pub buses : Alike (base_view a) (base_view b)
  pub prices : (k : ℕ) → k < 16 → (run : Run) → run_at (entries a) k ≡ Some run → (bus : ℕ) → bus < 256 → 0 < m.weight (base_view a) bus → p.at bus k ≡ q.at bus k

-- have the same price or refusal
abbrev pub SameFactsSamePrice : Meaning → Grid → Book → Result ℤ Refusal → Type 0
SameFactsSamePrice m p a r = (q : Grid) (b : Book) → SameFacts m p q a b → real_time_price m q b ≡ r
