-- What a row says: at every book that the calls make of a fresh one, whatever a price call may answer for the point is this.
use Rattle.std.specs.Prelude.{◌≡◌, ℕ, List, ℤ, pos, Ok, Result}
use Rattle.refusals.specs.declared.Refusal.{Refusal}
use Rattle.hour.specs.Hour.{entries, fresh}
use Rattle.hour.specs.Replays.{worked}
use Rattle.hour.specs.declared.book.Book.{Book}
use Rattle.hour.specs.declared.calls.Call.{Call}
use Rattle.posting.specs.Grids.{Grid}
use Rattle.weighting.specs.Meanings.{Meaning}
use Rattle.weighting.specs.declared.points.Kind.TheVariants as kind
use Rattle.weighting.specs.declared.points.Point.{Point}
use Rattle.day_ahead.specs.Prices.{day_ahead_price}
use Rattle.real_time.specs.Prices.{real_time_price}
use Rattle.pricing.specs.Origins.{Priced}
use Rattle.pricing.specs.Points.{PricedAt}
use Rattle.pricing.specs.declared.origins.Origin.{Origin}

abbrev pub hub : ℕ → Point
hub n = record { kind = kind.Hub; number = pos n }

abbrev pub zone : ℕ → Point
zone n = record { kind = kind.Zone; number = pos n }

abbrev pub tie : ℕ → Point
tie n = record { kind = kind.Tie; number = pos n }

-- what the contract of a price call allows for the point is these cents with this origin, and nothing else
abbrev pub Answers : (Meaning → Result ℤ Refusal) → Point → ℤ → Origin → Type 0
Answers price point cents origin = (r : Priced) → PricedAt price point r → r ≡ Ok (cents, origin)

module _ (calls : List Call) (posted : Grid) (point : Point) (cents : ℤ) (origin : Origin) where
  abbrev pub DayAheadRow : Type 0
  DayAheadRow = (book : Book) → entries book ≡ worked fresh calls → Answers (λ m. day_ahead_price m posted book) point cents origin

  abbrev pub RealTimeRow : Type 0
  RealTimeRow = (book : Book) → entries book ≡ worked fresh calls → Answers (λ m. real_time_price m posted book) point cents origin
