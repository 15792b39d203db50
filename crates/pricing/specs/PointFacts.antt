-- What the price of a point hangs on: the live facts of the weighting that it takes.
use Rattle.std.specs.Prelude.{ℕ, ◌<◌}
use Rattle.hour.specs.declared.book.Book.{Book}
use Rattle.posting.specs.Grids.{Grid}
use Rattle.posting.specs.Meanings.{reference_grid}
use Rattle.weighting.specs.declared.points.Point.{Point}
use Rattle.day_ahead.specs.Prices.{base_case, day_ahead_price}
use Rattle.day_ahead.specs.Facts.{LiveFacts}
use Rattle.day_ahead.specs.Moves.{PostedMoved}
use Rattle.real_time.specs.Weights.{base_view}
use Rattle.real_time.specs.Prices.{real_time_price}
use Rattle.real_time.specs.Laws.{SameFacts}
use Rattle.pricing.specs.Origins.{Priced}
use Rattle.pricing.specs.Points.{PricedAt}
use Rattle.pricing.specs.Taken.{OfTaken}

-- two hours agree in the live facts that the point's day-ahead price looks at
abbrev pub DayAheadFacts : Point → Grid → Grid → Book → Book → Type 0
DayAheadFacts p factors factors' book book' = OfTaken (base_case book) p (λ m. LiveFacts m factors factors' book book')

-- they decide cents and origin, or the refusal
abbrev pub DayAheadFactsDecide : Point → Grid → Book → Priced → Type 0
DayAheadFactsDecide p factors book r = (book' : Book) (factors' : Grid) → DayAheadFacts p factors factors' book book' → PricedAt (λ m. day_ahead_price m factors' book') p r

-- two hours agree in the live facts that the point's real-time price looks at
abbrev pub RealTimeFacts : Point → Grid → Grid → Book → Book → Type 0
RealTimeFacts p prices prices' book book' = OfTaken (base_view book) p (λ m. SameFacts m prices prices' book book')

-- they decide cents and origin, or the refusal
abbrev pub RealTimeFactsDecide : Point → Grid → Book → Priced → Type 0
RealTimeFactsDecide p prices book r = (book' : Book) (prices' : Grid) → RealTimeFacts p prices prices' book book' → PricedAt (λ m. real_time_price m prices' book') p r

-- a second book alike, with lambda lower by the congestion of the bus; under every posted constraint the weighting that the point's price takes has weight, and all factors are small
abbrev pub PointMoved : Point → Grid → ℕ → Book → Book → Type 0
PointMoved p factors bus book book' = OfTaken (base_case book) p (λ m. PostedMoved m factors bus book book')

-- cents and origin of the second book against that bus as the reference are these
abbrev pub PointReferenceStays : Point → Grid → Book → Priced → Type 0
PointReferenceStays p factors book r =
    (bus : ℕ) → bus < 256 → (book' : Book) → PointMoved p factors bus book book' → PricedAt (λ m. day_ahead_price m (reference_grid factors bus) book') p r
