-- The promise over runs: a price hangs on its hour's live facts alone, after any list of calls, saves and resumes, for every weighting and every posting.
use Rattle.std.specs.Prelude.{◌≡◌, ℕ, ◌<◌, true, List, [], ◌∷◌, ◌++◌, take, ℤ, ◌-ℤ◌, Some, None, Ok, Option}
use Rattle.bounds.specs.Bounds.{within}
use Rattle.hour.specs.Limits.{most_lambda}
use Rattle.hour.specs.Hour.{entries}
use Rattle.hour.specs.declared.book.Book.{Book}
use Rattle.hour.specs.declared.calls.Call.TheVariants.{Lambda}
use Rattle.hour.specs.declared.records.Market.{Market}
use Rattle.hour.specs.declared.records.Market.TheVariants.{DayAhead, RealTime}
use Rattle.posting.specs.Grids.{Grid, SmallIn}
use Rattle.posting.specs.Meanings.{reference_grid}
use Rattle.weighting.specs.Meanings.{Meaning}
use Rattle.weighting.specs.declared.points.Point.{Point}
use Rattle.day_ahead.specs.Prices.{base_case, case_under}
use Rattle.day_ahead.specs.Facts.{LiveFacts, Posted}
use Rattle.day_ahead.specs.Moves.{bus_congestion}
use Rattle.real_time.specs.Laws.{SameFacts}
use Rattle.pricing.specs.Markets.{market_price}
use Rattle.pricing.specs.Origins.{Priced}
use Rattle.pricing.specs.Taken.{OfTaken}
use Rattle.pricing.specs.PointFacts.{DayAheadFacts, RealTimeFacts}
use Rattle.saved.specs.Texts.{saved_text}
use Rattle.saved.specs.Reading.{reading}
use Rattle.settlement.specs.declared.deeds.Deed.{Deed}
use Rattle.settlement.specs.declared.deeds.Deed.TheVariants as deed
use Rattle.settlement.specs.Runs.{hour_of}
use Rattle.settlement.specs.Prices.{PointPriced}

-- a book that a run leaves
abbrev pub LeftBy : List Deed → Book → Type 0
LeftBy deeds book = entries book ≡ hour_of deeds

-- two hours agree in the live facts of a weighting in a market
abbrev pub WeightingFacts : Market → Meaning → Grid → Grid → Book → Book → Type 0
WeightingFacts DayAhead = LiveFacts
WeightingFacts RealTime = SameFacts

-- in those of a point, which are those of the weighting that it takes
abbrev pub PointFacts : Market → Point → Grid → Grid → Book → Book → Type 0
PointFacts DayAhead = DayAheadFacts
PointFacts RealTime = RealTimeFacts

-- the call that moves lambda down, where it is set
abbrev pub lowering : Option ℤ → ℤ → List Deed
lowering None by = []
lowering (Some lambda) by = deed.Call (Lambda (lambda -ℤ by)) ∷ []

-- a lambda that a book may have
abbrev pub InRange : Option ℤ → ℤ → Type 0
InRange None by = Unit {0}
InRange (Some lambda) by = within (lambda -ℤ by) most_lambda ≡ true

-- under every posted constraint the weighting has weight, and all factors are small
pub record Weighed (posted : Grid) (book : Book) (m : Meaning) : Type 0 where
  pub weight : (k : ℕ) → k < 32 → Posted book k → 0 < m.total (case_under book k)
  pub small_factors : (k : ℕ) → k < 32 → Posted book k → SmallIn posted k

-- a resume of that text
abbrev pub Resumes : List ℕ → Deed → Type 0
Resumes text (deed.Call call) = ⊥
Resumes text (deed.Save room) = ⊥
Resumes text (deed.Resume t) = t.now ≡ text
Resumes text (deed.Price market point) = ⊥
Resumes text (deed.PriceWeighting market) = ⊥

-- what is promised of a run, beside every other run
pub record Promise (deeds : List Deed) : Type 0 where
  -- two books, each with its own run and posting, that agree in the live facts of a weighting give it the same price or refusal
  pub live_facts_decide_weightings : (market : Market) (m : Meaning) (others : List Deed) (book book' : Book) (posted posted' : Grid)
      → LeftBy deeds book → LeftBy others book' → WeightingFacts market m posted posted' book book'
      → market_price market m posted book ≡ market_price market m posted' book'
  -- and so with the live facts, cents and origin, or refusal, of a point
  pub live_facts_decide_points : (market : Market) (point : Point) (others : List Deed) (book book' : Book) (posted posted' : Grid) (r : Priced)
      → LeftBy deeds book → LeftBy others book' → PointFacts market point posted posted' book book'
      → PointPriced market point posted book r → PointPriced market point posted' book' r
  -- after one more call that moves lambda down by a bus's congestion, the day-ahead price against that bus as the reference is the same
  pub reference_moves_no_weighting : (m : Meaning) (book book' : Book) (posted : Grid) (bus : ℕ) → bus < 256
      → LeftBy deeds book → InRange (entries book).lambda (bus_congestion posted bus book)
      → LeftBy (deeds ++ lowering (entries book).lambda (bus_congestion posted bus book)) book' → Weighed posted book m
      → market_price DayAhead m (reference_grid posted bus) book' ≡ market_price DayAhead m posted book
  pub reference_moves_no_point : (point : Point) (book book' : Book) (posted : Grid) (bus : ℕ) (r : Priced) → bus < 256
      → LeftBy deeds book → InRange (entries book).lambda (bus_congestion posted bus book)
      → LeftBy (deeds ++ lowering (entries book).lambda (bus_congestion posted bus book)) book' → OfTaken (base_case book) point (Weighed posted book)
      → PointPriced DayAhead point posted book r → PointPriced DayAhead point (reference_grid posted bus) book' r
  -- the text that a save gives after the first deeds is accepted by any later resume, in this run or another
  pub saved_text_is_accepted : (first : ℕ) → reading (saved_text (hour_of (take first deeds))) ≡ Ok (hour_of (take first deeds))
  -- the hour is then the one that stood at that save
  pub saved_hour_comes_back : (first : ℕ) (others : List Deed) (resume : Deed) → Resumes (saved_text (hour_of (take first deeds))) resume
      → hour_of (others ++ (resume ∷ [])) ≡ hour_of (take first deeds)
  -- with every weighting's and every point's live facts in both markets
  pub saved_facts_come_back : (first : ℕ) (others : List Deed) (resume : Deed) → Resumes (saved_text (hour_of (take first deeds))) resume
      → (book book' : Book) → LeftBy (take first deeds) book → LeftBy (others ++ (resume ∷ [])) book'
      → (market : Market) (m : Meaning) (posted : Grid) → WeightingFacts market m posted posted book book'
