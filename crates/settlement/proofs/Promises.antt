-- The promise over runs.
use Rattle.std.proofs.Common.{◌≡◌, ℕ, ◌<◌, ◌≤◌, List, [], ◌∷◌, ◌++◌, length, take, ℤ, Ok, sym, ap, ◌∙◌, subst, ⊎_elim, arith}
use Rattle.std.proofs.lemmas.List.{take_all}
use Rattle.std.proofs.lemmas.Bool.{cases_lt}
use Rattle.hour.specs.Hour.{Hour, entries, fresh}
use Rattle.hour.specs.declared.book.Book.{Book}
use Rattle.hour.specs.declared.records.Market.{Market}
use Rattle.hour.specs.declared.records.Market.TheVariants.{DayAhead, RealTime}
use Rattle.posting.specs.Grids.{Grid}
use Rattle.weighting.specs.Meanings.{Meaning}
use Rattle.weighting.specs.Views.{View}
use Rattle.weighting.specs.declared.points.Kind.{Kind}
use Rattle.weighting.specs.declared.points.Kind.TheVariants as kind
use Rattle.weighting.specs.declared.points.Point.{Point}
use Rattle.day_ahead.specs.Prices.{base_case}
use Rattle.day_ahead.specs.Moves.{bus_congestion, PostedMoved}
use Rattle.day_ahead.proofs.Living.{decided}
use Rattle.day_ahead.proofs.Moving.{price_stays}
use Rattle.real_time.specs.Weights.{base_view}
use Rattle.real_time.proofs.Laws.{same_facts}
use Rattle.pricing.specs.Markets.{market_price}
use Rattle.pricing.specs.Origins.{Priced, own_price}
use Rattle.pricing.specs.Taken.{TakenByKind}
use Rattle.pricing.proofs.Standing.{point_stands}
use Rattle.pricing.proofs.Deciding.{live_facts_decide, reference_stays, same_facts_decide}
use Rattle.saved.specs.Texts.{saved_text}
use Rattle.saved.specs.Reading.{reading}
use Rattle.settlement.specs.declared.deeds.Deed.{Deed}
use Rattle.settlement.specs.Runs.{after_all, hour_of}
use Rattle.settlement.specs.Prices.{PointPriced, WeightingPriced}
use Rattle.settlement.specs.Promise.{LeftBy, WeightingFacts, PointFacts, lowering, InRange, Weighed, Resumes, Promise}
use Rattle.settlement.proofs.Hours.{after_append, resumes, hour_lowered, same_hour}

pub weightings : (market : Market) (m : Meaning) (book book' : Book) (p q : Grid) → WeightingFacts market m p q book book' → market_price market m p book ≡ market_price market m q book'
weightings DayAhead m book book' p q facts = decided m p q book book' facts
weightings RealTime m book book' p q facts = same_facts m p q book book' facts

points : (market : Market) (point : Point) (book book' : Book) (p q : Grid) (r : Priced) → PointFacts market point p q book book'
    → PointPriced market point p book r → PointPriced market point q book' r
points DayAhead point book book' p q r facts priced = point_stands _ _ _ _ (live_facts_decide p q book book') point r facts priced
points RealTime point book book' p q r facts priced = point_stands _ _ _ _ (same_facts_decide p q book book') point r facts priced

-- what holds of every weighting holds of the one that a point takes
every_taken : (base : View) (kind : Kind) (z : ℤ) (Of : Meaning → Type 0) → ((m : Meaning) → Of m) → TakenByKind base kind z Of
every_taken base kind.Hub z Of of = λ h e. of _
every_taken base kind.Zone z Of of = λ a e. of _
every_taken base kind.Tie z Of of = λ t e. of _

-- and what follows from a thing of that weighting
taken_so : (base : View) (kind : Kind) (z : ℤ) (Of So : Meaning → Type 0) → ((m : Meaning) → Of m → So m) → TakenByKind base kind z Of → TakenByKind base kind z So
taken_so base kind.Hub z Of So so of = λ h e. so _ (of h e)
taken_so base kind.Zone z Of So so of = λ a e. so _ (of a e)
taken_so base kind.Tie z Of So so of = λ t e. so _ (of t e)

point_facts : (market : Market) (point : Point) (posted : Grid) (book book' : Book) → entries book ≡ entries book' → PointFacts market point posted posted book book'
point_facts DayAhead point posted book book' e = every_taken (base_case book) point.kind point.number _ (λ m. same_hour DayAhead m posted book book' e)
point_facts RealTime point posted book book' e = every_taken (base_view book) point.kind point.number _ (λ m. same_hour RealTime m posted book book' e)

-- two books of one hour have the same prices
pub point_of_hour : (market : Market) (point : Point) (posted : Grid) (book book' : Book) (r : Priced) → entries book ≡ entries book'
    → PointPriced market point posted book r → PointPriced market point posted book' r
point_of_hour market point posted book book' r e priced = points market point book book' posted posted r (point_facts market point posted book book' e) priced

pub weighting_of_hour : (market : Market) (m : Meaning) (posted : Grid) (book book' : Book) (r : Priced) → entries book ≡ entries book'
    → WeightingPriced market m posted book r → WeightingPriced market m posted book' r
weighting_of_hour market m posted book book' r e priced = priced ∙ ap own_price (weightings market m book book' posted posted (same_hour market m posted book book' e))

-- a run with lambda moved down leaves a book that is the first but for lambda
module _ (deeds : List Deed) (book book' : Book) (posted : Grid) (bus : ℕ) (is : LeftBy deeds book) (range : InRange (entries book).lambda (bus_congestion posted bus book))
    (moved : LeftBy (deeds ++ lowering (entries book).lambda (bus_congestion posted bus book)) book') where
  abbrev congested : ℤ
  congested = bus_congestion posted bus book

  moved_hour : entries book' ≡ after_all (entries book) (lowering (entries book).lambda congested)
  moved_hour = moved ∙ after_append fresh deeds (lowering (entries book).lambda congested) ∙ ap (λ (h : Hour). after_all h (lowering (entries book).lambda congested)) (sym is)

  pub is_moved : (m : Meaning) → Weighed posted book m → PostedMoved m posted bus book book'
  is_moved m weighed =
      let l = hour_lowered (entries book) congested range in
      record {
        moved = record {
          lambda = ap (λ (h : Hour). h.lambda) moved_hour ∙ l.lambda;
          buses = ap (λ (h : Hour). h.buses) moved_hour ∙ l.buses;
          constraints = ap (λ (h : Hour). h.constraints) moved_hour ∙ l.constraints;
          weight = weighed.weight;
        };
        small_factors = weighed.small_factors;
      }

-- the saved text of an hour is read as that hour
abbrev pub Back : Hour → Type 0
Back h = reading (saved_text h) ≡ Ok h

module _ (deeds : List Deed) (back : (k : ℕ) → k ≤ length deeds → Back (hour_of (take k deeds))) where
  -- past the end, the first deeds are all of them
  all_back : (first : ℕ) → Back (hour_of (take first deeds))
  all_back first =
      ⊎_elim
      (λ (less : first < length deeds). back first (omega arith))
      (λ (past : length deeds ≤ first). subst (λ (ds : List Deed). Back (hour_of ds)) (take_all (length deeds) deeds (omega arith) ∙ sym (take_all first deeds past)) (back (length deeds) (omega arith)))
      (cases_lt first (length deeds))

  come_back : (first : ℕ) (others : List Deed) (resume : Deed) → Resumes (saved_text (hour_of (take first deeds))) resume
      → hour_of (others ++ (resume ∷ [])) ≡ hour_of (take first deeds)
  come_back first others resume is =
      after_append fresh others (resume ∷ []) ∙ resumes (hour_of others) (hour_of (take first deeds)) (saved_text (hour_of (take first deeds))) resume (all_back first) is

  pub promise : Promise deeds
  promise = record {
    live_facts_decide_weightings = λ market m others book book' p q _ _ facts. weightings market m book book' p q facts;
    live_facts_decide_points = λ market point others book book' p q r _ _ facts priced. points market point book book' p q r facts priced;
    reference_moves_no_weighting = λ m book book' posted bus _ is range moved weighed.
        price_stays m posted bus book book' (is_moved deeds book book' posted bus is range moved m weighed);
    reference_moves_no_point = λ point book book' posted bus r _ is range moved weighed priced.
        point_stands _ _ _ _ (reference_stays posted bus book book') point r
        (taken_so (base_case book) point.kind point.number (Weighed posted book) _ (is_moved deeds book book' posted bus is range moved) weighed) priced;
    saved_text_is_accepted = all_back;
    saved_hour_comes_back = come_back;
    saved_facts_come_back = λ first others resume is book book' left left' market m posted.
        same_hour market m posted book book' (left ∙ sym (come_back first others resume is) ∙ sym left');
  }
