-- The price of a point, or of a weighting by itself, in either market, and the answers of a run.
use Rattle.std.specs.Prelude.{◌≡◌, ℕ, ◌<◌, ◌≤◌, List, [], ◌∷◌, length, Ok, Err, vec_items, Result}
use Rattle.refusals.specs.declared.Refusal.TheVariants.{BufferShort}
use Rattle.faults.specs.declared.Fault.{Fault}
use Rattle.hour.specs.Hour.{Hour, entries}
use Rattle.hour.specs.Replays.{step, said}
use Rattle.hour.specs.declared.book.Book.{Book}
use Rattle.hour.specs.declared.records.Market.{Market}
use Rattle.posting.specs.Grids.{Grid}
use Rattle.weighting.specs.Meanings.{Meaning}
use Rattle.weighting.specs.declared.points.Point.{Point}
use Rattle.pricing.specs.Markets.{market_price}
use Rattle.pricing.specs.Origins.{Priced, own_price}
use Rattle.pricing.specs.Points.{PricedAt}
use Rattle.saved.specs.Texts.{saved_text}
use Rattle.saved.specs.Reading.{reading}
use Rattle.settlement.specs.declared.deeds.Deed.{Deed}
use Rattle.settlement.specs.declared.deeds.Deed.TheVariants as deed
use Rattle.settlement.specs.declared.deeds.Answer.{Answer}
use Rattle.settlement.specs.declared.deeds.Answer.TheVariants as answer
use Rattle.settlement.specs.Runs.{after_deed}

-- cents and origin, or the refusal, of a point in a market
abbrev pub PointPriced : Market → Point → Grid → Book → Priced → Type 0
PointPriced market point posted book r = PricedAt (λ m. market_price market m posted book) point r

-- of a weighting by itself
abbrev pub WeightingPriced : Market → Meaning → Grid → Book → Priced → Type 0
WeightingPriced market m posted book r = r ≡ own_price (market_price market m posted book)

-- what a resume says of its text
abbrev pub accepted : Result Hour Fault → Result (Unit {0}) Fault
accepted (Ok h) = Ok tt
accepted (Err e) = Err e

-- a save into a buffer of so many bytes gives the saved text, or 14 where the text is longer
abbrev pub Saves : ℕ → Hour → Answer → Type 0
Saves room h (answer.Called r) = ⊥
Saves room h (answer.Saved (Ok text)) = (vec_items text ≡ saved_text h) × (length (saved_text h) ≤ room)
Saves room h (answer.Saved (Err e)) = (e ≡ BufferShort) × (room < length (saved_text h))
Saves room h (answer.Resumed r) = ⊥
Saves room h (answer.Priced r) = ⊥

-- a price that is the rules' at every book of that hour
abbrev pub Prices : (Book → Priced → Type 0) → Hour → Answer → Type 0
Prices Of h (answer.Called r) = ⊥
Prices Of h (answer.Saved r) = ⊥
Prices Of h (answer.Resumed r) = ⊥
Prices Of h (answer.Priced r) = (book : Book) → entries book ≡ h → Of book r

module _ (m : Meaning) (posted : Grid) where
  -- what a deed answers in an hour
  abbrev pub Answers : Hour → Deed → Answer → Type 0
  Answers h (deed.Call call) a = a ≡ answer.Called (said (step h call))
  Answers h (deed.Save room) a = Saves room h a
  Answers h (deed.Resume text) a = a ≡ answer.Resumed (accepted (reading text.now))
  Answers h (deed.Price market point) a = Prices (PointPriced market point posted) h a
  Answers h (deed.PriceWeighting market) a = Prices (WeightingPriced market m posted) h a

  -- each deed of a list, in its turn
  abbrev pub AnswersAll : Hour → List Deed → List Answer → Type 0
  AnswersAll h [] [] = Unit {0}
  AnswersAll h [] (a ∷ rest) = ⊥
  AnswersAll h (d ∷ ds) [] = ⊥
  AnswersAll h (d ∷ ds) (a ∷ rest) = Answers h d a × AnswersAll (after_deed h d) ds rest
