-- The live facts that a day-ahead price depends on.
use Rattle.std.specs.Prelude.{◌≡◌, ℕ, ◌<◌, true, ℤ, Some, Result}
use Rattle.hour.specs.Hour.{entries, bus_at}
use Rattle.hour.specs.Live.{base_live, is_out}
use Rattle.hour.specs.declared.records.Market.TheVariants.{DayAhead}
use Rattle.hour.specs.declared.book.Book.{Book}
use Rattle.posting.specs.Grids.{Grid}
use Rattle.weighting.specs.Meanings.{Meaning}
use Rattle.refusals.specs.declared.Refusal.{Refusal}
use Rattle.day_ahead.specs.Prices.{case_under, shadow_price, day_ahead_price}

-- live in the day-ahead base case
abbrev pub Live : Book → ℕ → Type 0
Live book b = base_live (entries book) DayAhead b ≡ true

-- constraint k is posted, at some shadow price
abbrev pub Posted : Book → ℕ → Type 0
Posted book k = (price : ℤ) × (shadow_price book k ≡ Some price)

-- two hours agree in the live facts that a weighting and a price look at
pub record LiveFacts (m : Meaning) (factors factors' : Grid) (book book' : Book) : Type 0 where
  pub system_lambda : (entries book).lambda ≡ (entries book').lambda
  pub shadow_prices : (k : ℕ) → k < 32 → shadow_price book k ≡ shadow_price book' k
  pub live_buses : (b : ℕ) → b < 256 → base_live (entries book) DayAhead b ≡ base_live (entries book') DayAhead b
  pub hub_buses : (b : ℕ) → b < 256 → Live book b → (bus_at (entries book) b).hub_bus ≡ (bus_at (entries book') b).hub_bus
  pub zones : (b : ℕ) → b < 256 → Live book b → (bus_at (entries book) b).zone ≡ (bus_at (entries book') b).zone
  pub loads : (b : ℕ) → b < 256 → Live book b → (bus_at (entries book) b).day_ahead.load ≡ (bus_at (entries book') b).day_ahead.load
  pub marks : (k : ℕ) → k < 32 → Posted book k → (b : ℕ) → b < 256 → Live book b → is_out (entries book) k b ≡ is_out (entries book') k b
  pub factors_with_weight : (k : ℕ) → k < 32 → Posted book k → (b : ℕ) → b < 256 → 0 < m.weight (case_under book k) b → factors.at b k ≡ factors'.at b k

-- the live facts decide the price, or the refusal
abbrev pub LiveFactsDecide : Meaning → Grid → Book → Result ℤ Refusal → Type 0
LiveFactsDecide m factors book r = (book' : Book) (factors' : Grid) → LiveFacts m factors factors' book book' → day_ahead_price m factors' book' ≡ r
