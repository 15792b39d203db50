-- Another reference bus, with lambda lower by what that bus pays for congestion, leaves the price.
use Rattle.std.specs.Prelude.{◌≡◌, ℕ, ◌<◌, ℤ, pos, ◌-ℤ◌, ◌*ℤ◌, Some, None, Option, Result}
use Rattle.hour.specs.Hour.{entries}
use Rattle.hour.specs.declared.book.Book.{Book}
use Rattle.posting.specs.Grids.{Grid, Small, SmallIn}
use Rattle.posting.specs.Meanings.{reference_grid}
use Rattle.weighting.specs.Meanings.{Meaning}
use Rattle.refusals.specs.declared.Refusal.{Refusal}
use Rattle.weighted_sums.specs.Sums.{sum_z}
use Rattle.day_ahead.specs.Prices.{case_under, shadow_price, day_ahead_price}
use Rattle.day_ahead.specs.Facts.{Posted}

abbrev pub times_price : ℤ → Option ℤ → ℤ
times_price factor None = pos 0
times_price factor (Some price) = factor *ℤ price

-- the sum over posted constraints of a bus's factor times the shadow price
abbrev pub bus_congestion : Grid → ℕ → Book → ℤ
bus_congestion factors bus book = sum_z (λ k. times_price (factors.at bus k) (shadow_price book k)) 32

abbrev pub lowered : Option ℤ → ℤ → Option ℤ
lowered None by = None
lowered (Some lambda) by = Some (lambda -ℤ by)

-- a second book alike, with lambda lower by the congestion of the bus; and some bus has weight under every posted constraint
pub record Moved (m : Meaning) (factors : Grid) (bus : ℕ) (book book' : Book) : Type 0 where
  pub lambda : (entries book').lambda ≡ lowered (entries book).lambda (bus_congestion factors bus book)
  pub buses : (entries book').buses ≡ (entries book).buses
  pub constraints : (entries book').constraints ≡ (entries book).constraints
  pub weight : (k : ℕ) → k < 32 → Posted book k → 0 < m.total (case_under book k)

-- over small factors, the price of the second book against that bus as the reference is this one
abbrev pub ReferenceStays : Meaning → Grid → Book → Result ℤ Refusal → Type 0
ReferenceStays m factors book r = Small factors → (bus : ℕ) → bus < 256 → (book' : Book) → Moved m factors bus book book' → day_ahead_price m (reference_grid factors bus) book' ≡ r

-- a second book so moved, where only the factors under posted constraints are small
pub record PostedMoved (m : Meaning) (factors : Grid) (bus : ℕ) (book book' : Book) : Type 0 where
  pub moved : Moved m factors bus book book'
  pub small_factors : (k : ℕ) → k < 32 → Posted book k → SmallIn factors k

-- the price of the second book against that bus as the reference is this one
abbrev pub PostedReferenceStays : Meaning → Grid → Book → Result ℤ Refusal → Type 0
PostedReferenceStays m factors book r =
    (bus : ℕ) → bus < 256 → (book' : Book) → PostedMoved m factors bus book book' → day_ahead_price m (reference_grid factors bus) book' ≡ r
