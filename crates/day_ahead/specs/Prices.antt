-- The day-ahead price: the system lambda less what the posted constraints contribute.
use Rattle.std.specs.Prelude.{ℕ, cond, ℤ, pos, ◌-ℤ◌, ◌*ℤ◌, Some, None, Ok, Err, Option, Result, ◌==◌}
use Rattle.numbers.specs.Rounding.{half_up}
use Rattle.hour.specs.Hour.{entries, constraint_at}
use Rattle.hour.specs.Live.{base_live, live_under}
use Rattle.hour.specs.declared.records.Constraint.{Constraint}
use Rattle.hour.specs.declared.records.Market.TheVariants.{DayAhead}
use Rattle.hour.specs.declared.book.Book.{Book}
use Rattle.posting.specs.Grids.{Grid}
use Rattle.weighting.specs.Views.{View, view_of}
use Rattle.weighting.specs.Meanings.{Meaning}
use Rattle.refusals.specs.declared.Refusal.{Refusal}
use Rattle.refusals.specs.declared.Refusal.TheVariants.{NoLambda, NoWeight}
use Rattle.weighted_sums.specs.Sums.{sum_z}
use Rattle.weighted_sums.specs.Weighted.{weighted_sum}

-- fine units to the cent
abbrev pub fine_units : ℕ
fine_units = 1000000

abbrev pub base_case : Book → View
base_case book = view_of book DayAhead (base_live (entries book) DayAhead)

-- the case under constraint k
abbrev pub case_under : Book → ℕ → View
case_under book k = view_of book DayAhead (live_under (entries book) k)

abbrev pub shadow_of : Option Constraint → Option ℤ
shadow_of None = None
shadow_of (Some c) = Some c.shadow_price

-- the shadow price of constraint k, where it is posted
abbrev pub shadow_price : Book → ℕ → Option ℤ
shadow_price book k = shadow_of (constraint_at (entries book) k)

-- the sum over buses of weight times factor, with the factors of constraint k
abbrev pub weighted_factors : Meaning → Grid → View → ℕ → ℤ
weighted_factors m factors v k = weighted_sum (m.weight v) factors k

-- the average factor times the shadow price, in fine units; 0 where no bus has weight
abbrev pub congestion : Meaning → Grid → View → ℕ → ℤ → ℤ
congestion m factors v k price = cond (m.total v == 0) (pos 0) (half_up (weighted_factors m factors v k *ℤ price) (m.total v))

-- only a posted constraint contributes
abbrev pub contribution_at : Meaning → Grid → View → ℕ → Option ℤ → ℤ
contribution_at m factors v k None = pos 0
contribution_at m factors v k (Some price) = congestion m factors v k price

unfoldable pub contribution : Meaning → Grid → Book → ℕ → ℤ
contribution m factors book k = contribution_at m factors (case_under book k) k (shadow_price book k)

abbrev pub in_cents : ℤ → ℤ → ℤ
in_cents lambda contributions = half_up (lambda -ℤ contributions) fine_units

-- by the total of the base case
abbrev pub price_over : ℕ → ℤ → ℤ → Result ℤ Refusal
price_over total lambda contributions = cond (total == 0) (Err NoWeight) (Ok (in_cents lambda contributions))

abbrev pub price_at : Meaning → Grid → Book → Option ℤ → Result ℤ Refusal
price_at m factors book None = Err NoLambda
price_at m factors book (Some lambda) = price_over (m.total (base_case book)) lambda (sum_z (contribution m factors book) 32)

-- in cents
abbrev pub day_ahead_price : Meaning → Grid → Book → Result ℤ Refusal
day_ahead_price m factors book = price_at m factors book (entries book).lambda
