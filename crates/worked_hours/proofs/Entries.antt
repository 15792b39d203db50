-- Prices hang on the entries of a book alone: a price of the entries, with their limits at hand, is the price of the book.
use Rattle.std.proofs.Common.{◌≡◌, ℕ, ◌<◌, ◌≤◌, Bool, cond, eqb, ℤ, Some, None, Ok, Err, Option, Result, sym, refl, subst}
use mathlib.Core.Path.{fun_ext}
use Rattle.refusals.specs.declared.Refusal.{Refusal}
use Rattle.refusals.specs.declared.Refusal.TheVariants.{NoLambda, NoWeight, SecondsShort}
use Rattle.bus_set.specs.Sets.{count_below}
use Rattle.hour.specs.Limits.{most_load, most_buses}
use Rattle.hour.specs.Hour.{Hour, entries, bus_at, constraint_at, run_at}
use Rattle.hour.specs.Live.{base_live, live_under}
use Rattle.hour.specs.Sound.{total_seconds}
use Rattle.hour.specs.declared.records.Market.{Market}
use Rattle.hour.specs.declared.records.Market.TheVariants.{DayAhead, RealTime}
use Rattle.hour.specs.declared.book.Book.{Book}
use Rattle.posting.specs.Grids.{Grid}
use Rattle.weighting.specs.BookLimits.{load_in, load_most, few_members}
use Rattle.weighting.specs.Views.{View}
use Rattle.weighting.specs.Meanings.{Meaning}
use Rattle.weighted_sums.specs.Sums.{sum_z}
use Rattle.day_ahead.specs.Prices.{shadow_of, contribution_at, contribution, price_over, price_at, day_ahead_price}
use Rattle.real_time.specs.Prices.{interval, hour_sum, cents_of, real_time_price}

-- the limits that the entries of a book keep
abbrev pub Loads : Hour → Type 0
Loads h = (m : Market) (b : ℕ) → load_in m (bus_at h b) ≤ most_load

abbrev pub Few : Hour → Type 0
Few h = (k : ℕ) → 0 < k → count_below (λ b. eqb (bus_at h b).hub_bus k) 256 ≤ most_buses

module _ (h : Hour) (loads : Loads h) (few : Few h) where
  abbrev pub seen : Market → (ℕ → Bool) → View
  seen m live = record {
    live = live;
    hub_bus = λ b. (bus_at h b).hub_bus;
    zone = λ b. (bus_at h b).zone;
    load = λ b. load_in m (bus_at h b);
    load_most = loads m;
    few = few;
  }

  module _ (posted : Grid) (m : Meaning) where
    abbrev pub contributes : ℕ → ℤ
    contributes k = contribution_at m posted (seen DayAhead (live_under h k)) k (shadow_of (constraint_at h k))

    abbrev pub day_ahead_by : Option ℤ → Result ℤ Refusal
    day_ahead_by None = Err NoLambda
    day_ahead_by (Some lambda) = price_over (m.total (seen DayAhead (base_live h DayAhead))) lambda (sum_z contributes 32)

    -- the day-ahead price over the entries
    abbrev pub day_ahead_of : Result ℤ Refusal
    day_ahead_of = day_ahead_by h.lambda

    abbrev pub real_time_view : View
    real_time_view = seen RealTime (base_live h RealTime)

    -- the real-time price over the entries
    abbrev pub real_time_of : Result ℤ Refusal
    real_time_of =
        cond (eqb (total_seconds h.runs) interval)
        (cond (eqb (m.total real_time_view) 0) (Err NoWeight)
        (Ok (cents_of (hour_sum (m.weight real_time_view) posted (m.total real_time_view) (run_at h)) (m.total real_time_view))))
        (Err SecondsShort)

by_lambda : (book : Book) (posted : Grid) (m : Meaning) (o : Option ℤ) → day_ahead_by (entries book) (load_most book) (few_members book) posted m o ≡ price_at m posted book o
unfolding contribution
by_lambda book posted m None = refl
by_lambda book posted m (Some lambda) = refl

module _ (h : Hour) (posted : Grid) (holds : (Meaning → Result ℤ Refusal) → Type 0) where
  -- what holds of the day-ahead prices over these entries holds at every book that has them
  pub day_ahead_at : ((loads : Loads h) (few : Few h) → holds (day_ahead_of h loads few posted)) →
      (book : Book) → entries book ≡ h → holds (λ m. day_ahead_price m posted book)
  day_ahead_at over book e =
      subst holds (fun_ext (λ m. by_lambda book posted m book.lambda))
      (subst (λ (i : Hour). (loads : Loads i) (few : Few i) → holds (day_ahead_of i loads few posted)) (sym e) over (load_most book) (few_members book))

  -- and so for real-time prices
  pub real_time_at : ((loads : Loads h) (few : Few h) → holds (real_time_of h loads few posted)) →
      (book : Book) → entries book ≡ h → holds (λ m. real_time_price m posted book)
  real_time_at over book e =
      subst (λ (i : Hour). (loads : Loads i) (few : Few i) → holds (real_time_of i loads few posted)) (sym e) over (load_most book) (few_members book)
