-- The real-time price of a weighting over a posting.
use Rattle.std.specs.Prelude.{ℕ, ◌*◌, cond, ℤ, pos, ◌+ℤ◌, ◌*ℤ◌, neg_ℤ, Some, None, Ok, Err, Option, Result, ◌==◌}
use Rattle.std.specs.Int.{int_max}
use Rattle.numbers.specs.Rounding.{half_up}
use Rattle.posting.specs.Grids.{Grid}
use Rattle.hour.specs.Hour.{entries, run_at}
use Rattle.hour.specs.Sound.{total_seconds}
use Rattle.hour.specs.declared.book.Book.{Book}
use Rattle.hour.specs.declared.records.Run.{Run}
use Rattle.weighting.specs.Meanings.{Meaning}
use Rattle.weighted_sums.specs.Sums.{sum_z}
use Rattle.weighted_sums.specs.Weighted.{weighted_sum}
use Rattle.real_time.specs.Weights.{base_view}
use Rattle.refusals.specs.declared.Refusal.{Refusal}
use Rattle.refusals.specs.declared.Refusal.TheVariants.{SecondsShort, NoWeight}

-- the seconds of the interval, which the entered runs must fill
abbrev pub interval : ℕ
interval = 900

-- no price is below this many cents
abbrev pub floor_price : ℤ
floor_price = neg_ℤ (pos 25100)

module _ (weight : ℕ → ℕ) (prices : Grid) where
  -- the sum over the buses of weight times the price that the run in column k posted
  abbrev pub weighted_price_sum : ℕ → ℤ
  weighted_price_sum k = weighted_sum weight prices k

  module _ (total : ℕ) where
    -- with the run's adders on every unit of weight, for each of its seconds; a run that is not entered has no part
    abbrev pub run_part : ℕ → Option Run → ℤ
    run_part k None = pos 0
    run_part k (Some run) = (weighted_price_sum k +ℤ (pos total *ℤ (run.reserve_adder +ℤ run.reliability_adder))) *ℤ pos run.seconds

    abbrev pub hour_sum : (ℕ → Option Run) → ℤ
    hour_sum runs = sum_z (λ k. run_part k (runs k)) 16

-- over the interval's seconds and the total weight, to the nearest cent, halves toward the higher, and not below the floor
abbrev pub cents_of : ℤ → ℕ → ℤ
cents_of sum total = int_max (half_up sum (interval * total)) floor_price

abbrev pub base_sum : Meaning → Grid → Book → ℤ
base_sum m prices book = hour_sum (m.weight (base_view book)) prices (m.total (base_view book)) (run_at (entries book))

abbrev pub price_in : Meaning → Grid → Book → Result ℤ Refusal
price_in m prices book = cond (m.total (base_view book) == 0) (Err NoWeight) (Ok (cents_of (base_sum m prices book) (m.total (base_view book))))

abbrev pub real_time_price : Meaning → Grid → Book → Result ℤ Refusal
real_time_price m prices book = cond (total_seconds (entries book).runs == interval) (price_in m prices book) (Err SecondsShort)
