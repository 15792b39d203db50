-- The entries of an hour book, read and replaced one at a time.
use Rattle.std.specs.Prelude.{◌≡◌, ℕ, false, List, [], ◌∷◌, replicate, ℤ, Some, None, Option, ◌≢◌, slice_index_or, slice_set}
use Rattle.hour.specs.declared.records.Market.{Market}
use Rattle.hour.specs.declared.records.Market.TheVariants.{DayAhead, RealTime}
use Rattle.hour.specs.declared.records.Bus.{Bus}
use Rattle.hour.specs.declared.records.Standing.{Standing}
use Rattle.hour.specs.declared.records.Constraint.{Constraint}
use Rattle.hour.specs.declared.records.Run.{Run}
use Rattle.hour.specs.declared.book.Book.{Book}

pub record Hour : Type 0 where
  pub buses : List Bus
  pub lambda : Option ℤ
  pub constraints : List (Option Constraint)
  pub runs : List (Option Run)

-- the entries of a book
abbrev pub entries : Book → Hour
entries b = record { buses = b.buses; lambda = b.lambda; constraints = b.constraints; runs = b.runs }

-- dead, with no load
abbrev pub no_standing : Standing
no_standing = record { live = false; load = 0 }

-- a bus whose fields are all 0
abbrev pub no_bus : Bus
no_bus = record { hub_bus = 0; zone = 0; day_ahead = no_standing; real_time = no_standing }

-- what a bus is in a market
abbrev pub standing_of : Market → Bus → Standing
standing_of DayAhead b = b.day_ahead
standing_of RealTime b = b.real_time

-- the bus with another standing in a market
abbrev pub with_standing : Market → Standing → Bus → Bus
with_standing DayAhead s b = record { hub_bus = b.hub_bus; zone = b.zone; day_ahead = s; real_time = b.real_time }
with_standing RealTime s b = record { hub_bus = b.hub_bus; zone = b.zone; day_ahead = b.day_ahead; real_time = s }

-- the hour of a fresh book
abbrev pub fresh : Hour
fresh = record { buses = replicate 256 no_bus; lambda = None; constraints = replicate 32 None; runs = replicate 16 None }

abbrev pub bus_at : Hour → ℕ → Bus
bus_at h b = slice_index_or h.buses b no_bus

abbrev pub with_bus : Hour → ℕ → Bus → Hour
with_bus h b record' = record { buses = slice_set h.buses b record'; lambda = h.lambda; constraints = h.constraints; runs = h.runs }

-- lambda set
abbrev pub with_lambda : Hour → ℤ → Hour
with_lambda h z = record { buses = h.buses; lambda = Some z; constraints = h.constraints; runs = h.runs }

-- the constraint, where it is posted
abbrev pub constraint_at : Hour → ℕ → Option Constraint
constraint_at h k = slice_index_or h.constraints k None

abbrev pub with_constraint : Hour → ℕ → Option Constraint → Hour
with_constraint h k c = record { buses = h.buses; lambda = h.lambda; constraints = slice_set h.constraints k c; runs = h.runs }

-- the words of the buses out under a constraint; none where it is not posted
abbrev pub out_of : Option Constraint → List ℕ
out_of None = 0 ∷ 0 ∷ 0 ∷ 0 ∷ []
out_of (Some c) = c.out

-- the run, where it is entered
abbrev pub run_at : Hour → ℕ → Option Run
run_at h k = slice_index_or h.runs k None

abbrev pub with_run : Hour → ℕ → Option Run → Hour
with_run h k r = record { buses = h.buses; lambda = h.lambda; constraints = h.constraints; runs = slice_set h.runs k r }

-- two hours that are alike but for the record of one bus
pub record OnlyBus (bus : ℕ) (before after : Hour) : Type 0 where
  pub others : (b : ℕ) → (b ≢ bus) → bus_at after b ≡ bus_at before b
  pub lambda : after.lambda ≡ before.lambda
  pub constraints : after.constraints ≡ before.constraints
  pub runs : after.runs ≡ before.runs
