-- What holds of the entries of every book: the invariant of its type.
use Rattle.std.specs.Prelude.{ℕ, ◌<◌, ◌≤◌, Bool, true, ◌&&◌, List, [], ◌∷◌, ℤ, Some, None, sum_by, count_by, Option, ◌==◌, nat_le}
use Rattle.bus_set.specs.Sets.{four_words}
use Rattle.bounds.specs.Bounds.{within}
use Rattle.hour.specs.Limits.{last_hub_bus, last_zone, most_load, most_lambda, most_shadow_price, most_adder, most_buses}
use Rattle.hour.specs.declared.records.Bus.{Bus}
use Rattle.hour.specs.declared.records.Constraint.{Constraint}
use Rattle.hour.specs.declared.records.Run.{Run}

-- whether the test passes at each element
abbrev pub all_by : {A : Type 0} → (A → Bool) → List A → Bool
all_by test [] = true
all_by test (x ∷ xs) = test x && all_by test xs

-- whether the test passes, or there is nothing to test
abbrev pub when_some : {A : Type 0} → (A → Bool) → Option A → Bool
when_some test None = true
when_some test (Some x) = test x

-- whether a bus belongs to the hub bus k
abbrev pub in_hub_bus : ℕ → Bus → Bool
in_hub_bus k b = b.hub_bus == k

-- how many buses belong to the hub bus k, live or dead
abbrev pub hub_bus_size : ℕ → List Bus → ℕ
hub_bus_size k buses = count_by (in_hub_bus k) buses

-- no hub bus has more than eight buses; 0 is no hub bus
abbrev pub FewPerHubBus : List Bus → Type 0
FewPerHubBus buses = (k : ℕ) → 0 < k → hub_bus_size k buses ≤ most_buses

abbrev pub bus_sound : Bus → Bool
bus_sound b = nat_le b.hub_bus last_hub_bus && (nat_le b.zone last_zone && (nat_le b.day_ahead.load most_load && nat_le b.real_time.load most_load))

abbrev pub lambda_sound : ℤ → Bool
lambda_sound z = within z most_lambda

abbrev pub constraint_sound : Constraint → Bool
constraint_sound c = within c.shadow_price most_shadow_price && four_words c.out

abbrev pub run_sound : Run → Bool
run_sound r = nat_le 1 r.seconds && (within r.reserve_adder most_adder && within r.reliability_adder most_adder)

-- the seconds of a run; 0 where it is not entered
abbrev pub seconds_of : Option Run → ℕ
seconds_of None = 0
seconds_of (Some r) = r.seconds

abbrev pub total_seconds : List (Option Run) → ℕ
total_seconds runs = sum_by seconds_of runs
