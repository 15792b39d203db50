-- The worked hours, each as the calls that make it of a fresh book.
use Rattle.std.specs.Prelude.{ℕ, true, false, List, [], ◌∷◌, ◌++◌, ℤ, pos}
use Rattle.hour.specs.declared.records.Market.TheVariants.{DayAhead, RealTime}
use Rattle.hour.specs.declared.calls.Call.{Call}
use Rattle.hour.specs.declared.calls.Call.TheVariants.{Place, Status, Load, Lambda, Post, Outage, EnterRun}

-- ---- day-ahead

-- a bus in a hub bus and a load zone, live
abbrev pub live_bus : ℕ → ℕ → ℕ → List Call
live_bus bus hub_bus zone = Place (pos bus) (pos hub_bus) (pos zone) ∷ Status (pos bus) DayAhead true ∷ []

abbrev pub dead : ℕ → Call
dead bus = Status (pos bus) DayAhead false

abbrev pub loaded : ℕ → ℕ → Call
loaded bus load = Load (pos bus) DayAhead (pos load)

-- out under constraint 0
abbrev pub out : ℕ → Call
out bus = Outage (pos 0) (pos bus) true

-- bus 0 in hub bus 1, buses 1 and 2 in hub bus 2, buses 20 and 21 in load zone 1
abbrev pub hour_n : List Call
hour_n =
    live_bus 0 1 0 ++ live_bus 1 2 0 ++ live_bus 2 2 0 ++ live_bus 20 0 1 ++ live_bus 21 0 1
    ++ (loaded 20 300 ∷ loaded 21 100 ∷ Lambda (pos 2500000000) ∷ Post (pos 0) (pos 1000) ∷ [])

abbrev pub one_bus_out : List Call
one_bus_out = hour_n ++ (out 0 ∷ [])

abbrev pub all_buses_out : List Call
all_buses_out = hour_n ++ (out 0 ∷ out 1 ∷ out 2 ∷ [])

-- no live bus in the north, and one in hub bus 76, of the south
abbrev pub north_dead : List Call
north_dead = hour_n ++ (dead 0 ∷ dead 1 ∷ dead 2 ∷ []) ++ live_bus 10 76 0

abbrev pub zone_bus_dead : List Call
zone_bus_dead = hour_n ++ (dead 21 ∷ [])

-- lambda lower by 400,000 times 1,000, what bus 0 pays for congestion
abbrev pub lambda_moved : List Call
lambda_moved = hour_n ++ (Lambda (pos 2100000000) ∷ [])

-- bus 5 is live, lambda is 0, and constraint 0 has this shadow price
abbrev pub tie_alone : ℤ → List Call
tie_alone shadow_price = Status (pos 5) DayAhead true ∷ Lambda (pos 0) ∷ Post (pos 0) shadow_price ∷ []

-- ---- real-time

-- bus 0, of the north, is live; run 0 is 300 seconds with a reserve adder, run 1 is 600 seconds with a reliability adder
abbrev pub two_runs : ℤ → ℤ → List Call
two_runs reserve reliability =
    Place (pos 0) (pos 1) (pos 0) ∷ Status (pos 0) RealTime true
    ∷ EnterRun (pos 0) (pos 300) reserve (pos 0) ∷ EnterRun (pos 1) (pos 600) (pos 0) reliability ∷ []
