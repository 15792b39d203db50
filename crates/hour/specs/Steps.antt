-- What each call makes of an hour, or the refusal that it gets: arguments are looked at first, in the order of the call, then the hour.
use Rattle.std.specs.Prelude.{◌≡◌, ℕ, ◌-◌, Bool, true, false, not, ◌&&◌, ℤ, pos, Some, None, Ok, Err, Option, Result, int_le, nat_le, nat_lt}
use Rattle.std.specs.List.{remove}
use Rattle.refusals.specs.Numbers.{number}
use Rattle.refusals.specs.declared.Refusal.{Refusal}
use Rattle.refusals.specs.declared.Refusal.TheVariants.{BusOutside, HubBusOutside, ZoneOutside, HubBusFull, LoadOutside, ConstraintOutside, ShadowPriceOutside, NotPosted, LambdaOutside, RunOutside, SecondsOutside, AdderOutside, NotEntered}
use Rattle.bus_set.specs.Sets.{marked}
use Rattle.bounds.specs.Bounds.{up_to, within}
use Rattle.hour.specs.Limits.{last_bus, last_hub_bus, last_zone, most_load, last_constraint, most_shadow_price, most_lambda, last_run, most_adder, most_seconds, most_buses}
use Rattle.hour.specs.Sound.{hub_bus_size, total_seconds}
use Rattle.hour.specs.Hour.{Hour, bus_at, with_bus, with_lambda, constraint_at, with_constraint, out_of, run_at, with_run}
use Rattle.hour.specs.declared.records.Bus.{Bus}
use Rattle.hour.specs.declared.records.Run.{Run}
use Rattle.hour.specs.declared.records.Market.{Market}
use Rattle.hour.specs.declared.records.Market.TheVariants.{DayAhead, RealTime}

-- the hour after a call, or the refusal
abbrev pub Outcome : Type 0
Outcome = Result Hour Refusal

-- go on with the value, or refuse where there is none
abbrev pub given : {A : Type 0} → Option A → Refusal → (A → Outcome) → Outcome
given None e next = Err e
given (Some x) e next = next x

-- refuse where the test passes
abbrev pub refuse_if : Bool → Refusal → Outcome → Outcome
refuse_if true e next = Err e
refuse_if false e next = next

-- the number that a call answers: 0 where it is granted, else its refusal's
abbrev pub answer : Result (Unit {0}) Refusal → ℕ
answer (Ok _) = 0
answer (Err e) = number e

-- what a call returned and left behind, by what the rules make of the hour before it
abbrev pub Did : Outcome → Hour → Hour → Result (Unit {0}) Refusal → Type 0
Did (Ok h) before after r = (r ≡ Ok tt) × (after ≡ h)
Did (Err e) before after r = (r ≡ Err e) × (answer r ≡ number e) × (after ≡ before)

-- ---- place

abbrev pub other_buses : Hour → ℕ → ℕ → ℕ
other_buses h bus k = hub_bus_size k (remove h.buses bus)

-- whether the hub bus k has eight buses other than this one; 0 is no hub bus, and never full
abbrev pub is_full : Hour → ℕ → ℕ → Bool
is_full h bus k = nat_lt 0 k && nat_le most_buses (other_buses h bus k)

abbrev pub placed_in : Bus → ℕ → ℕ → Bus
placed_in b k z = record { hub_bus = k; zone = z; day_ahead = b.day_ahead; real_time = b.real_time }

abbrev pub placed : Hour → ℤ → ℤ → ℤ → Outcome
placed h bus hub_bus zone =
    given (up_to bus last_bus) BusOutside (λ b. given (up_to hub_bus last_hub_bus) HubBusOutside (λ k. given (up_to zone last_zone) ZoneOutside (λ z.
    refuse_if (is_full h b k) HubBusFull (Ok (with_bus h b (placed_in (bus_at h b) k z))))))

-- ---- status and load

abbrev pub with_status : Bus → Market → Bool → Bus
with_status b DayAhead v = record { hub_bus = b.hub_bus; zone = b.zone; day_ahead = record { live = v; load = b.day_ahead.load }; real_time = b.real_time }
with_status b RealTime v = record { hub_bus = b.hub_bus; zone = b.zone; day_ahead = b.day_ahead; real_time = record { live = v; load = b.real_time.load } }

abbrev pub with_load : Bus → Market → ℕ → Bus
with_load b DayAhead v = record { hub_bus = b.hub_bus; zone = b.zone; day_ahead = record { live = b.day_ahead.live; load = v }; real_time = b.real_time }
with_load b RealTime v = record { hub_bus = b.hub_bus; zone = b.zone; day_ahead = b.day_ahead; real_time = record { live = b.real_time.live; load = v } }

abbrev pub status_set : Hour → ℤ → Market → Bool → Outcome
status_set h bus m v = given (up_to bus last_bus) BusOutside (λ b. Ok (with_bus h b (with_status (bus_at h b) m v)))

abbrev pub load_set : Hour → ℤ → Market → ℤ → Outcome
load_set h bus m load =
    given (up_to bus last_bus) BusOutside (λ b. given (up_to load most_load) LoadOutside (λ v. Ok (with_bus h b (with_load (bus_at h b) m v))))

-- ---- lambda

abbrev pub lambda_set : Hour → ℤ → Outcome
lambda_set h z =
    refuse_if (not (within z most_lambda)) LambdaOutside
    (Ok (with_lambda h z))

-- ---- constraints

abbrev pub posted : Hour → ℤ → ℤ → Outcome
posted h constraint price =
    given (up_to constraint last_constraint) ConstraintOutside (λ k. refuse_if (not (within price most_shadow_price)) ShadowPriceOutside
    (Ok (with_constraint h k (Some (record { shadow_price = price; out = out_of (constraint_at h k) })))))

abbrev pub struck : Hour → ℤ → Outcome
struck h constraint =
    given (up_to constraint last_constraint) ConstraintOutside (λ k. given (constraint_at h k) NotPosted (λ _. Ok (with_constraint h k None)))

abbrev pub outage_set : Hour → ℤ → ℤ → Bool → Outcome
outage_set h constraint bus on =
    given (up_to constraint last_constraint) ConstraintOutside (λ k. given (up_to bus last_bus) BusOutside (λ b. given (constraint_at h k) NotPosted (λ c.
    Ok (with_constraint h k (Some (record { shadow_price = c.shadow_price; out = marked c.out b on }))))))

-- ---- runs

-- the seconds of the entered runs other than k
abbrev pub other_seconds : Hour → ℕ → ℕ
other_seconds h k = total_seconds (remove h.runs k)

abbrev pub entered_run : ℕ → ℤ → ℤ → Run
entered_run seconds reserve reliability = record { seconds = seconds; reserve_adder = reserve; reliability_adder = reliability }

abbrev pub run_entered : Hour → ℤ → ℤ → ℤ → ℤ → Outcome
run_entered h run seconds reserve reliability =
    given (up_to run last_run) RunOutside (λ k. refuse_if (int_le seconds (pos 0)) SecondsOutside
    (refuse_if (not (within reserve most_adder)) AdderOutside (refuse_if (not (within reliability most_adder)) AdderOutside
    (given (up_to seconds (most_seconds - other_seconds h k)) SecondsOutside (λ n.
    Ok (with_run h k (Some (entered_run n reserve reliability))))))))

abbrev pub run_dropped : Hour → ℤ → Outcome
run_dropped h run = given (up_to run last_run) RunOutside (λ k. given (run_at h k) NotEntered (λ _. Ok (with_run h k None)))
