-- What a line makes of an hour, or why it is refused: its values in the order of its fields, then the hour.
use Rattle.std.specs.Prelude.{◌≡◌, ℕ, ◌-◌, Bool, true, false, cond, not, pos, Some, None, Ok, Err, Option, Result, MatchResult, int_le}
use Rattle.refusals.specs.declared.Refusal.{Refusal}
use Rattle.refusals.specs.declared.Refusal.TheVariants.{BusOutside, HubBusOutside, ZoneOutside, HubBusFull, LoadOutside, ConstraintOutside, ShadowPriceOutside, NotPosted, LambdaOutside, RunOutside, SecondsOutside, AdderOutside}
use Rattle.faults.specs.declared.Spot.{Spot}
use Rattle.faults.specs.declared.Why.TheVariants.{Value, Ending}
use Rattle.faults.specs.Faults.{spot}
use Rattle.bus_set.specs.Sets.{marked}
use Rattle.bounds.specs.Bounds.{up_to, within}
use Rattle.hour.specs.Limits.{last_bus, last_hub_bus, last_zone, most_load, last_constraint, most_shadow_price, most_lambda, last_run, most_adder, most_seconds}
use Rattle.hour.specs.Hour.{Hour, with_bus, constraint_at, with_constraint, out_of, with_run}
use Rattle.hour.specs.Steps.{is_full, other_seconds, entered_run}
use Rattle.hour.specs.declared.records.Bus.{Bus}
use Rattle.saved_rows.specs.Order.{eq_z}
use Rattle.saved_rows.specs.declared.row.BusRow.{BusRow}
use Rattle.saved_rows.specs.declared.row.Row.{Row}
use Rattle.saved_rows.specs.declared.row.Row.TheVariants as row

-- a value that is refused at a field
abbrev pub refused_at : ℕ → Refusal → Spot
refused_at field e = spot (Value e) field

-- go on with the value of a field, where it has one
abbrev pub valued : {A B : Type 0} → ℕ → Refusal → Option A → (A → Result B Spot) → Result B Spot
valued field e None next = Err (refused_at field e)
valued field e (Some x) next = next x

-- go on unless the test passes
abbrev pub unless : {B : Type 0} → ℕ → Refusal → Bool → Result B Spot → Result B Spot
unless field e true next = Err (refused_at field e)
unless field e false next = next

-- a bus, and the record that a line gives it
pub record Given : Type 0 where
  pub bus : ℕ
  pub entry : Bus

-- the values of a bus line
abbrev pub bus_given : BusRow → Result Given Spot
bus_given r =
    valued 2 BusOutside (up_to r.bus last_bus) (λ b. valued 3 HubBusOutside (up_to r.hub_bus last_hub_bus) (λ k. valued 4 ZoneOutside (up_to r.zone last_zone) (λ z.
    valued 6 LoadOutside (up_to r.day_ahead_load most_load) (λ d. valued 8 LoadOutside (up_to r.real_time_load most_load) (λ t.
    Ok (record {
      bus = b;
      entry = record { hub_bus = k; zone = z; day_ahead = record { live = r.day_ahead_live; load = d }; real_time = record { live = r.real_time_live; load = t } };
    }))))))

-- a bus takes its record unless its hub bus has eight others
abbrev pub bus_put : Hour → Result Given Spot → Result Hour Spot
bus_put h (Err e) = Err e
bus_put h (Ok g) = unless 3 HubBusFull (is_full h g.bus g.entry.hub_bus) (Ok (with_bus h g.bus g.entry))

-- the hour after a line that n lines stand before
abbrev pub enter : Hour → ℕ → Row → Result Hour Spot
enter h n (row.Bus r) = bus_put h (bus_given r)
enter h n (row.Lambda z) =
    unless 2 LambdaOutside (not (within z most_lambda)) (Ok (record { buses = h.buses; lambda = Some z; constraints = h.constraints; runs = h.runs }))
enter h n (row.Constraint constraint price) =
    valued 2 ConstraintOutside (up_to constraint last_constraint) (λ k. unless 3 ShadowPriceOutside (not (within price most_shadow_price))
    (Ok (with_constraint h k (Some (record { shadow_price = price; out = out_of (constraint_at h k) })))))
enter h n (row.Outage constraint bus) =
    valued 2 ConstraintOutside (up_to constraint last_constraint) (λ k. valued 3 BusOutside (up_to bus last_bus) (λ b. valued 3 NotPosted (constraint_at h k) (λ c.
    Ok (with_constraint h k (Some (record { shadow_price = c.shadow_price; out = marked c.out b true }))))))
enter h n (row.Run run seconds reserve reliability) =
    valued 2 RunOutside (up_to run last_run) (λ k. unless 3 SecondsOutside (int_le seconds (pos 0))
    (unless 4 AdderOutside (not (within reserve most_adder)) (unless 5 AdderOutside (not (within reliability most_adder))
    (valued 3 SecondsOutside (up_to seconds (most_seconds - other_seconds h k)) (λ s.
    Ok (with_run h k (Some (entered_run s reserve reliability))))))))
enter h n (row.End count) = cond (eq_z count (pos n)) (Ok h) (Err (spot Ending 0))

-- what entering a line did: the hour after it, or a fault and the hour as it was
abbrev pub Enters : Result Hour Spot → Hour → Hour → Result (Unit {0}) Spot → Type 0
Enters said before after r = MatchResult r (λ _. said ≡ Ok after) (λ e. (said ≡ Err e) × (after ≡ before))
