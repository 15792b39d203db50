-- The rows, by computation.
use Rattle.std.proofs.Common.{◌≡◌, List, ℤ, pos, neg_ℤ, Ok, Result, refl, ◌∙◌, arith}
use Rattle.refusals.specs.declared.Refusal.{Refusal}
use Rattle.bus_set.specs.Sets.{bit, count_below}
use Rattle.numbers.specs.Rounding.{half_up}
use Rattle.hour.specs.Hour.{Hour, fresh}
use Rattle.hour.specs.Replays.{worked}
use Rattle.hour.specs.declared.calls.Call.{Call}
use Rattle.posting.specs.Grids.{Grid}
use Rattle.posting.specs.Meanings.{table_grid, reference_grid}
use Rattle.weighting.specs.Sums.{sum_below}
use Rattle.weighting.specs.Hubs.{hub_number}
use Rattle.weighting.specs.Zones.{zone_meaning}
use Rattle.weighting.specs.Ties.{tie_meaning}
use Rattle.weighting.specs.Meanings.{Meaning}
use Rattle.weighting.specs.declared.hubs.Hub.{Hub}
use Rattle.weighting.specs.declared.hubs.Hub.TheVariants as of
use Rattle.weighting.specs.declared.zones.Zone.{Zone}
use Rattle.weighting.specs.declared.ties.Tie.{Tie}
use Rattle.weighted_sums.specs.Sums.{sum_z}
use Rattle.pricing.specs.Origins.{own_price}
use Rattle.pricing.specs.Points.{hub_priced}
use Rattle.pricing.specs.declared.origins.Origin.{Origin}
use Rattle.pricing.specs.declared.origins.Origin.TheVariants.{Own, Average}
use Rattle.worked_hours.specs.Hours.{hour_n, one_bus_out, all_buses_out, north_dead, zone_bus_dead, lambda_moved, tie_alone, two_runs}
use Rattle.worked_hours.specs.Postings.{factors_n, factors_with_bus10, tie_factor, run_prices}
use Rattle.worked_hours.specs.Rows.{hub, zone, tie, Answers, DayAheadRow, RealTimeRow}
use Rattle.worked_hours.specs.WorkedHours.{WorkedHours}
use Rattle.worked_hours.proofs.Entries.{Loads, Few, day_ahead_of, real_time_of, day_ahead_at, real_time_at}

module _ (price : Meaning → Result ℤ Refusal) (cents : ℤ) (origin : Origin) where
  hub_answers : (h : Hub) → hub_priced price h ≡ Ok (cents, origin) → Answers price (hub (hub_number h)) cents origin
  hub_answers h is r allowed = allowed.0 h refl ∙ is

  zone_answers : (z : Zone) → own_price (price (zone_meaning z.number)) ≡ Ok (cents, origin) → Answers price (zone z.number) cents origin
  zone_answers z is r allowed = allowed.0 z refl ∙ is

  tie_answers : (t : Tie) → own_price (price (tie_meaning t.bus)) ≡ Ok (cents, origin) → Answers price (tie t.bus) cents origin
  tie_answers t is r allowed = allowed.0 t refl ∙ is

abbrev zone1 : Zone
zone1 = record { number = 1; within = (omega arith, omega arith) }

abbrev tie5 : Tie
tie5 = record { bus = 5; within = omega arith }

module _ (calls : List Call) (posted : Grid) (cents : ℤ) (origin : Origin) where
  abbrev over : Hour
  over = worked fresh calls

  hub_row : (h : Hub) → ((loads : Loads over) (few : Few over) → hub_priced (day_ahead_of over loads few posted) h ≡ Ok (cents, origin)) →
      DayAheadRow calls posted (hub (hub_number h)) cents origin
  hub_row h is =
      day_ahead_at over posted (λ price. Answers price (hub (hub_number h)) cents origin) (λ loads few. hub_answers (day_ahead_of over loads few posted) cents origin h (is loads few))

  zone_row : (z : Zone) → ((loads : Loads over) (few : Few over) → own_price (day_ahead_of over loads few posted (zone_meaning z.number)) ≡ Ok (cents, origin)) →
      DayAheadRow calls posted (zone z.number) cents origin
  zone_row z is =
      day_ahead_at over posted (λ price. Answers price (zone z.number) cents origin) (λ loads few. zone_answers (day_ahead_of over loads few posted) cents origin z (is loads few))

  tie_row : (t : Tie) → ((loads : Loads over) (few : Few over) → own_price (day_ahead_of over loads few posted (tie_meaning t.bus)) ≡ Ok (cents, origin)) →
      DayAheadRow calls posted (tie t.bus) cents origin
  tie_row t is =
      day_ahead_at over posted (λ price. Answers price (tie t.bus) cents origin) (λ loads few. tie_answers (day_ahead_of over loads few posted) cents origin t (is loads few))

  run_row : (h : Hub) → ((loads : Loads over) (few : Few over) → hub_priced (real_time_of over loads few posted) h ≡ Ok (cents, origin)) →
      RealTimeRow calls posted (hub (hub_number h)) cents origin
  run_row h is =
      real_time_at over posted (λ price. Answers price (hub (hub_number h)) cents origin) (λ loads few. hub_answers (real_time_of over loads few posted) cents origin h (is loads few))

-- the tables of the rows
abbrev factors : Grid
factors = table_grid factors_n

abbrev prices : ℤ → ℤ → Grid
prices first second = table_grid (run_prices first second)

pub worked_rows : WorkedHours
unfolding bit count_below sum_below sum_z half_up table_grid reference_grid
worked_rows = record {
  north = hub_row hour_n factors (pos 2225) Own of.North (λ loads few. refl);
  south = hub_row hour_n factors (pos 2225) Average of.South (λ loads few. refl);
  houston = hub_row hour_n factors (pos 2225) Average of.Houston (λ loads few. refl);
  west = hub_row hour_n factors (pos 2225) Average of.West (λ loads few. refl);
  panhandle = hub_row hour_n factors (pos 2225) Average of.Panhandle (λ loads few. refl);
  average = hub_row hour_n factors (pos 2225) Own of.Average (λ loads few. refl);
  zone_by_load = zone_row hour_n factors (pos 2300) Own zone1 (λ loads few. refl);
  one_bus_out_row = hub_row one_bus_out factors (pos 2350) Own of.North (λ loads few. refl);
  all_buses_out_row = hub_row all_buses_out factors (pos 2500) Own of.North (λ loads few. refl);
  north_dead_row = hub_row north_dead (table_grid factors_with_bus10) (pos 2450) Average of.North (λ loads few. refl);
  zone_bus_dead_row = zone_row zone_bus_dead factors (pos 2400) Own zone1 (λ loads few. refl);
  minus_half_a_cent = tie_row (tie_alone (pos 500000)) (table_grid tie_factor) (pos 0) Own tie5 (λ loads few. refl);
  half_a_cent = tie_row (tie_alone (neg_ℤ (pos 500000))) (table_grid tie_factor) (pos 1) Own tie5 (λ loads few. refl);
  reference_moved = hub_row lambda_moved (reference_grid factors 0) (pos 2225) Own of.North (λ loads few. refl);
  run_adders = run_row (two_runs (pos 30) (pos 60)) (prices (pos 3000) (pos 4500)) (pos 4050) Own of.North (λ loads few. refl);
  below_zero = run_row (two_runs (pos 0) (pos 0)) (prices (neg_ℤ (pos 60000)) (pos 3000)) (neg_ℤ (pos 18000)) Own of.North (λ loads few. refl);
  at_the_floor = run_row (two_runs (pos 0) (pos 0)) (prices (neg_ℤ (pos 30000)) (neg_ℤ (pos 30000))) (neg_ℤ (pos 25100)) Own of.North (λ loads few. refl);
}
