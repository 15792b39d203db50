-- Hours worked through by hand: by hour, posting and point, the price in cents with its origin.
use Rattle.std.specs.Prelude.{pos, neg_ℤ}
use Rattle.posting.specs.Meanings.{table_grid, reference_grid}
use Rattle.pricing.specs.declared.origins.Origin.TheVariants.{Own, Average}
use Rattle.worked_hours.specs.Hours.{hour_n, one_bus_out, all_buses_out, north_dead, zone_bus_dead, lambda_moved, tie_alone, two_runs}
use Rattle.worked_hours.specs.Postings.{factors_n, factors_with_bus10, tie_factor, run_prices}
use Rattle.worked_hours.specs.Rows.{hub, zone, tie, DayAheadRow, RealTimeRow}

pub record WorkedHours : Type 0 where
  -- hub bus 1 pays 400, hub bus 2 on average 150: 2,500 less 275
  pub north : DayAheadRow hour_n (table_grid factors_n) (hub 1) (pos 2225) Own
  -- a hub without live buses has the average's price
  pub south : DayAheadRow hour_n (table_grid factors_n) (hub 2) (pos 2225) Average
  pub houston : DayAheadRow hour_n (table_grid factors_n) (hub 3) (pos 2225) Average
  pub west : DayAheadRow hour_n (table_grid factors_n) (hub 4) (pos 2225) Average
  pub panhandle : DayAheadRow hour_n (table_grid factors_n) (hub 5) (pos 2225) Average
  pub average : DayAheadRow hour_n (table_grid factors_n) (hub 6) (pos 2225) Own
  -- three parts at 100, one part at 500
  pub zone_by_load : DayAheadRow hour_n (table_grid factors_n) (zone 1) (pos 2300) Own
  -- hub bus 1 has no live bus under the constraint, so it does not count there
  pub one_bus_out_row : DayAheadRow one_bus_out (table_grid factors_n) (hub 1) (pos 2350) Own
  -- with no live bus under it, a constraint contributes nothing
  pub all_buses_out_row : DayAheadRow all_buses_out (table_grid factors_n) (hub 1) (pos 2500) Own
  -- from hub bus 76 alone: 2,500 less 50
  pub north_dead_row : DayAheadRow north_dead (table_grid factors_with_bus10) (hub 1) (pos 2450) Average
  -- from bus 20 alone: 2,500 less 100
  pub zone_bus_dead_row : DayAheadRow zone_bus_dead (table_grid factors_n) (zone 1) (pos 2400) Own
  -- halves go to the higher cent
  pub minus_half_a_cent : DayAheadRow (tie_alone (pos 500000)) (table_grid tie_factor) (tie 5) (pos 0) Own
  pub half_a_cent : DayAheadRow (tie_alone (neg_ℤ (pos 500000))) (table_grid tie_factor) (tie 5) (pos 1) Own
  -- against bus 0 as the reference, with lambda moved, the price stays
  pub reference_moved : DayAheadRow lambda_moved (reference_grid (table_grid factors_n) 0) (hub 1) (pos 2225) Own
  -- a third of 3,030 and two thirds of 4,560
  pub run_adders : RealTimeRow (two_runs (pos 30) (pos 60)) (table_grid (run_prices (pos 3000) (pos 4500))) (hub 1) (pos 4050) Own
  -- a third of -60,000 and two thirds of 3,000
  pub below_zero : RealTimeRow (two_runs (pos 0) (pos 0)) (table_grid (run_prices (neg_ℤ (pos 60000)) (pos 3000))) (hub 1) (neg_ℤ (pos 18000)) Own
  -- no real-time price is below -25,100
  pub at_the_floor : RealTimeRow (two_runs (pos 0) (pos 0)) (table_grid (run_prices (neg_ℤ (pos 30000)) (neg_ℤ (pos 30000)))) (hub 1) (neg_ℤ (pos 25100)) Own
