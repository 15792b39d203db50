-- The lines of an hour, in the order in which they are saved.
use Rattle.std.specs.Prelude.{ℕ, zero, suc, Bool, cond, List, [], ◌∷◌, ◌++◌, length, ℤ, pos, Some, None, Option}
use Rattle.bus_set.specs.Sets.{member}
use Rattle.hour.specs.Hour.{Hour}
use Rattle.hour.specs.declared.records.Bus.{Bus}
use Rattle.hour.specs.declared.records.Constraint.{Constraint}
use Rattle.hour.specs.declared.records.Run.{Run}
use Rattle.saved_rows.specs.Order.{blank_bus}
use Rattle.saved_rows.specs.declared.row.BusRow.{BusRow}
use Rattle.saved_rows.specs.declared.row.Row.{Row}
use Rattle.saved_rows.specs.declared.row.Row.TheVariants as row

-- the lines of each entry of a table, whose first is entry k
abbrev pub indexed : {A : Type 0} → (ℕ → A → List Row) → ℕ → List A → List Row
indexed f k [] = []
indexed f k (x ∷ xs) = f k x ++ indexed f (suc k) xs

-- the numbers of bus k
abbrev pub bus_numbers : ℕ → Bus → BusRow
bus_numbers k b = record {
  bus = pos k;
  hub_bus = pos b.hub_bus;
  zone = pos b.zone;
  day_ahead_live = b.day_ahead.live;
  day_ahead_load = pos b.day_ahead.load;
  real_time_live = b.real_time.live;
  real_time_load = pos b.real_time.load;
}

-- a line for a bus that is not all 0
abbrev pub bus_rows : ℕ → Bus → List Row
bus_rows k b = cond (blank_bus (bus_numbers k b)) [] (row.Bus (bus_numbers k b) ∷ [])

-- a line for lambda where it is set
abbrev pub lambda_rows : Option ℤ → List Row
lambda_rows None = []
lambda_rows (Some z) = row.Lambda z ∷ []

-- a line for each bus below n that is out under constraint k
unfoldable pub outage_rows : ℕ → (ℕ → Bool) → ℕ → List Row
outage_rows k out zero = []
outage_rows k out (suc n) = outage_rows k out n ++ cond (out n) (row.Outage (pos k) (pos n) ∷ []) []

-- a line for a posted constraint, and those of its outages
abbrev pub constraint_rows : ℕ → Option Constraint → List Row
constraint_rows k None = []
constraint_rows k (Some c) = row.Constraint (pos k) c.shadow_price ∷ outage_rows k (member c.out) 256

-- a line for an entered run
abbrev pub run_row : ℕ → Option Run → List Row
run_row k None = []
run_row k (Some r) = row.Run (pos k) (pos r.seconds) r.reserve_adder r.reliability_adder ∷ []

-- the lines of an hour but the last
abbrev pub rows : Hour → List Row
rows h = indexed bus_rows 0 h.buses ++ (lambda_rows h.lambda ++ (indexed constraint_rows 0 h.constraints ++ indexed run_row 0 h.runs))

-- the last line counts those before it
abbrev pub all_rows : Hour → List Row
all_rows h = rows h ++ (row.End (pos (length (rows h))) ∷ [])
