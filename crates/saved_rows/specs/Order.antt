-- Which line of a saved text may come next, and to what stage it leads.
use Rattle.std.specs.Prelude.{Bool, true, false, cond, not, ◌&&◌, ℤ, pos, negsuc, Some, None, Ok, Err, Option, Result, ◌==◌, int_lt}
use Rattle.faults.specs.declared.Spot.{Spot}
use Rattle.faults.specs.declared.Why.TheVariants.{Order}
use Rattle.faults.specs.Faults.{spot}
use Rattle.saved_rows.specs.declared.row.Row.{Row}
use Rattle.saved_rows.specs.declared.row.Row.TheVariants as row
use Rattle.saved_rows.specs.declared.row.BusRow.{BusRow}
use Rattle.saved_rows.specs.declared.stage.Kind.{Kind}
use Rattle.saved_rows.specs.declared.stage.Kind.TheVariants as kind
use Rattle.saved_rows.specs.declared.stage.Stage.{Stage}

-- the same number
abbrev pub eq_z : ℤ → ℤ → Bool
eq_z (pos m) (pos n) = m == n
eq_z (pos m) (negsuc n) = false
eq_z (negsuc m) (pos n) = false
eq_z (negsuc m) (negsuc n) = m == n

-- a bus line: first of all, and buses ascend
abbrev pub bus_after : ℤ → Option Kind → Bool
bus_after i None = true
bus_after i (Some (kind.Bus last)) = int_lt last i
bus_after i (Some k) = false

-- the line of lambda: behind the buses
abbrev pub lambda_after : Option Kind → Bool
lambda_after None = true
lambda_after (Some (kind.Bus last)) = true
lambda_after (Some k) = false

-- a constraint line: behind lambda, and constraints ascend
abbrev pub constraint_after : ℤ → Option Kind → Bool
constraint_after i None = true
constraint_after i (Some (kind.Bus last)) = true
constraint_after i (Some kind.Lambda) = true
constraint_after i (Some (kind.Constraint last)) = int_lt last i
constraint_after i (Some (kind.Outage last b)) = int_lt last i
constraint_after i (Some k) = false

-- an outage line: behind its own constraint, and buses ascend
abbrev pub outage_after : ℤ → ℤ → Option Kind → Bool
outage_after i b (Some (kind.Constraint own)) = eq_z own i
outage_after i b (Some (kind.Outage own last)) = eq_z own i && int_lt last b
outage_after i b last = false

-- a run line: behind the constraints, and runs ascend
abbrev pub run_after : ℤ → Option Kind → Bool
run_after i (Some (kind.Run last)) = int_lt last i
run_after i (Some kind.End) = false
run_after i last = true

-- whether the line is the last
abbrev pub is_end : Option Kind → Bool
is_end (Some kind.End) = true
is_end last = false

-- the last line: behind any other
abbrev pub end_after : Option Kind → Bool
end_after last = not (is_end last)

-- whether a line of the kind may come, by the kind of the line before it
abbrev pub may_follow : Option Kind → Kind → Bool
may_follow last (kind.Bus i) = bus_after i last
may_follow last kind.Lambda = lambda_after last
may_follow last (kind.Constraint i) = constraint_after i last
may_follow last (kind.Outage i b) = outage_after i b last
may_follow last (kind.Run i) = run_after i last
may_follow last kind.End = end_after last

-- before the first line
abbrev pub start : Stage
start = record { last = None }

-- after a line of the kind
abbrev pub behind : Kind → Stage
behind k = record { last = Some k }

-- the stage that a kind of line leads to, where it may come
abbrev pub follows : Stage → Kind → Option Stage
follows s k = cond (may_follow s.last k) (Some (behind k)) None

abbrev pub kind_of : Row → Kind
kind_of (row.Bus b) = kind.Bus b.bus
kind_of (row.Lambda z) = kind.Lambda
kind_of (row.Constraint i p) = kind.Constraint i
kind_of (row.Outage i b) = kind.Outage i b
kind_of (row.Run i s a r) = kind.Run i
kind_of (row.End n) = kind.End

-- whether a bus line has only zeros behind its bus
abbrev pub blank_bus : BusRow → Bool
blank_bus b =
    eq_z b.hub_bus (pos 0) && (eq_z b.zone (pos 0) && (
    (not b.day_ahead_live && eq_z b.day_ahead_load (pos 0)) && (not b.real_time_live && eq_z b.real_time_load (pos 0))))

-- whether a line says nothing: a bus line may, and no other does
abbrev pub blank_row : Row → Bool
blank_row (row.Bus b) = blank_bus b
blank_row r = false

abbrev pub misplaced : Spot
misplaced = spot Order 0

abbrev pub in_order : Option Stage → Result Stage Spot
in_order None = Err misplaced
in_order (Some s) = Ok s

-- the stage after a line, or that the line is out of order
abbrev pub next : Stage → Row → Result Stage Spot
next s r = cond (blank_row r) (Err misplaced) (in_order (follows s (kind_of r)))

-- nothing may come any more
abbrev pub finished : Stage → Bool
finished s = is_end s.last
