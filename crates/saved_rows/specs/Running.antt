-- A list of lines, entered one after another from a fresh hour on.
use Rattle.std.specs.Prelude.{◌≡◌, ℕ, ◌+◌, ◌-◌, cond, List, [], ◌∷◌, Ok, Err, Result, MatchResult}
use Rattle.faults.specs.declared.Spot.{Spot}
use Rattle.faults.specs.declared.Fault.{Fault}
use Rattle.faults.specs.declared.Why.TheVariants.{Ending}
use Rattle.faults.specs.Faults.{fault, in_line}
use Rattle.hour.specs.Hour.{Hour, fresh}
use Rattle.saved_rows.specs.Order.{start, next, finished}
use Rattle.saved_rows.specs.Entering.{enter}
use Rattle.saved_rows.specs.declared.row.Row.{Row}
use Rattle.saved_rows.specs.declared.stage.Stage.{Stage}

-- how far a text is read: its stage, and the hour so far
pub record Place : Type 0 where
  pub stage : Stage
  pub hour : Hour

abbrev pub place : Stage → Hour → Place
place s h = record { stage = s; hour = h }

-- order first, and then values
abbrev pub step_by : Result Stage Spot → Result Hour Spot → Result Place Spot
step_by (Err e) r = Err e
step_by (Ok s) (Err e) = Err e
step_by (Ok s) (Ok h) = Ok (place s h)

-- the place after a line that n lines stand before
abbrev pub step : Place → ℕ → Row → Result Place Spot
step p n r = step_by (next p.stage r) (enter p.hour n r)

-- go on where nothing is wrong
abbrev pub onward : {A B E : Type 0} → Result A E → (A → Result B E) → Result B E
onward (Ok x) next = next x
onward (Err e) next = Err e

-- the last line is missing, or followed by more
abbrev pub misended : ℕ → Fault
misended n = fault Ending n 0

-- the hour that lines make, whose first is line n, or the first fault
abbrev pub run_rows : Place → ℕ → List Row → Result Hour Fault
run_rows p n [] = cond (finished p.stage) (Ok p.hour) (Err (misended n))
run_rows p n (r ∷ rs) = cond (finished p.stage) (Err (misended n)) (onward (in_line n (step p (n - 1) r)) (λ q. run_rows q (n + 1) rs))

-- before the first line
abbrev pub begin : Place
begin = place start fresh

-- what taking a line did: the place after it, or a fault and the hour as it was
abbrev pub Takes : Result Place Spot → Hour → Hour → Result Stage Spot → Type 0
Takes said before after r = MatchResult r (λ s. said ≡ Ok (place s after)) (λ e. (said ≡ Err e) × (after ≡ before))
