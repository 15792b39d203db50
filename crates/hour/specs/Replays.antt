-- What a list of calls makes of an hour, and what each of them answers.
use Rattle.std.specs.Prelude.{List, [], ◌∷◌, Ok, Err, Result}
use Rattle.refusals.specs.declared.Refusal.{Refusal}
use Rattle.hour.specs.Hour.{Hour}
use Rattle.hour.specs.Steps.{Outcome, placed, status_set, load_set, lambda_set, posted, struck, outage_set, run_entered, run_dropped}
use Rattle.hour.specs.declared.calls.Call.{Call}
use Rattle.hour.specs.declared.calls.Call.TheVariants.{Place, Status, Load, Lambda, Post, Strike, Outage, EnterRun, DropRun}

abbrev pub step : Hour → Call → Outcome
step h (Place bus hub_bus zone) = placed h bus hub_bus zone
step h (Status bus market live) = status_set h bus market live
step h (Load bus market load) = load_set h bus market load
step h (Lambda lambda) = lambda_set h lambda
step h (Post constraint price) = posted h constraint price
step h (Strike constraint) = struck h constraint
step h (Outage constraint bus out) = outage_set h constraint bus out
step h (EnterRun run seconds reserve reliability) = run_entered h run seconds reserve reliability
step h (DropRun run) = run_dropped h run

-- the hour after an outcome: a refused call changes nothing
abbrev pub left : Outcome → Hour → Hour
left (Ok new) old = new
left (Err e) old = old

-- the hour after a call, granted or refused
abbrev pub after : Hour → Call → Hour
after h call = left (step h call) h

-- what a call says of its outcome
abbrev pub said : Outcome → Result (Unit {0}) Refusal
said (Ok h) = Ok tt
said (Err e) = Err e

-- the hour after a list of calls
abbrev pub worked : Hour → List Call → Hour
worked h [] = h
worked h (call ∷ calls) = worked (after h call) calls

-- what each call of a list answers, in its turn
abbrev pub answers : Hour → List Call → List (Result (Unit {0}) Refusal)
answers h [] = []
answers h (call ∷ calls) = said (step h call) ∷ answers (after h call) calls
