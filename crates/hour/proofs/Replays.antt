-- A list of calls, worked up to some call and then on.
use Rattle.std.proofs.Common.{◌≡◌, Ok, Err, Result}
use Rattle.refusals.specs.declared.Refusal.{Refusal}
use Rattle.hour.specs.Hour.{Hour}
use Rattle.hour.specs.Steps.{Outcome, Did}
use Rattle.hour.specs.Replays.{left, said}

pub did_left : (o : Outcome) (before after : Hour) (r : Result (Unit {0}) Refusal) → Did o before after r → after ≡ left o before
did_left (Ok h) before after r d = d.1
did_left (Err e) before after r d = d.2

pub did_said : (o : Outcome) (before after : Hour) (r : Result (Unit {0}) Refusal) → Did o before after r → r ≡ said o
did_said (Ok h) before after r d = d.0
did_said (Err e) before after r d = d.0
