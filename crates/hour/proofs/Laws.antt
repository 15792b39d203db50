-- The laws of the calls.
use Rattle.std.proofs.Common.{◌≡◌, Err, ap}
use Rattle.refusals.specs.declared.Refusal.{Refusal}
use Rattle.hour.specs.Hour.{Hour}
use Rattle.hour.specs.Steps.{Outcome}
use Rattle.hour.specs.Replays.{step, after, left}
use Rattle.hour.specs.Laws.{Laws}
use Rattle.hour.specs.declared.calls.Call.{Call}
use Rattle.hour.proofs.Frames.{other_buses_stay, other_constraints_stay, other_runs_stay, lambda_stays}
use Rattle.hour.proofs.Commuting.{places_commute}
use Rattle.hour.proofs.Marks.{posting_keeps_marks, struck_then_posted_is_unmarked, outage_sets_one_mark, run_replaces_its_seconds}

refused_is_no_step : (h : Hour) (call : Call) (e : Refusal) → step h call ≡ Err e → after h call ≡ h
refused_is_no_step h call e is = ap (λ (o : Outcome). left o h) is

pub laws : Laws
laws = record {
  refused_is_no_step = refused_is_no_step;
  other_buses_stay = other_buses_stay;
  other_constraints_stay = other_constraints_stay;
  other_runs_stay = other_runs_stay;
  lambda_stays = lambda_stays;
  places_commute = places_commute;
  posting_keeps_marks = posting_keeps_marks;
  struck_then_posted_is_unmarked = struck_then_posted_is_unmarked;
  outage_sets_one_mark = outage_sets_one_mark;
  run_replaces_its_seconds = run_replaces_its_seconds;
}
