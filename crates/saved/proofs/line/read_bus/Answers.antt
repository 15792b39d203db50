use Rattle.std.proofs.Common.{[], ◌∷◌, Err, sym, ap, ◌∙◌}
use Rattle.std.proofs.lemmas.Result.{err_from_is_err_and}
use Rattle.decimals.specs.Decimals.{decimal_of}
use Rattle.cuts.specs.Fields.{status_of, end}
use Rattle.cuts.proofs.Taking.{take_field, stuck_field, end_further}
use Rattle.saved.proofs.line.read_bus.Goals as goal

pub returns : goal.returns
returns c =
    let bus = c.in_ok-bus.ensures in
    let hub-bus = c.in_ok-hub_bus.ensures in
    let zone = c.in_ok-zone.ensures in
    let day-ahead-status = c.in_ok-day_ahead_status.ensures in
    let day-ahead-load = c.in_ok-day_ahead_load.ensures in
    let real-time-status = c.in_ok-real_time_status.ensures in
    let real-time-load = c.in_ok-real_time_load.ensures in
    let all = bus.0 ∙ ap (λ l. c.in_ok-bus.bus.now ∷ l) (hub-bus.0 ∙ ap (λ l. c.in_ok-hub_bus.hub_bus.now ∷ l) (zone.0 ∙ ap (λ l. c.in_ok-zone.zone.now ∷ l) (day-ahead-status.0 ∙ ap (λ l. c.in_ok-day_ahead_status.day_ahead_status.now ∷ l) (day-ahead-load.0 ∙ ap (λ l. c.in_ok-day_ahead_load.day_ahead_load.now ∷ l) (real-time-status.0 ∙ ap (λ l. c.in_ok-real_time_status.real_time_status.now ∷ l) (real-time-load.0 ∙ ap (λ l. c.in_ok-real_time_load.real_time_load.now ∷ l) c.in_ok-end.ensures)))))) in (
      ap (λ l. (66 ∷ []) ∷ l) (sym all),
      (
        _,
        take_field decimal_of 2 _ _ _ _ _ bus.0 bus.1.1
            ∙ take_field decimal_of 3 _ _ _ _ _ hub-bus.0 hub-bus.1.1
            ∙ take_field decimal_of 4 _ _ _ _ _ zone.0 zone.1.1
            ∙ take_field status_of 5 _ _ _ _ _ day-ahead-status.0 day-ahead-status.1.1
            ∙ take_field decimal_of 6 _ _ _ _ _ day-ahead-load.0 day-ahead-load.1.1
            ∙ take_field status_of 7 _ _ _ _ _ real-time-status.0 real-time-status.1.1
            ∙ take_field decimal_of 8 _ _ _ _ _ real-time-load.0 real-time-load.1.1 ∙ ap (end 9 _) c.in_ok-end.ensures,
      ),
    )

pub returns-in_err-real_time_load : goal.returns-in_err-real_time_load
returns-in_err-real_time_load c =
    let bus = c.in_ok-bus.ensures in
    let hub-bus = c.in_ok-hub_bus.ensures in
    let zone = c.in_ok-zone.ensures in
    let day-ahead-status = c.in_ok-day_ahead_status.ensures in
    let day-ahead-load = c.in_ok-day_ahead_load.ensures in
    let real-time-status = c.in_ok-real_time_status.ensures in
    let p = err_from_is_err_and c.from_residual-in_err-real_time_load.result c.from_residual-in_err-real_time_load.ensures.1 in
    rw (p.1, p.2) (take_field decimal_of 2 _ _ _ _ _ bus.0 bus.1.1
    ∙ take_field decimal_of 3 _ _ _ _ _ hub-bus.0 hub-bus.1.1
    ∙ take_field decimal_of 4 _ _ _ _ _ zone.0 zone.1.1
    ∙ take_field status_of 5 _ _ _ _ _ day-ahead-status.0 day-ahead-status.1.1
    ∙ take_field decimal_of 6 _ _ _ _ _ day-ahead-load.0 day-ahead-load.1.1
    ∙ take_field status_of 7 _ _ _ _ _ real-time-status.0 real-time-status.1.1
    ∙ stuck_field decimal_of 8 _ _ c.in_err-real_time_load.ensures.1 ∙ ap Err (sym c.in_err-real_time_load.ensures.0))

pub returns-in_err-end : goal.returns-in_err-end
returns-in_err-end c =
    let bus = c.in_ok-bus.ensures in
    let hub-bus = c.in_ok-hub_bus.ensures in
    let zone = c.in_ok-zone.ensures in
    let day-ahead-status = c.in_ok-day_ahead_status.ensures in
    let day-ahead-load = c.in_ok-day_ahead_load.ensures in
    let real-time-status = c.in_ok-real_time_status.ensures in
    let real-time-load = c.in_ok-real_time_load.ensures in
    let p = err_from_is_err_and c.from_residual-in_err-end.result c.from_residual-in_err-end.ensures.1 in
    rw (p.1, p.2) (take_field decimal_of 2 _ _ _ _ _ bus.0 bus.1.1
    ∙ take_field decimal_of 3 _ _ _ _ _ hub-bus.0 hub-bus.1.1
    ∙ take_field decimal_of 4 _ _ _ _ _ zone.0 zone.1.1
    ∙ take_field status_of 5 _ _ _ _ _ day-ahead-status.0 day-ahead-status.1.1
    ∙ take_field decimal_of 6 _ _ _ _ _ day-ahead-load.0 day-ahead-load.1.1
    ∙ take_field status_of 7 _ _ _ _ _ real-time-status.0 real-time-status.1.1
    ∙ take_field decimal_of 8 _ _ _ _ _ real-time-load.0 real-time-load.1.1
    ∙ end_further 9 _ _ c.in_err-end.ensures.1 ∙ ap Err (sym c.in_err-end.ensures.0))
