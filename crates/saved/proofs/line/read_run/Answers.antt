use Rattle.std.proofs.Common.{[], ◌∷◌, sym, ap, ◌∙◌}
use Rattle.decimals.specs.Decimals.{decimal_of}
use Rattle.cuts.specs.Fields.{end}
use Rattle.cuts.proofs.Taking.{take_field}
use Rattle.saved.proofs.line.read_run.Goals as goal

pub returns : goal.returns
returns c =
    let run = c.in_ok-run.ensures in
    let seconds = c.in_ok-seconds.ensures in
    let reserve-adder = c.in_ok-reserve_adder.ensures in
    let reliability-adder = c.in_ok-reliability_adder.ensures in
    let all = run.0 ∙ ap (λ l. c.in_ok-run.run'.now ∷ l) (seconds.0 ∙ ap (λ l. c.in_ok-seconds.seconds.now ∷ l) (reserve-adder.0 ∙ ap (λ l. c.in_ok-reserve_adder.reserve_adder.now ∷ l) (reliability-adder.0 ∙ ap (λ l. c.in_ok-reliability_adder.reliability_adder.now ∷ l) c.in_ok-end.ensures))) in (
      ap (λ l. (82 ∷ []) ∷ l) (sym all),
      (
        _,
        take_field decimal_of 2 _ _ _ _ _ run.0 run.1.1
            ∙ take_field decimal_of 3 _ _ _ _ _ seconds.0 seconds.1.1
            ∙ take_field decimal_of 4 _ _ _ _ _ reserve-adder.0 reserve-adder.1.1
            ∙ take_field decimal_of 5 _ _ _ _ _ reliability-adder.0 reliability-adder.1.1 ∙ ap (end 6 _) c.in_ok-end.ensures,
      ),
    )
