use Rattle.std.proofs.Common.{[], ◌∷◌, sym, ap, ◌∙◌}
use Rattle.decimals.specs.Decimals.{decimal_of}
use Rattle.cuts.specs.Fields.{end}
use Rattle.cuts.proofs.Taking.{take_field}
use Rattle.saved.proofs.line.read_number.Goals as goal

pub returns : goal.returns
returns c letter make =
    let one = c.in_ok-number.ensures in
    let all = one.0 ∙ ap (λ l. c.in_ok-number.number.now ∷ l) c.in_ok-end.ensures in
    (ap (λ l. (letter ∷ []) ∷ l) (sym all), (_, take_field decimal_of 2 _ _ _ _ _ one.0 one.1.1 ∙ ap (end 3 _) c.in_ok-end.ensures))
