use Rattle.std.proofs.Common.{[], ◌∷◌, sym, ap, ◌∙◌}
use Rattle.decimals.specs.Decimals.{decimal_of}
use Rattle.cuts.specs.Fields.{end}
use Rattle.cuts.proofs.Taking.{take_field}
use Rattle.saved.proofs.line.read_pair.Goals as goal

pub returns : goal.returns
returns c letter make =
    let first = c.in_ok-first.ensures in
    let second = c.in_ok-second.ensures in
    let all = first.0 ∙ ap (λ l. c.in_ok-first.first.now ∷ l) (second.0 ∙ ap (λ l. c.in_ok-second.second.now ∷ l) c.in_ok-end.ensures) in (
      ap (λ l. (letter ∷ []) ∷ l) (sym all),
      (
        _,
        take_field decimal_of 2 _ _ _ _ _ first.0 first.1.1
            ∙ take_field decimal_of 3 _ _ _ _ _ second.0 second.1.1 ∙ ap (end 4 _) c.in_ok-end.ensures,
      ),
    )
