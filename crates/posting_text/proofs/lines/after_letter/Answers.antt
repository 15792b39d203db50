use Rattle.std.proofs.Common.{[], ◌∷◌, sym, ap}
use Rattle.posting_text.specs.Lines.{letter}
use Rattle.posting_text.proofs.Reading.{three_fields}
use Rattle.posting_text.proofs.lines.after_letter.Goals as goal

pub returns : goal.returns
returns c =
    let x = c.in_ok-bus.ensures in
    let y = c.in_ok-column.ensures in
    let z = c.in_ok-value.ensures in
    let r = three_fields _ _ _ x.1.0 y.1.0 z.1.0 _ _ _ _ x.0 y.0 z.0 c.in_ok-end.ensures x.1.1 y.1.1 z.1.1 in
    (ap (λ l. (letter ∷ []) ∷ l) (sym r.0), (_, r.1))
