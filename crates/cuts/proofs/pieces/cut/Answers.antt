use Rattle.std.proofs.Common.{◌+◌, Some, None, ap, ◌∙◌, sym}
use Rattle.std.proofs.lemmas.List.{take_rest}
use Rattle.cuts.proofs.Cutting.{cut_at}
use Rattle.cuts.proofs.pieces.cut.Goals as goal

pub returns-in-Some : goal.returns-in-Some
returns-in-Some c =
    let s = c.args.s.now in
    let h = cut_at c.args.sep s (Some c.in-Some.at) (sym c.find.ensures ∙ c.in-Some.is) in
    record { front = h.0; after = h.1 ∙ ap Some (sym (take_rest s (c.in-Some.at + 1))) }

pub returns-in-None : goal.returns-in-None
returns-in-None c =
    let h = cut_at c.args.sep c.args.s.now None (sym c.find.ensures ∙ c.in-None.is) in
    record { front = h.0; after = h.1 }
