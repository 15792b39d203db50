use Rattle.std.proofs.Common.{[], ◌∷◌, ◌++◌, arith}
use Rattle.std.proofs.lemmas.List.{length-append}
use Rattle.page.specs.Pages.{written}
use Rattle.page.proofs.Pushing.{and_then}
use Rattle.price_lines.specs.Lines.{point_fields, price_fields, line}
use Rattle.price_lines.proofs.lines.Lines.push_line.Goals as goal

pub returns : goal.returns
unfolding line
returns g c =
    let was = c.args.self.now.page in
    let one = c.push_point.new.self.page in
    let two = c.push.new.self in
    let three = c.push_price.new.self.page in
    let four = c.push-2.new.self in
    let point = point_fields c.args.point in
    let price = price_fields c.args.price in
    record {
      added =
          and_then g.row.N (written was) (written one) (written four) point (44 ∷ (price ++ (10 ∷ []))) c.push_point.ensures.added
          (and_then g.row.N (written one) (written two) (written four) (44 ∷ []) (price ++ (10 ∷ [])) c.push.ensures
          (and_then g.row.N (written two) (written three) (written four) price (10 ∷ []) c.push_price.ensures.added c.push-2.ensures));
      short =
          omega (
            arith,
            length-append point (44 ∷ (price ++ (10 ∷ []))),
            length-append price (10 ∷ []),
            c.push_point.ensures.short,
            c.push_price.ensures.short,
          );
    }
