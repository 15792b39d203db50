use Rattle.std.proofs.Common.{ℕ, [], ◌∷◌, ◌++◌, take, ℤ, ap, ◌∙◌, w64, SFits, rules}
use Rattle.std.specs.Fmt.{signed_decimal}
use Rattle.std.proofs.lemmas.Int.{to_z-of_z}
use Rattle.page.specs.Pages.{written}
use Rattle.page.proofs.Pushing.{and_then}
use Rattle.price_lines.specs.Lines.{kind_letter}
use Rattle.price_lines.proofs.lines.Lines.push_point.Goals as goal

pub returns-clause-added : goal.returns-clause-added
returns-clause-added g c =
    let was = c.args.self.now.page in
    let letter = c.push_all.new.self in
    let z = c.args.point.number in
    let fits : SFits w64 c.args.point.number = search rules in
    and_then g.row.N (written was) (written letter) (written c.push_number.new.self) (80 ∷ 44 ∷ kind_letter c.args.point.kind ∷ 44 ∷ []) (signed_decimal z)
    (c.push_all.ensures ∙ ap (λ (n : ℕ). take g.row.N (written was ++ (80 ∷ 44 ∷ n ∷ 44 ∷ []))) c.kind_letter.ensures)
    (c.push_number.ensures ∙ ap (λ (y : ℤ). take g.row.N (written letter ++ signed_decimal y)) (to_z-of_z w64 z fits))
