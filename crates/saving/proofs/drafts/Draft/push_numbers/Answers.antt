use Rattle.std.proofs.Common.{ℤ, List, [], ◌∷◌, ◌++◌, get_or, pos, ap, w64, SFits, rules}
use Rattle.std.specs.List.{flat_map}
use Rattle.std.proofs.lemmas.List.{take_all}
use Rattle.saving.proofs.Adding.{number_field, add_then, add_same, add_next}
use Rattle.saving.proofs.drafts.Draft.push_numbers.Goals as goal

pub loop-z-preserved : goal.loop-z-preserved
loop-z-preserved c =
    let fits : SFits w64 (get_or c.args.numbers.now c.loop-z.z-index (pos 0)) = search rules in
    record {
      text = add_next {r = c.push-in-loop-z.new.self} c.args.letter c.args.numbers.now c.loop-z.z-index c.loop-z-test.true fits c.loop-z.invariant.text
          (record { text = c.push-in-loop-z.ensures }) (record { text = c.push_number.ensures });
      count = c.loop-z.invariant.count;
    }

pub returns-clause-text : goal.returns-clause-text
returns-clause-text c =
    add_same (add_then c.loop-z.invariant.text (record { text = c.push-2.ensures }))
    (ap (λ (zs : List ℤ). c.args.letter ∷ flat_map number_field zs ++ (10 ∷ [])) (take_all c.loop-z.z-index c.args.numbers.now c.loop-z-test.false))
