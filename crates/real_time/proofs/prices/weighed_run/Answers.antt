use Rattle.std.proofs.Common.{◌<◌, sym, subst, arith, to_z, of_z, rules}
use mir.Syntax.{w128}
use Rattle.std.proofs.lemmas.Int.{ints}
use Rattle.posting.specs.Grids.{Within}
use Rattle.real_time.specs.Bounds.{most_part}
use Rattle.real_time.proofs.Parts.{adders_within, added_fits, raised_fits, timed_fits, part_is, part_within}
use Rattle.real_time.proofs.prices.weighed_run.Goals as goal

pub overflow_mul-result : goal.overflow_mul-result
overflow_mul-result c =
    let both = adders_within c.args.run c.requires.run in
    let fits : c.args.run.seconds < 65536 = search rules in
    added_fits c.args.prices c.args.total c.args.run c.requires.prices c.requires.total c.requires.run fits
    (to_z w128 (of_z w128 c.from.result)) (to_z w128 (of_z w128 c.from-2.result)) (to_z w128 (of_z w128 c.from-adders.result))
    (omega (arith, ints, c.from.ensures, c.requires.prices)) (omega (arith, ints, c.from-2.ensures, c.requires.total)) (omega (arith, ints, c.from-adders.ensures, both))

pub overflow_add-result : goal.overflow_add-result
overflow_add-result c =
    let both = adders_within c.args.run c.requires.run in
    let fits : c.args.run.seconds < 65536 = search rules in
    raised_fits c.args.prices c.args.total c.args.run c.requires.prices c.requires.total c.requires.run fits
    (to_z w128 (of_z w128 c.from.result)) (to_z w128 (of_z w128 c.from-2.result)) (to_z w128 (of_z w128 c.from-adders.result))
    (omega (arith, ints, c.from.ensures, c.requires.prices)) (omega (arith, ints, c.from-2.ensures, c.requires.total)) (omega (arith, ints, c.from-adders.ensures, both))

pub overflow_mul-result-2 : goal.overflow_mul-result-2
overflow_mul-result-2 c =
    let both = adders_within c.args.run c.requires.run in
    let fits : c.args.run.seconds < 65536 = search rules in
    timed_fits c.args.prices c.args.total c.args.run c.requires.prices c.requires.total c.requires.run fits
    (to_z w128 (of_z w128 c.from.result)) (to_z w128 (of_z w128 c.from-2.result)) (to_z w128 (of_z w128 c.from-adders.result))
    (omega (arith, ints, c.from.ensures, c.requires.prices)) (omega (arith, ints, c.from-2.ensures, c.requires.total)) (omega (arith, ints, c.from-adders.ensures, both))
    (to_z w128 (of_z w128 c.from-3.result)) (omega (arith, ints, c.from-3.ensures, fits))

pub returns-clause-value : goal.returns-clause-value
returns-clause-value c =
    let both = adders_within c.args.run c.requires.run in
    let fits : c.args.run.seconds < 65536 = search rules in
    part_is c.args.prices c.args.total c.args.run c.requires.prices c.requires.total c.requires.run fits
    (to_z w128 (of_z w128 c.from.result)) (to_z w128 (of_z w128 c.from-2.result)) (to_z w128 (of_z w128 c.from-adders.result))
    (omega (arith, ints, c.from.ensures, c.requires.prices)) (omega (arith, ints, c.from-2.ensures, c.requires.total)) (omega (arith, ints, c.from-adders.ensures, both))
    (to_z w128 (of_z w128 c.from-3.result)) (omega (arith, ints, c.from-3.ensures, fits))

pub returns-clause-bound : goal.returns-clause-bound
returns-clause-bound c =
    subst (Within most_part) (sym (returns-clause-value c)) (part_within c.args.prices c.args.total c.args.run c.requires.prices c.requires.total c.requires.run (search rules))
