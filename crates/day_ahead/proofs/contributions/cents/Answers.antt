use Rattle.std.proofs.Common.{◌≡◌, ◌-ℤ◌, ◌∙◌, arith, w64, to_z, of_z}
use mir.Syntax.{w128}
use Rattle.std.proofs.lemmas.Int.{ints, to_z-of_z}
use Rattle.numbers.specs.Rounding.{half_up}
use Rattle.day_ahead.proofs.contributions.cents.Goals as goal

pub overflow_cast-result : goal.overflow_cast-result
overflow_cast-result c =
    let near = rw c.unwrap.ensures at c.half_up.ensures.nearest in
    omega (arith, ints, near.low, near.high, c.from.ensures, c.requires)

pub returns : goal.returns
returns c =
    let fine : to_z w128 (of_z w128 (to_z w128 (of_z w128 c.from.result) -ℤ to_z w128 (of_z w128 c.args.contributions))) ≡ c.args.lambda -ℤ c.args.contributions = omega (arith, ints, c.from.ensures, c.requires) in
    let value : c.unwrap.result ≡ half_up (c.args.lambda -ℤ c.args.contributions) 1000000 = rw (c.unwrap.ensures, fine) at c.half_up.ensures.value in
    to_z-of_z w64 _ (overflow_cast-result c) ∙ omega (arith, ints) ∙ value
