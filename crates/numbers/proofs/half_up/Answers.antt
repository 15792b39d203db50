use Rattle.std.proofs.Common.{◌≡◌, ◌<◌, ℤ, pos, ◌+ℤ◌, ◌*ℤ◌, ◌≤ℤ◌, ◌<ℤ◌, sym, ap, ◌∙◌, subst, ap₂, arith, SFits, to_z, of_z, rules}
use mir.Syntax.{w128}
use Rattle.std.proofs.lemmas.Int.{ints, to_z-of_z}
use Rattle.std.specs.Int.{int_div_euclid, int_rem_euclid}
use Rattle.numbers.specs.Rounding.{Nearest}
use Rattle.numbers.proofs.Halves.{half_up_only, below_half, above_half}
use Rattle.numbers.proofs.half_up.Goals as goal

pub returns-then-rest-by-clause-nearest : goal.returns-then-rest-by-clause-nearest
returns-then-rest-by-clause-nearest c =
    let n = c.args.n in
    let d = c.args.d in
    let some : 0 < d = omega (arith, ints, c.in_ok-floor.ensures) in
    let x : to_z w128 (of_z w128 n) ≡ n = to_z-of_z w128 n c.ranges.n in
    let y : to_z w128 (of_z w128 c.from-by.result) ≡ pos d = omega (arith, ints, c.from-by.ensures) in
    let q : c.in_ok-floor.floor ≡ int_div_euclid n (pos d) = c.in_ok-floor.ensures.1 ∙ ap₂ int_div_euclid x y in
    let s : c.rem_euclid-rest.result ≡ int_rem_euclid n (pos d) = c.rem_euclid-rest.ensures.value ∙ ap₂ int_rem_euclid x y in
    let was : SFits w128 c.in_ok-floor.floor = search rules in
    let fits : SFits w128 (to_z w128 (of_z w128 c.in_ok-floor.floor) +ℤ pos 1) = search rules in
    let v : to_z w128 (of_z w128 (to_z w128 (of_z w128 c.in_ok-floor.floor) +ℤ pos 1)) ≡ int_div_euclid n (pos d) +ℤ pos 1 =
    to_z-of_z w128 _ fits ∙ ap (λ (k : ℤ). k +ℤ pos 1) (to_z-of_z w128 _ was ∙ q) in
    let more : pos d ≤ℤ (pos 2 *ℤ int_rem_euclid n (pos d)) = omega (arith, ints, s, c.if-rest-by.true) in
    subst (Nearest n d) (sym v) (above_half n d some more)

pub returns-then-rest-by-clause-value : goal.returns-then-rest-by-clause-value
returns-then-rest-by-clause-value c = half_up_only c.args.n c.args.d _ (omega (arith, ints, c.in_ok-floor.ensures)) (returns-then-rest-by-clause-nearest c)

pub returns-else-rest-by-clause-nearest : goal.returns-else-rest-by-clause-nearest
returns-else-rest-by-clause-nearest c =
    let n = c.args.n in
    let d = c.args.d in
    let some : 0 < d = omega (arith, ints, c.in_ok-floor.ensures) in
    let x : to_z w128 (of_z w128 n) ≡ n = to_z-of_z w128 n c.ranges.n in
    let y : to_z w128 (of_z w128 c.from-by.result) ≡ pos d = omega (arith, ints, c.from-by.ensures) in
    let q : c.in_ok-floor.floor ≡ int_div_euclid n (pos d) = c.in_ok-floor.ensures.1 ∙ ap₂ int_div_euclid x y in
    let s : c.rem_euclid-rest.result ≡ int_rem_euclid n (pos d) = c.rem_euclid-rest.ensures.value ∙ ap₂ int_rem_euclid x y in
    let was : SFits w128 c.in_ok-floor.floor = search rules in
    let v : to_z w128 (of_z w128 c.in_ok-floor.floor) ≡ int_div_euclid n (pos d) = to_z-of_z w128 _ was ∙ q in
    let less : (pos 2 *ℤ int_rem_euclid n (pos d)) <ℤ pos d = omega (arith, ints, s, c.if-rest-by.false) in
    subst (Nearest n d) (sym v) (below_half n d some less)

pub returns-else-rest-by-clause-value : goal.returns-else-rest-by-clause-value
returns-else-rest-by-clause-value c = half_up_only c.args.n c.args.d _ (omega (arith, ints, c.in_ok-floor.ensures)) (returns-else-rest-by-clause-nearest c)
