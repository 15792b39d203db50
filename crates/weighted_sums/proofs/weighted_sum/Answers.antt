use Rattle.std.proofs.Common.{◌≡◌, ◌+◌, ◌<◌, pos, ◌+ℤ◌, ◌*ℤ◌, sym, ◌∙◌, subst, ap₂, arith, w64, to_z, of_z}
use Rattle.std.proofs.lemmas.Int.{ints, to_z-of_z}
use Rattle.posting.specs.Grids.{Within}
use Rattle.weighted_sums.specs.Sums.{sum_z}
use Rattle.weighted_sums.specs.Weighted.{weight_in, most_weighted}
use Rattle.weighted_sums.proofs.Sums.{sum_z_none, sum_z_more}
use Rattle.weighted_sums.proofs.Weighted.{weight_most, product_within, sum_within}
use Rattle.weighted_sums.proofs.weighted_sum.Given.{Over}
use Rattle.weighted_sums.proofs.weighted_sum.Goals as goal

pub loop-bus-init : goal.loop-bus-init
loop-bus-init g c = sym (sum_z_none _)

-- the sum with one more bus
more : (g : Over) (c : goal.After-from-in-loop-bus g) →
    to_z w64 c.loop-bus.sum-bits +ℤ to_z w64 (of_z w64 (to_z w64 (of_z w64 c.from.result) *ℤ to_z w64 (of_z w64 c.from-in-loop-bus.result)))
    ≡ sum_z (λ b. pos (weight_in c.args.weights.now b) *ℤ (g.P.Posting.grid c.args.posting.now).at b c.args.column) (c.loop-bus.bus + 1)
more g c =
    let w = c.args.weights.now in
    let p = g.P.Posting.grid c.args.posting.now in
    let k = c.args.column in
    let b = c.loop-bus.bus in
    let low : b < 256 = omega (arith, c.loop-bus-test.true) in
    let weight : to_z w64 (of_z w64 c.from.result) ≡ pos (weight_in w b) = omega (arith, ints, c.from.ensures, weight_most w b low) in
    let at = p.within b k in
    let number : to_z w64 (of_z w64 c.from-in-loop-bus.result) ≡ p.at b k = omega (arith, ints, c.from-in-loop-bus.ensures, c.number.ensures, at.low, at.high) in
    let one = product_within w p k b low in
    let term : to_z w64 (of_z w64 (to_z w64 (of_z w64 c.from.result) *ℤ to_z w64 (of_z w64 c.from-in-loop-bus.result))) ≡ pos (weight_in w b) *ℤ p.at b k =
    ap₂ (λ x y. to_z w64 (of_z w64 (x *ℤ y))) weight number ∙ omega (arith, ints, one.low, one.high) in
    omega (arith, ints, c.loop-bus.invariant, term, sum_z_more (λ i. pos (weight_in w i) *ℤ p.at i k) b)

pub overflow_add-sum : goal.overflow_add-sum
overflow_add-sum g c =
    let low : c.loop-bus.bus < 256 = omega (arith, c.loop-bus-test.true) in
    let all = sum_within c.args.weights.now (g.P.Posting.grid c.args.posting.now) c.args.column (c.loop-bus.bus + 1) (omega arith) in
    omega (arith, ints, more g c, all.low, all.high)

pub loop-bus-preserved : goal.loop-bus-preserved
loop-bus-preserved g c = to_z-of_z w64 _ (overflow_add-sum g c) ∙ more g c

pub returns-clause-bound : goal.returns-clause-bound
returns-clause-bound g c =
    let end : c.loop-bus.bus ≡ 256 = omega arith in
    let all = sum_within c.args.weights.now (g.P.Posting.grid c.args.posting.now) c.args.column c.loop-bus.bus (omega arith) in
    subst (Within most_weighted) (sym c.loop-bus.invariant) all
