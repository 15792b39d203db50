use Rattle.std.proofs.Common.{◌≡◌, ◌*◌, ◌≤◌, ℕ, ℤ, ap, ◌∙◌, arith, w64, SFits, to_z, of_z, rules}
use mir.Syntax.{w128}
use Rattle.std.specs.Int.{int_max}
use Rattle.std.proofs.lemmas.Int.{ints, to_z-of_z}
use Rattle.numbers.specs.Rounding.{half_up, Nearest}
use Rattle.numbers.proofs.Halves.{nearest_some}
use Rattle.posting.specs.Grids.{Within}
use Rattle.weighted_sums.proofs.Withins.{nearest_within}
use Rattle.real_time.specs.Bounds.{most_sum}
use Rattle.real_time.specs.Prices.{interval, floor_price}
use Rattle.real_time.proofs.prices.cents.Goals as goal

-- the nearest number, divided by at least 900
small : (sum : ℤ) (total : ℕ) (r : ℤ) → Within most_sum sum → total ≤ 2560000 → Nearest sum (interval * total) r → Within 6000000000000000000 r
small sum total r most weight near =
    let some = nearest_some sum (interval * total) r near in
    nearest_within 6000000000000000000 most_sum 2 (interval * total) sum r (omega arith) (omega (arith, some)) most (omega (arith, weight)) near

pub overflow_cast-nearest : goal.overflow_cast-nearest
overflow_cast-nearest c =
    let back = to_z-of_z w128 c.args.sum c.ranges.sum in
    let near : Nearest c.args.sum (interval * c.args.total) c.in_ok-nearest.nearest = rw (back, c.from.ensures) at c.in_ok-nearest.ensures.nearest in
    let r = small c.args.sum c.args.total c.in_ok-nearest.nearest c.requires.sum c.requires.total near in
    omega (arith, ints, r.low, r.high)

pub returns : goal.returns
returns c =
    let back = to_z-of_z w128 c.args.sum c.ranges.sum in
    let near : Nearest c.args.sum (interval * c.args.total) c.in_ok-nearest.nearest = rw (back, c.from.ensures) at c.in_ok-nearest.ensures.nearest in
    let some = nearest_some _ _ _ near in
    let r = small c.args.sum c.args.total c.in_ok-nearest.nearest c.requires.sum c.requires.total near in
    let value : c.in_ok-nearest.nearest ≡ half_up c.args.sum (interval * c.args.total) = rw (back, c.from.ensures) at c.in_ok-nearest.ensures.value in
    let same : to_z w64 (of_z w64 (to_z w128 (of_z w128 c.in_ok-nearest.nearest))) ≡ c.in_ok-nearest.nearest = omega (arith, ints, r.low, r.high) in
    let fits : SFits w64 c.max.result = search rules in
    (omega (arith, some), to_z-of_z w64 c.max.result fits ∙ c.max.ensures.value ∙ ap (λ (x : ℤ). int_max x floor_price) (same ∙ value))
