use Rattle.std.proofs.Common.{◌≡◌, ℕ, List, get_or, ℤ, None, Option, sym, ap, ◌∙◌, arith}
use Rattle.std.proofs.lemmas.Int.{ints}
use Rattle.hour.specs.Hour.{entries, run_at}
use Rattle.hour.specs.declared.records.Run.{Run}
use Rattle.weighted_sums.specs.Weighted.{weight_in}
use Rattle.weighted_sums.proofs.Sums.{sum_z_none, sum_z_more}
use Rattle.weighted_sums.proofs.Withins.{within_zero}
use Rattle.real_time.specs.Prices.{run_part}
use Rattle.real_time.proofs.prices.Pricing.hour_sum.Goals as goal

pub loop-column-init : goal.loop-column-init
loop-column-init g c = (sym (sum_z_none _), within_zero 0)

pub loop-column-preserved : goal.loop-column-preserved
loop-column-preserved g c =
    let w = c.args.self.now.weights.now in
    let book = c.args.self.now.book.now in
    let k = c.loop-column.column in
    let part : ℕ → Option Run → ℤ = run_part (weight_in w) (g.P.Posting.grid c.args.self.now.posting.now) w.total in
    let same = ap (λ (l : List (Option Run)). get_or l k None) (c.as_slice-runs.ensures.value ∙ c.runs.ensures.value) in
    let is : c.run_part-sum.result ≡ part k (run_at (entries book) k) = c.run_part-sum.ensures.value ∙ ap (part k) same in
    let bound = c.run_part-sum.ensures.bound in
    let more = sum_z_more (λ k. part k (run_at (entries book) k)) k in (
      omega (arith, ints, c.loop-column.invariant, is, bound.low, bound.high, more),
      record { low = omega (arith, ints, c.loop-column.invariant, bound.low, bound.high); high = omega (arith, ints, c.loop-column.invariant, bound.low, bound.high) },
    )
