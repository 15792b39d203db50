use Rattle.std.proofs.Common.{rules}
use Rattle.weighting.proofs.FromFn.{made_at}
use Rattle.weighting.proofs.each.each.Goals as goal

pub returns : goal.returns
returns g c bus low =
    made_at _ _ (λ i y. goal.F-post g c.args.weight i y) (λ i y q called. (search rules, search rules)) c.from_fn.result 256 bus 0 c.from_fn.ensures.items low
