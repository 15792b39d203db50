use Rattle.std.proofs.Common.{ℕ, ◌^◌, ◌<◌, get_or, rules}
use Rattle.bus_set.proofs.Sets.{without_members}
use Rattle.bus_set.proofs.without.Goals as goal

pub returns : goal.returns
returns c =
    let low : (i : ℕ) → get_or c.args.b i 0 < 2 ^ 64 = λ i. search rules in
    without_members c.args.a c.args.b (low 0) (low 1) (low 2) (low 3)
