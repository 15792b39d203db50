use Rattle.std.proofs.Common.{arith}
use Rattle.std.proofs.lemmas.Int.{ints}
use Rattle.decimals.proofs.Naturals.{negative_some, signed_pos}
use Rattle.decimals.proofs.read_negative.Goals as goal

pub overflow_sub-result : goal.overflow_sub-result
overflow_sub-result c = let e = signed_pos _ c.in_ok-n.ensures.few in omega (arith, ints, c.cast_signed.ensures)

pub returns-in_default : goal.returns-in_default
returns-in_default c =
    let e = signed_pos _ c.in_ok-n.ensures.few in
    negative_some _ _ _ c.in_ok-n.ensures.value (λ q. omega arith) (omega (arith, ints, c.cast_signed.ensures))
