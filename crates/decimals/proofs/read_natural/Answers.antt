use Rattle.std.proofs.Common.{◌≡◌, ◌+◌, ◌*◌, get_or, drop, Ok, sym, ap, ◌∙◌, arith}
use Rattle.std.proofs.lemmas.List.{at_drop_all}
use Rattle.std.proofs.lemmas.Result.{err_from_is_err_and}
use Rattle.decimals.specs.Decimals.{digits_on}
use Rattle.decimals.proofs.Naturals.{natural_lt, natural_shaped, natural_other, shaped_le, pow10_more, pow10_le, digits_more, digits_stop, digit_lt}
use Rattle.decimals.proofs.read_natural.Goals as goal

pub returns-then-not-is_shaped : goal.returns-then-not-is_shaped
returns-then-not-is_shaped c = record { value = sym (natural_other c.args.digits.now (sym c.if-not-is_shaped.ensures)); few = tt }

pub overflow_mul-n : goal.overflow_mul-n
overflow_mul-n c =
    let few = shaped_le c.args.digits.now (sym c.if-not-is_shaped.ensures) in
    omega (arith, c.loop-byte.invariant.1, pow10_le c.loop-byte.byte-index (omega arith))

pub overflow_add-n : goal.overflow_add-n
overflow_add-n c =
    let few = shaped_le c.args.digits.now (sym c.if-not-is_shaped.ensures) in
    let d = c.in_ok-n.ensures in
    omega (arith, c.loop-byte.invariant.1, pow10_le c.loop-byte.byte-index (omega arith), digit_lt (get_or c.args.digits.now c.loop-byte.byte-index 0) d.0, d.1)

pub returns-in_err-n : goal.returns-in_err-n
returns-in_err-n c =
    let p = err_from_is_err_and c.from_residual.result c.from_residual.ensures.1 in
    let whole = natural_shaped c.args.digits.now (sym c.if-not-is_shaped.ensures) in
    let stop = digits_stop c.loop-byte.n c.args.digits.now c.loop-byte.byte-index c.loop-byte-test.true c.in_err-n.ensures in
    record { value = rw p.1 (sym stop ∙ c.loop-byte.invariant.0 ∙ sym whole); few = rw p.1 tt }

pub loop-byte-preserved : goal.loop-byte-preserved
loop-byte-preserved c =
    let d = c.in_ok-n.ensures in
    let e = digits_more c.loop-byte.n c.args.digits.now c.loop-byte.byte-index c.loop-byte-test.true d.0 in
    let low = digit_lt (get_or c.args.digits.now c.loop-byte.byte-index 0) d.0 in
    (ap (λ m. digits_on (c.loop-byte.n * 10 + m) (drop (c.loop-byte.byte-index + 1) c.args.digits.now)) d.1 ∙ sym e ∙ c.loop-byte.invariant.0, rw pow10_more (omega (arith, c.loop-byte.invariant.1, d.1)))

pub returns : goal.returns
returns c =
    let whole = natural_shaped c.args.digits.now (sym c.if-not-is_shaped.ensures) in
    let end : digits_on c.loop-byte.n (drop c.loop-byte.byte-index c.args.digits.now) ≡ Ok c.loop-byte.n = at_drop_all (digits_on c.loop-byte.n) c.args.digits.now c.loop-byte.byte-index c.loop-byte-test.false in
    let is = sym end ∙ c.loop-byte.invariant.0 ∙ sym whole in
    record { value = is; few = natural_lt c.args.digits.now c.loop-byte.n (sym is) }
