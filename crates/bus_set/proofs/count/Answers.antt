use Rattle.std.proofs.Common.{ℕ, ◌^◌, ◌<◌, ◌≤◌, get_or, arith, rules}
use lib.Count.{ones}
use Rattle.std.proofs.lemmas.Nat.{ones-le}
use Rattle.bus_set.proofs.Sets.{set_count}
use Rattle.bus_set.proofs.count.Goals as goal

pub overflow_add-result : goal.overflow_add-result
overflow_add-result c =
    let most : (i : ℕ) → ones (get_or c.args.set i 0) ≤ 64 = λ i. ones-le 64 (get_or c.args.set i 0) (search rules) in
    record { fits = omega (arith, most 0, most 1, most 2, most 3) }

pub overflow_add-result-2 : goal.overflow_add-result-2
overflow_add-result-2 c =
    let most : (i : ℕ) → ones (get_or c.args.set i 0) ≤ 64 = λ i. ones-le 64 (get_or c.args.set i 0) (search rules) in
    record { fits = omega (arith, most 0, most 1, most 2, most 3) }

pub overflow_add-result-3 : goal.overflow_add-result-3
overflow_add-result-3 c =
    let most : (i : ℕ) → ones (get_or c.args.set i 0) ≤ 64 = λ i. ones-le 64 (get_or c.args.set i 0) (search rules) in
    record { fits = omega (arith, most 0, most 1, most 2, most 3) }

pub returns : goal.returns
returns c =
    let low : (i : ℕ) → get_or c.args.set i 0 < 2 ^ 64 = λ i. search rules in
    set_count c.args.set (low 0) (low 1) (low 2) (low 3)
