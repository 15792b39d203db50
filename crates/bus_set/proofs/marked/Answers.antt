use Rattle.std.proofs.Common.{◌≡◌, ◌/◌, ◌^◌, ◌<◌, length, get_or, arith, rules}
use Rattle.bus_set.proofs.Sets.{member_with, by_four, words_from, words_set}
use Rattle.bus_set.proofs.marked.Goals as goal

pub returns-clause-law : goal.returns-clause-law
returns-clause-law c =
    let size : length c.args.set ≡ 4 = search rules in
    let low : c.args.bus < 256 = search rules in
    rw (c.with_bit.ensures, c.from-i.ensures) (λ k l. member_with c.args.set c.args.bus k c.args.on size low l)

pub returns-clause-words : goal.returns-clause-words
returns-clause-words c =
    let words = c.args.set in
    let size : length words ≡ 4 = search rules in
    let low : c.args.bus < 256 = search rules in
    let i = c.from-i.ensures in
    let place : c.from-i.result / 64 < 4 = omega arith in
    let fits = by_four (λ i. get_or words i 0 < 2 ^ 64) (search rules) (search rules) (search rules) (search rules) in
    words_set words (c.from-i.result / 64) c.with_bit.result place c.with_bit.type_inv (words_from words size fits)
