use Rattle.std.proofs.Common.{sym, ◌∙◌, SFits, to_z, of_z, rules}
use mir.Syntax.{w128}
use Rattle.std.proofs.lemmas.Int.{to_z-of_z}
use Rattle.real_time.specs.Weights.{base_view}
use Rattle.real_time.proofs.Laws.{unfilled, priced_is, nearest_cent, facts_decide}
use Rattle.real_time.proofs.prices.real_time_price.Goals as goal

pub returns-then-total_seconds-ne-INTERVAL-clause-facts : goal.returns-then-total_seconds-ne-INTERVAL-clause-facts
returns-then-total_seconds-ne-INTERVAL-clause-facts g c =
    facts_decide (g.W.Weighting.meaning c.args.weighting.now) (g.P.Posting.grid c.args.posting.now) c.args.book.now _
    (sym (unfilled (g.W.Weighting.meaning c.args.weighting.now) (g.P.Posting.grid c.args.posting.now) c.args.book.now (λ e. c.if-total_seconds-ne-INTERVAL.true (c.total_seconds.ensures ∙ e))))

pub returns-clause-value : goal.returns-clause-value
returns-clause-value g c =
    let m = g.W.Weighting.meaning c.args.weighting.now in
    let p = g.P.Posting.grid c.args.posting.now in
    let book = c.args.book.now in
    let at = c.weigh-weights.ensures in
    let fits : SFits w128 c.hour_sum.result = search rules in
    c.ok_or.ensures.value
    ∙ priced_is m p book c.weigh-weights.result (at.weights (base_view book) c.base.ensures.alike) (at.total (base_view book) c.base.ensures.alike)
    (to_z w128 (of_z w128 c.hour_sum.result)) (to_z-of_z w128 c.hour_sum.result fits ∙ c.hour_sum.ensures.value) (sym c.total_seconds.ensures ∙ c.if-total_seconds-ne-INTERVAL.false)
    c.cents.result c.cents.ensures

pub returns-clause-nearest : goal.returns-clause-nearest
returns-clause-nearest g c = nearest_cent (g.W.Weighting.meaning c.args.weighting.now) (g.P.Posting.grid c.args.posting.now) c.args.book.now _ (returns-clause-value g c)

pub returns-clause-facts : goal.returns-clause-facts
returns-clause-facts g c = facts_decide (g.W.Weighting.meaning c.args.weighting.now) (g.P.Posting.grid c.args.posting.now) c.args.book.now _ (returns-clause-value g c)
