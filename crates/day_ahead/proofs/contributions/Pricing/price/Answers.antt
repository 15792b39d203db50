use Rattle.std.proofs.Common.{◌≡◌, eqb, Some, Ok, sym, ap, ◌∙◌, ap₂, w64, SFits, rules}
use mir.Syntax.{w128}
use Rattle.std.proofs.lemmas.Int.{to_z-of_z}
use Rattle.std.proofs.lemmas.Bool.{cond-true, cond-false, eq-eqb, ne_eqb}
use Rattle.hour.specs.Hour.{entries}
use Rattle.weighting.proofs.Weighed.{total_alike}
use Rattle.day_ahead.specs.Prices.{base_case, in_cents, price_at}
use Rattle.day_ahead.proofs.contributions.Pricing.price.Goals as goal

pub returns-then-total-eq0 : goal.returns-then-total-eq0
returns-then-total-eq0 g c =
    let m = g.W.Weighting.meaning c.args.self.now.weighting.now in
    let p = g.P.Posting.grid c.args.self.now.posting.now in
    let book = c.args.self.now.book.now in
    let total : c.total.result ≡ m.total (base_case book) = c.total.ensures ∙ total_alike m _ _ c.base-base.ensures.alike in
    let set : (entries book).lambda ≡ Some c.in_ok-lambda.lambda = sym c.lambda.ensures.value ∙ c.in_ok-lambda.ensures.ok_part in
    sym (ap (price_at m p book) set ∙ cond-true (eqb (m.total (base_case book)) 0) _ _ (eq-eqb _ 0 (sym total ∙ c.if-total-eq0.true)))

pub returns : goal.returns
returns g c =
    let m = g.W.Weighting.meaning c.args.self.now.weighting.now in
    let p = g.P.Posting.grid c.args.self.now.posting.now in
    let book = c.args.self.now.book.now in
    let total : c.total.result ≡ m.total (base_case book) = c.total.ensures ∙ total_alike m _ _ c.base-base.ensures.alike in
    let set : (entries book).lambda ≡ Some c.in_ok-lambda.lambda = sym c.lambda.ensures.value ∙ c.in_ok-lambda.ensures.ok_part in
    let lambda : SFits w64 c.in_ok-lambda.lambda = search rules in
    let sum : SFits w128 c.contributions.result = search rules in
    let cents : SFits w64 c.cents.result = search rules in
    let value = to_z-of_z w64 c.cents.result cents ∙ c.cents.ensures ∙ ap₂ in_cents (to_z-of_z w64 c.in_ok-lambda.lambda lambda) (to_z-of_z w128 c.contributions.result sum ∙ c.contributions.ensures.value) in
    sym (ap (price_at m p book) set ∙ cond-false (eqb (m.total (base_case book)) 0) _ _ (ne_eqb _ 0 (λ e. c.if-total-eq0.false (total ∙ e))) ∙ ap Ok (sym value))
