use Rattle.std.proofs.Common.{sym, subst, rules}
use Rattle.hour.specs.Hour.{entries}
use Rattle.settlement.specs.declared.deeds.Deed.{Deed}
use Rattle.settlement.specs.declared.deeds.Answer.TheVariants as answer
use Rattle.settlement.specs.Prices.{Answers}
use Rattle.settlement.proofs.Promises.{point_of_hour, weighting_of_hour}
use Rattle.settlement.proofs.runs.Desk.work.Goals as goal

pub returns-in-Price : goal.returns-in-Price
returns-in-Price g c =
    let m = g.W.Weighting.meaning c.args.self.now.weighting.now in
    let posted = g.P.Posting.grid c.args.self.now.posting.now in
    let book = c.args.book.now in
    let r = c.price_point.result in
    record {
      hour = search rules;
      answer = subst (λ (d : Deed). Answers m posted (entries book) d (answer.Priced r)) (sym c.in-Price.is) (λ other e. point_of_hour c.in-Price.market c.in-Price.point posted book other r (sym e) c.price_point.ensures);
    }

pub returns-in-PriceWeighting : goal.returns-in-PriceWeighting
returns-in-PriceWeighting g c =
    let m = g.W.Weighting.meaning c.args.self.now.weighting.now in
    let posted = g.P.Posting.grid c.args.self.now.posting.now in
    let book = c.args.book.now in
    let r = c.price_weighting.result in
    record {
      hour = search rules;
      answer = subst (λ (d : Deed). Answers m posted (entries book) d (answer.Priced r)) (sym c.in-PriceWeighting.is) (λ other e. weighting_of_hour c.in-PriceWeighting.market m posted book other r (sym e) c.price_weighting.ensures);
    }
