use Rattle.real_time.specs.Prices.{real_time_price}
use Rattle.pricing.specs.Points.{PricedAt}
use Rattle.pricing.proofs.Standing.{point_stands}
use Rattle.pricing.proofs.Deciding.{same_facts_decide}
use Rattle.pricing.proofs.points.real_time_point.Goals as goal

pub returns : goal.returns
returns g c =
    let p = g.P.Posting.grid c.args.posting.now in
    let book = c.args.book.now in
    let priced : PricedAt (λ m. real_time_price m p book) c.args.point c.point_price.result = c.point_price.ensures in
    record {
      value = priced;
      facts = λ other q facts. point_stands _ _ _ _ (same_facts_decide p q book other) c.args.point _ facts priced;
    }
