use Rattle.day_ahead.specs.Prices.{day_ahead_price}
use Rattle.pricing.specs.Points.{PricedAt}
use Rattle.pricing.proofs.Standing.{point_stands}
use Rattle.pricing.proofs.Deciding.{live_facts_decide, reference_stays}
use Rattle.pricing.proofs.points.day_ahead_point.Goals as goal

pub returns : goal.returns
returns g c =
    let p = g.P.Posting.grid c.args.posting.now in
    let book = c.args.book.now in
    let priced : PricedAt (λ m. day_ahead_price m p book) c.args.point c.point_price.result = c.point_price.ensures in
    record {
      value = priced;
      facts = λ other q facts. point_stands _ _ _ _ (live_facts_decide p q book other) c.args.point _ facts priced;
      reference = λ bus _ other moved. point_stands _ _ _ _ (reference_stays p bus book other) c.args.point _ moved priced;
    }
