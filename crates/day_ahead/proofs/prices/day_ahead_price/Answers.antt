use Rattle.std.proofs.Common.{sym, ◌∙◌}
use Rattle.day_ahead.proofs.Living.{decided}
use Rattle.day_ahead.proofs.Nearness.{near_exact}
use Rattle.day_ahead.proofs.Moving.{price_stays}
use Rattle.day_ahead.proofs.prices.day_ahead_price.Goals as goal

pub returns : goal.returns
returns g c =
    let m = g.W.Weighting.meaning c.args.weighting.now in
    let p = g.P.Posting.grid c.args.posting.now in
    let book = c.args.book.now in
    record {
      value = c.price.ensures;
      facts = λ other q facts. sym (c.price.ensures ∙ decided m p q book other facts);
      near = near_exact m p book _ c.price.ensures;
      reference = λ small bus _ other moved.
          price_stays m p bus book other (record { moved = moved; small_factors = λ k _ _ b. small b k }) ∙ sym c.price.ensures;
      posted_reference = λ bus _ other moved. price_stays m p bus book other moved ∙ sym c.price.ensures;
    }
