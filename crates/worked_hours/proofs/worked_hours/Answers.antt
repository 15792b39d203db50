use Rattle.std.proofs.Common.{List, ℤ, ap, ◌∙◌, subst}
use Rattle.hour.specs.Hour.{fresh}
use Rattle.hour.specs.Replays.{worked}
use Rattle.posting.specs.Meanings.{table_grid}
use Rattle.day_ahead.specs.Prices.{day_ahead_price}
use Rattle.pricing.specs.Points.{PricedAt}
use Rattle.worked_hours.specs.Rows.{hub}
use Rattle.worked_hours.proofs.Rows.{worked_rows}
use Rattle.worked_hours.proofs.worked_hours.Goals as goal

-- the book has the entries of the row, and the table its numbers
pub returns : goal.returns
returns c =
    let book = c.worked_book-book.result in
    record {
      rows = worked_rows;
      north = worked_rows.north book (c.worked_book-book.ensures ∙ ap (worked fresh) c.hour_n.ensures) c.day_ahead_point.result
          (subst (λ (numbers : List ℤ). PricedAt (λ m. day_ahead_price m (table_grid numbers) book) (hub 1) c.day_ahead_point.result)
          (c.over.ensures.made ∙ c.factors_n-factors.ensures) c.day_ahead_point.ensures.value);
    }
