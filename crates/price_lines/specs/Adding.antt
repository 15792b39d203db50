-- What is added to a page.
use Rattle.std.specs.Prelude.{ℕ, ◌*◌, ◌≤◌, List, length, ℤ, Result}
use Rattle.refusals.specs.declared.Refusal.{Refusal}
use Rattle.weighting.specs.Meanings.{Meaning}
use Rattle.weighting.specs.declared.points.Point.{Point}
use Rattle.pricing.specs.Origins.{Priced}
use Rattle.pricing.specs.Points.{PricedAt}
use Rattle.page.specs.Pages.{Follows}
use Rattle.page.specs.declared.pages.Page.{Page}
use Rattle.price_lines.specs.Lines.{line}

-- no line is longer
abbrev pub longest_line : ℕ
longest_line = 48

-- the text of at most that many lines, as far as the page has room
pub record Adds {n : ℕ} (lines : ℕ) (text : List ℕ) (before after : Page n) : Type 0 where
  pub added : Follows text before after
  pub short : length text ≤ lines * longest_line

-- the line of a point, with what the pricing call answers
pub record AddsPriced {n : ℕ} (price : Meaning → Result ℤ Refusal) (point : Point) (before after : Page n) : Type 0 where
  pub answer : Priced
  pub priced : PricedAt price point answer
  pub adds : Adds 1 (line point answer) before after
