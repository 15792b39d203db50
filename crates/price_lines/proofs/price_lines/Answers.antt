use Rattle.std.proofs.Common.{ℕ, List, subst}
use Rattle.hour.specs.Hour.{entries}
use Rattle.page.specs.Copies.{Copies}
use Rattle.price_lines.specs.Lines.{day_ahead, price_lines}
use Rattle.price_lines.specs.Shown.{Shows}
use Rattle.price_lines.proofs.Shown.{lines_show, copied_show}
use Rattle.price_lines.proofs.price_lines.Goals as goal

pub returns : goal.returns
unfolding price_lines
returns g c =
    let book = c.args.book.now in
    let factors = g.P.Posting.grid c.args.posting.now in
    let copies : Copies (price_lines book factors) c.args.out.now c.copy_to.new.out c.copy_to.result =
    subst (λ (t : List ℕ). Copies t c.args.out.now c.copy_to.new.out c.copy_to.result) c.composed.ensures c.copy_to.ensures in
    record {
      text = copies;
      shown =
          copied_show (Shows (day_ahead book factors) (entries book)) (price_lines book factors) c.args.out.now c.copy_to.new.out c.copy_to.result
          (lines_show (day_ahead book factors) (entries book)) copies;
    }
