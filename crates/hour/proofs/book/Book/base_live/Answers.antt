use Rattle.std.proofs.Common.{rules}
use Rattle.hour.specs.Live.{is_live}
use Rattle.hour.proofs.book.Book.base_live.Goals as goal

pub returns : goal.returns
returns c = c.set_of.ensures (is_live c.args.market) (λ x r says. search rules)
