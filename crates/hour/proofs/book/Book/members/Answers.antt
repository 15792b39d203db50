use Rattle.std.proofs.Common.{rules}
use Rattle.hour.specs.Sound.{in_hub_bus}
use Rattle.hour.proofs.book.Book.members.Goals as goal

pub returns : goal.returns
returns c = c.set_of.ensures (in_hub_bus c.args.hub_bus) (λ x r says. search rules)
