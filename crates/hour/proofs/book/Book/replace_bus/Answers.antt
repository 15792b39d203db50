use Rattle.std.proofs.Common.{◌∙◌, length-set}
use Rattle.hour.specs.Sound.{bus_sound}
use Rattle.hour.proofs.Tables.{all_by_set}
use Rattle.hour.proofs.book.Book.replace_bus.Goals as goal

pub invariant_of-self-clause-size : goal.invariant_of-self-clause-size
invariant_of-self-clause-size c = let b = c.args.self.now in length-set b.buses c.from.result c.args.new ∙ b.size

pub invariant_of-self-clause-few : goal.invariant_of-self-clause-few
invariant_of-self-clause-few c = rw c.from.ensures c.requires.few

pub invariant_of-self-clause-sound : goal.invariant_of-self-clause-sound
invariant_of-self-clause-sound c = let b = c.args.self.now in all_by_set bus_sound b.buses c.from.result c.args.new c.requires.sound b.sound
