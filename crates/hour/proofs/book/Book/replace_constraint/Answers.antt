use Rattle.std.proofs.Common.{◌∙◌, length-set}
use Rattle.hour.specs.Sound.{when_some, constraint_sound}
use Rattle.hour.proofs.Tables.{all_by_set}
use Rattle.hour.proofs.book.Book.replace_constraint.Goals as goal

pub invariant_of-self-clause-columns : goal.invariant_of-self-clause-columns
invariant_of-self-clause-columns c = let b = c.args.self.now in (length-set b.constraints c.args.i c.args.constraint ∙ b.columns.0, b.columns.1)

pub invariant_of-self-clause-posted : goal.invariant_of-self-clause-posted
invariant_of-self-clause-posted c = let b = c.args.self.now in all_by_set (when_some constraint_sound) b.constraints c.args.i c.args.constraint c.requires.sound b.posted
