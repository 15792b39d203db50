use Rattle.std.proofs.Common.{◌∙◌, length-set}
use Rattle.hour.specs.Sound.{when_some, run_sound}
use Rattle.hour.proofs.Tables.{all_by_set}
use Rattle.hour.proofs.book.Book.replace_run.Goals as goal

pub invariant_of-self-clause-columns : goal.invariant_of-self-clause-columns
invariant_of-self-clause-columns c = let b = c.args.self.now in (b.columns.0, length-set b.runs c.args.i c.args.run ∙ b.columns.1)

pub invariant_of-self-clause-entered : goal.invariant_of-self-clause-entered
invariant_of-self-clause-entered c = let b = c.args.self.now in all_by_set (when_some run_sound) b.runs c.args.i c.args.run c.requires.sound b.entered
