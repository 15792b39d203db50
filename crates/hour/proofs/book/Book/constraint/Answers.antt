use Rattle.std.proofs.Common.{◌≡◌, get_or, None, rules}
use Rattle.hour.specs.Sound.{constraint_sound}
use Rattle.hour.proofs.Tables.{all_by_get_or}
use Rattle.hour.proofs.book.Book.constraint.Goals as goal

pub returns-clause-sound : goal.returns-clause-sound
returns-clause-sound c =
    let b = c.args.self.now in
    let e : c.flatten.result ≡ get_or b.constraints c.args.constraint None = search rules in
    rw e (all_by_get_or constraint_sound b.constraints c.args.constraint b.posted)
