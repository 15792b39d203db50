use Rattle.std.proofs.Common.{refl}
use Rattle.script.proofs.Cuts.{words_first}
use Rattle.script.proofs.words.cut.Goals as goal

pub returns : goal.returns
returns c =
    record { first = rw (c.or.ensures, c.then_some-whole.ensures) (words_first _ _ _ _ _ c.trim_start_matches-line.ensures.matches c.split_once.ensures.cases c.is_empty.ensures refl) }
