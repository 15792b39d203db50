use Rattle.std.proofs.Common.{◌≡◌, None, rules, tests}
use Rattle.std.specs.Str.Pattern.{FindsCharPrefix}
use Rattle.script.specs.Commands.{by_verb, command}
use Rattle.script.specs.Readings.{left}
use Rattle.script.specs.Verbs.{verb_of}
use Rattle.script.proofs.Lines.{kept, looked_up}
use Rattle.script.proofs.commands.of_words.Goals as goal

pub returns : goal.returns
returns c =
    let e : command (left c.args.words) ≡ by_verb (verb_of c.in-Some.first.now) (left c.next.new.self) =
    let first = kept _ _ _ _ _ c.next.ensures.steps c.in-Some.ensures in
    let q = first.1 in
    let plain : FindsCharPrefix 35 c.in-Some.first.now None = search (rules, tests) in
    looked_up _ _ _ first.0 plain in
    search rules
