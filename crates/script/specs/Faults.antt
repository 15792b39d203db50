-- What is wrong with a line that is no command, in words.
use Rattle.std.specs.Prelude.{ℕ, List, ◌++◌, codes}
use Rattle.script.specs.Verbs.{usage}
use Rattle.script.specs.declared.commands.NotACall.{NotACall}
use Rattle.script.specs.declared.commands.NotACall.TheVariants.{Unknown, Usage}

abbrev pub fault_text : NotACall → List ℕ
fault_text Unknown = codes "no such call; help lists them"
fault_text (Usage verb) = codes "not a call; write " ++ usage verb
