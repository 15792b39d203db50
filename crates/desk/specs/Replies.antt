-- Replies in words.
use Rattle.std.specs.Prelude.{ℕ, List, [], ◌++◌, Ok, Err, codes, decimal, Result}
use Rattle.refusals.specs.Numbers.{number}
use Rattle.refusals.specs.Words.{meaning}
use Rattle.refusals.specs.declared.Refusal.{Refusal}
use Rattle.hour.specs.declared.calls.Call.{Call}
use Rattle.script.specs.Faults.{fault_text}
use Rattle.script.specs.Written.{written}
use Rattle.desk.specs.declared.replies.Reply.{Reply}
use Rattle.desk.specs.declared.replies.Reply.TheVariants.{Passed, Answered, Weighed, Shown, Helped, Misread}

abbrev pub refused_text : Refusal → List ℕ
refused_text e = codes "refused " ++ (decimal (number e) ++ (codes ", " ++ meaning e))

abbrev pub answer_text : Call → Result (Unit {0}) Refusal → List ℕ
answer_text call (Ok _) = written call ++ codes ": granted"
answer_text call (Err e) = written call ++ (codes ": refused " ++ (decimal (number e) ++ (codes ", " ++ meaning e)))

abbrev pub reply_text : Reply → List ℕ
reply_text Passed = []
reply_text (Answered call answer) = answer_text call answer
reply_text (Weighed point constraint) = []
reply_text Shown = []
reply_text Helped = []
reply_text (Misread fault) = fault_text fault
