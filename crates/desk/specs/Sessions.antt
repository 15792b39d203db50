-- What a line makes of the hour, and the reply that it gets.
use Rattle.std.specs.Prelude.{Some, None, Ok, Err, Option, Result}
use Rattle.hour.specs.Hour.{Hour}
use Rattle.hour.specs.Replays.{step, after, said}
use Rattle.script.specs.declared.commands.Command.{Command}
use Rattle.script.specs.declared.commands.Command.TheVariants.{Call, Weights, Show, Help}
use Rattle.script.specs.declared.commands.NotACall.{NotACall}
use Rattle.desk.specs.declared.replies.Reply.{Reply}
use Rattle.desk.specs.declared.replies.Reply.TheVariants.{Passed, Answered, Weighed, Shown, Helped, Misread}

-- a line that is no call changes nothing
abbrev pub hour_after : Hour → Result (Option Command) NotACall → Hour
hour_after h (Err fault) = h
hour_after h (Ok None) = h
hour_after h (Ok (Some (Call call))) = after h call
hour_after h (Ok (Some (Weights point constraint))) = h
hour_after h (Ok (Some Show)) = h
hour_after h (Ok (Some Help)) = h

abbrev pub reply_to : Hour → Result (Option Command) NotACall → Reply
reply_to h (Err fault) = Misread fault
reply_to h (Ok None) = Passed
reply_to h (Ok (Some (Call call))) = Answered call (said (step h call))
reply_to h (Ok (Some (Weights point constraint))) = Weighed point constraint
reply_to h (Ok (Some Show)) = Shown
reply_to h (Ok (Some Help)) = Helped
