-- A run: the deeds done to a fresh book, one after another, and the hour that they leave.
use Rattle.std.specs.Prelude.{List, [], ◌∷◌, Ok, Err, Result}
use Rattle.faults.specs.declared.Fault.{Fault}
use Rattle.hour.specs.Hour.{Hour, fresh}
use Rattle.hour.specs.Replays.{after}
use Rattle.saved.specs.Reading.{reading}
use Rattle.settlement.specs.declared.deeds.Deed.{Deed}
use Rattle.settlement.specs.declared.deeds.Deed.TheVariants as deed

-- the hour that a text makes; a refused text changes nothing
abbrev pub resumed : Result Hour Fault → Hour → Hour
resumed (Ok new) old = new
resumed (Err e) old = old

-- the hour after a deed; a save and a question for a price leave it alone
abbrev pub after_deed : Hour → Deed → Hour
after_deed h (deed.Call call) = after h call
after_deed h (deed.Save room) = h
after_deed h (deed.Resume text) = resumed (reading text.now) h
after_deed h (deed.Price market point) = h
after_deed h (deed.PriceWeighting market) = h

-- the hour after deeds, one after another
abbrev pub after_all : Hour → List Deed → Hour
after_all h [] = h
after_all h (d ∷ ds) = after_all (after_deed h d) ds

-- the hour that a run makes of a fresh book
abbrev pub hour_of : List Deed → Hour
hour_of deeds = after_all fresh deeds
