-- What each refusal means, in words.
use Rattle.std.specs.Prelude.{ℕ, List, codes}
use Rattle.refusals.specs.declared.Refusal.{Refusal}
use Rattle.refusals.specs.declared.Refusal.TheVariants.{BusOutside, HubBusOutside, ZoneOutside, HubBusFull, LoadOutside, ConstraintOutside, ShadowPriceOutside, NotPosted, LambdaOutside, RunOutside, SecondsOutside, AdderOutside, NotEntered, BufferShort, NoLambda, SecondsShort, NoWeight, PointOutside, PostedOutside}

abbrev pub meaning : Refusal → List ℕ
meaning BusOutside = codes "bus is not 0 to 255"
meaning HubBusOutside = codes "hub bus is not 0 to 155"
meaning ZoneOutside = codes "zone is not 0 to 16"
meaning HubBusFull = codes "hub bus has eight other buses"
meaning LoadOutside = codes "load is not 0 to 10000 tenths of a megawatt"
meaning ConstraintOutside = codes "constraint is not 0 to 31"
meaning ShadowPriceOutside = codes "shadow price is not within 1000000 cents of 0"
meaning NotPosted = codes "constraint is not posted"
meaning LambdaOutside = codes "lambda is not within 100000000000000 fine units of 0"
meaning RunOutside = codes "run is not 0 to 15"
meaning SecondsOutside = codes "seconds are below 1, or all runs together above 900"
meaning AdderOutside = codes "adder is not within 1000000 cents of 0"
meaning NotEntered = codes "run is not entered"
meaning BufferShort = codes "buffer is shorter than the output, or table under 8192 entries"
meaning NoLambda = codes "lambda is not set"
meaning SecondsShort = codes "seconds are not 900 in all"
meaning NoWeight = codes "no live bus has weight"
meaning PointOutside = codes "hub is not 1 to 6, zone not 1 to 16, or tie bus not 0 to 255"
meaning PostedOutside = codes "posted number is not within 1000000 of 0"
