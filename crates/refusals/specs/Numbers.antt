-- The number of each refusal.
use Rattle.std.specs.Prelude.{ℕ}
use Rattle.refusals.specs.declared.Refusal.{Refusal}
use Rattle.refusals.specs.declared.Refusal.TheVariants.{BusOutside, HubBusOutside, ZoneOutside, HubBusFull, LoadOutside, ConstraintOutside, ShadowPriceOutside, NotPosted, LambdaOutside, RunOutside, SecondsOutside, AdderOutside, NotEntered, BufferShort, NoLambda, SecondsShort, NoWeight, PointOutside, PostedOutside}

abbrev pub number : Refusal → ℕ
number BusOutside = 1
number HubBusOutside = 2
number ZoneOutside = 3
number HubBusFull = 4
number LoadOutside = 5
number ConstraintOutside = 6
number ShadowPriceOutside = 7
number NotPosted = 8
number LambdaOutside = 9
number RunOutside = 10
number SecondsOutside = 11
number AdderOutside = 12
number NotEntered = 13
number BufferShort = 14
number NoLambda = 19
number SecondsShort = 20
number NoWeight = 21
number PointOutside = 22
number PostedOutside = 23
