-- How long the fields of a price line can be.
use Rattle.std.proofs.Common.{ℕ, [], ◌∷◌, ◌++◌, ◌<◌, ◌≤◌, length, ℤ, decimal, arith, lit<, w64, SFits, rules}
use Rattle.std.specs.Fmt.{signed_decimal}
use Rattle.std.proofs.lemmas.Fmt.{length_signed_le, length-decimal-le}
use Rattle.std.proofs.lemmas.List.{length-append}
use Rattle.refusals.specs.Numbers.{number}
use Rattle.refusals.specs.declared.Refusal.{Refusal}
use Rattle.refusals.specs.declared.Refusal.TheVariants.{BusOutside, HubBusOutside, ZoneOutside, HubBusFull, LoadOutside, ConstraintOutside, ShadowPriceOutside, NotPosted, LambdaOutside, RunOutside, SecondsOutside, AdderOutside, NotEntered, BufferShort, NoLambda, SecondsShort, NoWeight, PointOutside, PostedOutside}

pub signed_short : (z : ℤ) → SFits w64 z → length (signed_decimal z) ≤ 20
signed_short z fits = search (rules, length_signed_le 19)

pub cents_short : (cents : ℤ) (letter : ℕ) → SFits w64 cents → length (signed_decimal cents ++ (44 ∷ letter ∷ [])) ≤ 22
cents_short cents letter fits = omega (arith, length-append (signed_decimal cents) (44 ∷ letter ∷ []), signed_short cents fits)

pub number_small : (e : Refusal) → number e < 100
number_small BusOutside = lit< tt
number_small HubBusOutside = lit< tt
number_small ZoneOutside = lit< tt
number_small HubBusFull = lit< tt
number_small LoadOutside = lit< tt
number_small ConstraintOutside = lit< tt
number_small ShadowPriceOutside = lit< tt
number_small NotPosted = lit< tt
number_small LambdaOutside = lit< tt
number_small RunOutside = lit< tt
number_small SecondsOutside = lit< tt
number_small AdderOutside = lit< tt
number_small NotEntered = lit< tt
number_small BufferShort = lit< tt
number_small NoLambda = lit< tt
number_small SecondsShort = lit< tt
number_small NoWeight = lit< tt
number_small PointOutside = lit< tt
number_small PostedOutside = lit< tt

pub refusal_short : (e : Refusal) → length (decimal (number e)) ≤ 2
refusal_short e = length-decimal-le 2 (number e) (omega arith) (number_small e) (omega (arith, number_small e))
