-- A price together with its origin.
use Rattle.std.specs.Prelude.{ℕ, cond, ℤ, pos, Ok, Err, Result, ◌==◌}
use Rattle.refusals.specs.Numbers.{number}
use Rattle.refusals.specs.declared.Refusal.{Refusal}
use Rattle.pricing.specs.declared.origins.Origin.{Origin}
use Rattle.pricing.specs.declared.origins.Origin.TheVariants.{Own, Average, Nothing}

-- the letters O, A and N
abbrev pub letter : Origin → ℕ
letter Own = 79
letter Average = 65
letter Nothing = 78

-- cents and origin
abbrev pub Priced : Type 0
Priced = Result (ℤ × Origin) Refusal

abbrev pub own_price : Result ℤ Refusal → Priced
own_price (Ok cents) = Ok (cents, Own)
own_price (Err e) = Err e

-- 0 cents where the average has no live weight either
abbrev pub from_average : Result ℤ Refusal → Priced
from_average (Ok cents) = Ok (cents, Average)
from_average (Err e) = cond (number e == 21) (Ok (pos 0, Nothing)) (Err e)

-- a hub's own price, or the average's where the hub has no live weight
abbrev pub hub_price : Result ℤ Refusal → Result ℤ Refusal → Priced
hub_price (Ok cents) average = Ok (cents, Own)
hub_price (Err e) average = cond (number e == 21) (from_average average) (Err e)
