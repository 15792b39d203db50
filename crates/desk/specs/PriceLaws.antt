-- What a price's text tells.
use Rattle.std.specs.Prelude.{◌≡◌, ℤ, FitsSigned}
use Rattle.std.specs.Int.{w64}
use Rattle.desk.specs.PriceTexts.{amount}

-- no other number of cents, of all that code holds, is written so
abbrev pub Tells : ℤ → Type 0
Tells cents = (other : ℤ) → FitsSigned w64 other → amount other ≡ amount cents → other ≡ cents
