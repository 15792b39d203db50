-- Prices in words.
use Rattle.std.specs.Prelude.{ℕ, ◌/◌, ◌%◌, List, [], ◌++◌, ℤ, pos, negsuc, codes, decimal, unsigned_abs}
use Rattle.pricing.specs.declared.origins.Origin.{Origin}
use Rattle.pricing.specs.declared.origins.Origin.TheVariants.{Own, Average, Nothing}

abbrev pub sign : ℤ → List ℕ
sign (pos n) = []
sign (negsuc n) = codes "-"

-- dollars, and two digits of cents, of so many cents
abbrev pub dollars : ℕ → List ℕ
dollars n = codes "$" ++ (decimal (n / 100) ++ (codes "." ++ (decimal (n % 100 / 10) ++ decimal (n % 10))))

abbrev pub amount : ℤ → List ℕ
amount cents = sign cents ++ dollars (unsigned_abs cents)

abbrev pub origin_words : Origin → List ℕ
origin_words Own = codes "own weighting"
origin_words Average = codes "ERCOT average"
origin_words Nothing = codes "no live weight"

abbrev pub price_text : ℤ → Origin → List ℕ
price_text cents origin = amount cents ++ (codes ", " ++ origin_words origin)
