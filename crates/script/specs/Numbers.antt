-- When a word is a number of 64 bits with a sign, in base ten, and which.
use Rattle.std.specs.Prelude.{ℕ, ◌^◌, Bool, cond, ◌&&◌, List, length, ℤ, pos, negsuc, Some, None, Option, nat_lt}
use Rattle.std.specs.Str.Parse.{without_leading_sign, signed_digits_value}
use Rattle.std.specs.Str.{all_ascii_digits}

abbrev pub fits64 : ℤ → Bool
fits64 (pos n) = nat_lt n (2 ^ 63)
fits64 (negsuc n) = nat_lt n (2 ^ 63)

-- one digit or more, after a plus, a minus or no sign
abbrev pub numeral : List ℕ → Bool
numeral w = nat_lt 0 (length (without_leading_sign w)) && all_ascii_digits (without_leading_sign w)

unfoldable pub number_of : List ℕ → Option ℤ
number_of w = cond (numeral w && fits64 (signed_digits_value 10 w)) (Some (signed_digits_value 10 w)) None
