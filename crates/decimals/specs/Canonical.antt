-- Which numbers a field can write.
use Rattle.std.specs.Prelude.{suc, ◌^◌, ◌<◌, ℤ, pos, negsuc}

-- at most fifteen digits
abbrev pub FewDigits : ℤ → Type 0
FewDigits (pos n) = n < 10 ^ 15
FewDigits (negsuc n) = suc n < 10 ^ 15
