-- `number_of` reads what `signed_decimal` writes.
use Rattle.std.proofs.Common.{◌≡◌, ℕ, suc, ◌^◌, ◌<◌, true, false, List, [], ◌∷◌, ℤ, pos, negsuc, Some, None, Ok, decimal, Option, refl, arith, w64, SFits}
use Rattle.std.specs.Option.{ok_or}
use Rattle.std.specs.Fmt.{signed_decimal}
use Rattle.std.specs.Char.{is_ascii_digit}
use Rattle.std.specs.Str.{all_ascii_digits}
use Rattle.std.proofs.lemmas.Fmt.{parse-signed_decimal, digits_decimal, decimal_nonempty}
use Rattle.std.proofs.lemmas.Bool.{and_parts}
use Rattle.std.proofs.lemmas.Bool.Decides.{nat_tests as tests}
use Rattle.script.specs.Numbers.{number_of}
use Rattle.script.specs.NumberLaws.{own, reads}
use Rattle.script.specs.Words.{blank}
use Rattle.script.proofs.Cuts.{Plain}
use Rattle.script.proofs.Spaces.{Word}

some_from_ok : (o : Option ℤ) (z : ℤ) → ok_or {E = Unit {0}} o tt ≡ Ok z → o ≡ Some z
some_from_ok None z e = let n : ◌≡◌ {A = ℕ} 0 1 = cc in absurd (omega arith)
some_from_ok (Some x) z e = cc

pub number_signed : (z : ℤ) → SFits w64 z → number_of (signed_decimal z) ≡ Some z
number_signed z f = some_from_ok (number_of (signed_decimal z)) z (parse-signed_decimal w64 z (signed_decimal z) _ f f.sfits refl (reads (signed_decimal z)))

-- digits hold no blank
digits_plain : (ds : List ℕ) → all_ascii_digits ds ≡ true → Plain ds
digits_plain [] e = tt
digits_plain (c ∷ cs) e = let p = and_parts (is_ascii_digit c) (all_ascii_digits cs) e in (digit_plain c p.0, digits_plain cs p.1)
  where
    digit_plain : (c : ℕ) → is_ascii_digit c ≡ true → blank c ≡ false
    digit_plain c d = grind (arith, tests)

pub word_signed : (z : ℤ) → SFits w64 z → Word (signed_decimal z)
word_signed (pos n) f = let l : n < 2 ^ 64 = omega (arith, f.sfits) in record { plain = digits_plain (decimal n) (digits_decimal own n l); some = decimal_nonempty n l }
word_signed (negsuc n) f =
    let l : suc n < 2 ^ 64 = omega (arith, f.sfits) in
    record { plain = (refl, digits_plain (decimal (suc n)) (digits_decimal own (suc n) l)); some = omega (arith, decimal_nonempty (suc n) l) }
