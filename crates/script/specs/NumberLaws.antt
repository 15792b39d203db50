-- `number_of` is what `parse` reads.
use Rattle.std.proofs.Common.{◌≡◌, ℕ, ◌^◌, Bool, true, false, ◌&&◌, ltb, List, length, ℤ, pos, negsuc, Some, None, Ok, Err, Option, Result, sym, refl, ap, ◌∙◌, subst, ⊎_elim, w64, SFits}
use Rattle.std.specs.Option.{ok_or}
use Rattle.std.specs.Result.{result_ok}
use Rattle.std.specs.Str.{all_ascii_digits}
use Rattle.std.specs.Str.Parse.{IsNumeral, digits_value, without_leading_sign, signed_digits_value, ParsesSigned}
use Rattle.std.proofs.lemmas.Bool.{cond-true, cond-false, cases_Bool, and_parts, and_from, ltb-true, lt-ltb, both_ways}
use Rattle.std.proofs.lemmas.Str.Parse.{IsNumeralModel, numerals_by_value, tells_all_ascii_digits}
use Rattle.script.specs.Numbers.{fits64, numeral, number_of}

pub own : IsNumeralModel (λ ds. all_ascii_digits ds ≡ true) (digits_value 10)
own = numerals_by_value _ tells_all_ascii_digits

fits_from : (z : ℤ) → fits64 z ≡ true → SFits w64 z
fits_from (pos n) e = record { sfits = ltb-true n (2 ^ 63) e }
fits_from (negsuc n) e = record { sfits = ltb-true n (2 ^ 63) e }

from_fits : (z : ℤ) → SFits w64 z → fits64 z ≡ true
from_fits (pos n) h = lt-ltb n (2 ^ 63) h.sfits
from_fits (negsuc n) h = lt-ltb n (2 ^ 63) h.sfits

abbrev Is64 : List ℕ → Type 0
Is64 w = IsNumeral 10 (without_leading_sign w) × SFits w64 (signed_digits_value 10 w)

abbrev is64 : List ℕ → Bool
is64 w = numeral w && fits64 (signed_digits_value 10 w)

told : (w : List ℕ) → is64 w ≡ true → Is64 w
told w e =
    let p = and_parts (numeral w) (fits64 (signed_digits_value 10 w)) e in
    let q = and_parts (ltb 0 (length (without_leading_sign w))) (all_ascii_digits (without_leading_sign w)) p.0 in
    ((ltb-true 0 (length (without_leading_sign w)) q.0, own.to (without_leading_sign w) q.1), fits_from (signed_digits_value 10 w) p.1)

tells : (w : List ℕ) → Is64 w → is64 w ≡ true
tells w h =
    and_from (numeral w) (fits64 (signed_digits_value 10 w))
    (and_from (ltb 0 (length (without_leading_sign w))) (all_ascii_digits (without_leading_sign w)) (lt-ltb 0 (length (without_leading_sign w)) h.0.0) (own.from (without_leading_sign w) h.0.1))
    (from_fits (signed_digits_value 10 w) h.1)

number_is : (w : List ℕ) → is64 w ≡ true → number_of w ≡ Some (signed_digits_value 10 w)
unfolding number_of
number_is w e = cond-true (is64 w) (Some (signed_digits_value 10 w)) None e

number_none : (w : List ℕ) → is64 w ≡ false → number_of w ≡ None
unfolding number_of
number_none w e = cond-false (is64 w) (Some (signed_digits_value 10 w)) None e

pub parsed : {E : Type 0} (w : List ℕ) (r : Result ℤ E) → ParsesSigned w64 10 w r → result_ok r ≡ number_of w
parsed w (Ok x) h = ap Some h.1 ∙ sym (number_is w (tells w h.0))
parsed w (Err e) h = ⊎_elim
    (λ (t : is64 w ≡ true). absurd (h (told w t)))
    (λ (t : is64 w ≡ false). sym (number_none w t))
    (cases_Bool (is64 w))

pub reads : (w : List ℕ) → ParsesSigned {E = Unit {0}} w64 10 w (ok_or (number_of w) tt)
reads w = ⊎_elim
    (λ (t : is64 w ≡ true). subst (λ (o : Option ℤ). ParsesSigned {E = Unit {0}} w64 10 w (ok_or o tt)) (sym (number_is w t)) (told w t, refl))
    (λ (t : is64 w ≡ false). subst (λ (o : Option ℤ). ParsesSigned {E = Unit {0}} w64 10 w (ok_or o tt)) (sym (number_none w t)) (λ h. both_ways (is64 w) t (tells w h)))
    (cases_Bool (is64 w))
