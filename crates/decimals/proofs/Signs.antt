-- The numbers that `decimalOf` reads are those that `signed` writes.
use Rattle.std.proofs.Common.{◌≡◌, ℕ, zero, suc, ◌+◌, ◌-◌, ◌*◌, ◌^◌, ◌<◌, true, false, ◌&&◌, eqb, List, [], ◌∷◌, length, get_or, ℤ, pos, negsuc, Ok, Err, decimal, Result, sym, refl, ap, ◌∙◌, subst, ⊎_elim, arith, lit<, rules}
use Rattle.std.specs.Char.{is_ascii_digit}
use Rattle.std.specs.Fmt.{signed_decimal as signed}
use Rattle.std.specs.Str.{all_ascii_digits}
use Rattle.std.proofs.lemmas.Str.Parse.{IsNumeralModel, numerals_by_fold, not_in_digits}
use Rattle.std.proofs.lemmas.Fmt.{decimal_nonempty, length-decimal-le, first_decimal, decimal_digit, digits_decimal, digits_value-decimal, decimal-digits_value}
use Rattle.std.proofs.lemmas.Bool.{eq-eqb, ne_eqb, cond-true, cond-false, cases_Bool, cases_eq}
use Rattle.std.proofs.lemmas.Bool.Decides.{nat_tests}
use Rattle.faults.specs.declared.Malformed.{Malformed}
use Rattle.faults.specs.Faults.{malformed}
use Rattle.decimals.specs.Decimals.{digits_on, shaped, natural_of, negative, positive, decimal_of}
use Rattle.decimals.specs.Canonical.{FewDigits}
use Rattle.decimals.proofs.Naturals.{natural_lt, decimal_minus, decimal_plain}

abbrev pub read_on : ℕ → List ℕ → ℕ
read_on n [] = n
read_on n (c ∷ cs) = read_on (n * 10 + (c - 48)) cs

pub own : IsNumeralModel (λ ds. all_ascii_digits ds ≡ true) (read_on 0)
own = numerals_by_fold _ (search rules) read_on (search rules)

pub never : {X : Type 0} {A B : Type 0} (a : A) (b : B) → ◌≡◌ {A = Result A B} (Ok a) (Err b) → X
never a b e = let z : ◌≡◌ {A = ℕ} 0 1 = cc in absurd (omega arith)

on_digits : (n : ℕ) (ds : List ℕ) → all_ascii_digits ds ≡ true → digits_on n ds ≡ Ok (read_on n ds)
on_digits n [] h = refl
on_digits n (c ∷ cs) h = ⊎_elim
    (λ (d : is_ascii_digit c ≡ true). cond-true _ _ _ d ∙ on_digits (n * 10 + (c - 48)) cs (sym (ap (λ b. b && all_ascii_digits cs) d) ∙ h))
    (λ (d : is_ascii_digit c ≡ false). let z : false ≡ true = sym (ap (λ b. b && all_ascii_digits cs) d) ∙ h in absurd (grind arith))
    (cases_Bool (is_ascii_digit c))

from_digits : (n : ℕ) (ds : List ℕ) (m : ℕ) → digits_on n ds ≡ Ok m → (all_ascii_digits ds ≡ true) × (read_on n ds ≡ m)
from_digits n [] m e = (refl, cc)
from_digits n (c ∷ cs) m e = ⊎_elim
    (λ (d : is_ascii_digit c ≡ true). let r = from_digits (n * 10 + (c - 48)) cs m (sym (cond-true _ _ _ d) ∙ e) in (ap (λ b. b && all_ascii_digits cs) d ∙ r.0, r.1))
    (λ (d : is_ascii_digit c ≡ false). never m malformed (sym e ∙ cond-false _ _ _ d))
    (cases_Bool (is_ascii_digit c))

shaped_decimal : (n : ℕ) → n < 10 ^ 15 → shaped (decimal n) ≡ true
shaped_decimal n h =
    let big : n < 2 ^ 64 = omega arith in
    let a = decimal_nonempty n big in
    let b = length-decimal-le 15 n (lit< tt) h big in
    ⊎_elim
    (λ (z : n ≡ 0). let one : decimal n ≡ 48 ∷ [] = ap decimal z ∙ decimal_digit 0 (lit< tt) in let l : length (decimal n) ≡ 1 = ap length one in grind (arith, nat_tests))
    (λ (z : n ≡ 0 → ⊥). let f = first_decimal n (omega arith) big in grind (arith, nat_tests))
    (cases_eq n 0)

pub natural_decimal : (n : ℕ) → n < 10 ^ 15 → natural_of (decimal n) ≡ Ok n
unfolding natural_of
natural_decimal n h =
    let big : n < 2 ^ 64 = omega arith in
    cond-true _ _ _ (shaped_decimal n h) ∙ on_digits 0 (decimal n) (digits_decimal own n big) ∙ ap Ok (digits_value-decimal own n big)

pub decimal_natural : (s : List ℕ) (n : ℕ) → natural_of s ≡ Ok n → s ≡ decimal n
unfolding natural_of
decimal_natural s n e = ⊎_elim
    (λ (d : shaped s ≡ true).
    let r = from_digits 0 s n (sym (cond-true _ _ _ d) ∙ e) in
    let small = natural_lt s n e in
    let some : 0 < length s = grind (arith, nat_tests) in
    let v : read_on 0 s < 2 ^ 64 = omega (arith, r.1) in
    sym (decimal-digits_value own s r.0 some (λ z. grind (arith, nat_tests)) v) ∙ ap decimal r.1)
    (λ (d : shaped s ≡ false). never n malformed (sym e ∙ cond-false _ _ _ d))
    (cases_Bool (shaped s))

-- no numeral begins with a minus
no_minus : (n : ℕ) → n < 10 ^ 15 → eqb (get_or (decimal n) 0 0) 45 ≡ false
no_minus n h = ne_eqb _ _ (λ e. let big : n < 2 ^ 64 = omega arith in not_in_digits own (decimal n) 45 (digits_decimal own n big) (λ q. omega arith) 0 (decimal_nonempty n big) e)

pub decimal_signed : (z : ℤ) → FewDigits z → decimal_of (signed z) ≡ Ok z
decimal_signed (pos n) h = decimal_plain (decimal n) (no_minus n h) ∙ ap positive (natural_decimal n h)
decimal_signed (negsuc n) h = decimal_minus (45 ∷ decimal (suc n)) (eq-eqb 45 45 refl) ∙ ap negative (natural_decimal (suc n) h)

from_negative : (s : List ℕ) (r : Result ℕ Malformed) (z : ℤ) → natural_of s ≡ r → negative r ≡ Ok z → (45 ∷ s ≡ signed z) × FewDigits z
from_negative s (Err e) z q p = never z e (sym p)
from_negative s (Ok zero) z q p = never z malformed (sym p)
from_negative s (Ok (suc n)) z q p = let w : negsuc n ≡ z = cc in subst (λ x. (45 ∷ s ≡ signed x) × FewDigits x) w (ap (λ l. 45 ∷ l) (decimal_natural s (suc n) q), natural_lt s (suc n) q)

from_positive : (s : List ℕ) (r : Result ℕ Malformed) (z : ℤ) → natural_of s ≡ r → positive r ≡ Ok z → (s ≡ signed z) × FewDigits z
from_positive s (Err e) z q p = never z e (sym p)
from_positive s (Ok n) z q p = let w : pos n ≡ z = cc in subst (λ x. (s ≡ signed x) × FewDigits x) w (decimal_natural s n q, natural_lt s n q)

pub signed_decimal : (s : List ℕ) (z : ℤ) → decimal_of s ≡ Ok z → (s ≡ signed z) × FewDigits z
signed_decimal [] z e = from_positive [] (natural_of []) z refl (sym (decimal_plain [] refl) ∙ e)
signed_decimal (c ∷ cs) z e = ⊎_elim
    (λ (m : c ≡ 45). let r = from_negative cs (natural_of cs) z refl (sym (decimal_minus (c ∷ cs) (eq-eqb c 45 m)) ∙ e) in (ap (λ x. x ∷ cs) m ∙ r.0, r.1))
    (λ (m : c ≡ 45 → ⊥). from_positive (c ∷ cs) (natural_of (c ∷ cs)) z refl (sym (decimal_plain (c ∷ cs) (ne_eqb c 45 m)) ∙ e))
    (cases_eq c 45)

-- what a reading gives, said of the field
pub accepted : (s : List ℕ) (r : Result ℤ Malformed) → r ≡ decimal_of s → (z : ℤ) → FewDigits z → s ≡ signed z → r ≡ Ok z
accepted s r e z h q = e ∙ ap decimal_of q ∙ decimal_signed z h

pub only_canonical : (s : List ℕ) (r : Result ℤ Malformed) → r ≡ decimal_of s → (z : ℤ) → r ≡ Ok z → (s ≡ signed z) × FewDigits z
only_canonical s r e z q = signed_decimal s z (sym e ∙ q)
