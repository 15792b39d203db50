-- Digits and the number that they write.
use Rattle.std.proofs.Common.{◌≡◌, ℕ, zero, suc, ◌+◌, ◌-◌, ◌*◌, ◌^◌, ◌<◌, ◌≤◌, true, false, eqb, List, [], ◌∷◌, length, get_or, take, drop, ℤ, pos, negsuc, ◌+ℤ◌, Ok, Err, Result, sym, refl, ap, ◌∙◌, subst, ⊎_elim, add-zero, pow-suc, add-one, arith, lit<, IfOk, MatchResult}
use lib.Pointwise.{pointwise}
use Rattle.std.proofs.Math.Bool.{and-true}
use native.Mathlib.Nat.{pow-le-pow_right}
use Rattle.std.proofs.lemmas.Int.{ints, to_z_pos}
use Rattle.std.specs.Char.{is_ascii_digit}
use Rattle.std.specs.Int.{w64, cast_signed}
use Rattle.std.proofs.lemmas.Bool.{cond-true, cond-false, cases_Bool}
use Rattle.std.proofs.lemmas.Bool.Decides.{nat_tests}
use Rattle.std.proofs.lemmas.List.{at_drop_more}
use Rattle.faults.specs.declared.Malformed.{Malformed}
use Rattle.faults.specs.Faults.{malformed}
use Rattle.decimals.specs.Decimals.{digits_on, shaped, natural_of, negative, positive, decimal_of}

pub natural_shaped : (s : List ℕ) → shaped s ≡ true → natural_of s ≡ digits_on 0 s
unfolding natural_of
natural_shaped s e = cond-true _ _ _ e

pub natural_other : (s : List ℕ) → shaped s ≡ false → natural_of s ≡ Err malformed
unfolding natural_of
natural_other s e = cond-false _ _ _ e

pub shaped_le : (s : List ℕ) → shaped s ≡ true → length s ≤ 15
shaped_le s e = grind (arith, nat_tests)

pub pow10_more : (i : ℕ) → 10 ^ (i + 1) ≡ 10 ^ i * 10
pow10_more i = rw (add-one, pow-suc)

pub pow10_le : (i : ℕ) → i ≤ 15 → 10 ^ i ≤ 10 ^ 15
pow10_le i h = pow-le-pow_right (lit< tt) h

pub digit_lt : (c : ℕ) → is_ascii_digit c ≡ true → c - 48 < 10
digit_lt c e = grind (arith, nat_tests)

-- one digit more
pub digits_more : (n : ℕ) (s : List ℕ) (i : ℕ) → i < length s → is_ascii_digit (get_or s i 0) ≡ true → digits_on n (drop i s) ≡ digits_on (n * 10 + (get_or s i 0 - 48)) (drop (i + 1) s)
digits_more n s i h d = at_drop_more (digits_on n) s i 0 h ∙ cond-true _ _ _ d

pub digits_stop : (n : ℕ) (s : List ℕ) (i : ℕ) → i < length s → is_ascii_digit (get_or s i 0) ≡ false → digits_on n (drop i s) ≡ Err malformed
digits_stop n s i h d = at_drop_more (digits_on n) s i 0 h ∙ cond-false _ _ _ d

-- what is read is small
digits_lt : (n k : ℕ) (ds : List ℕ) (m : ℕ) → n < 10 ^ k → digits_on n ds ≡ Ok m → m < 10 ^ (k + length ds)
digits_lt n k [] m h e = let q : n ≡ m = cc in rw add-zero (omega arith)
digits_lt n k (c ∷ cs) m h e =
    ⊎_elim
    (λ (d : is_ascii_digit c ≡ true).
    let low : n * 10 + (c - 48) < 10 ^ suc k = rw pow-suc (grind (arith, nat_tests)) in
    let r = digits_lt (n * 10 + (c - 48)) (suc k) cs m low (sym (cond-true _ _ _ d) ∙ e) in
    let q : suc k + length cs ≡ k + suc (length cs) = omega arith in
    subst (λ x. m < 10 ^ x) q r)
    (λ (d : is_ascii_digit c ≡ false). let z : ◌≡◌ {A = Result ℕ Malformed} (Err malformed) (Ok m) = sym (cond-false _ _ _ d) ∙ e in let w : ◌≡◌ {A = ℕ} 0 1 = cc in absurd (omega arith))
    (cases_Bool (is_ascii_digit c))

pub natural_lt : (s : List ℕ) (n : ℕ) → natural_of s ≡ Ok n → n < 10 ^ 15
unfolding natural_of
natural_lt s n e =
    ⊎_elim
    (λ (d : shaped s ≡ true).
    let r = digits_lt 0 0 s n (lit< tt) (sym (cond-true _ _ _ d) ∙ e) in
    let k : 0 + length s ≤ 15 = grind (arith, nat_tests) in
    omega (arith, r, pow10_le (0 + length s) k))
    (λ (d : shaped s ≡ false). let z : ◌≡◌ {A = Result ℕ Malformed} (Err malformed) (Ok n) = sym (cond-false _ _ _ d) ∙ e in let w : ◌≡◌ {A = ℕ} 0 1 = cc in absurd (omega arith))
    (cases_Bool (shaped s))

pub decimal_minus : (s : List ℕ) → eqb (get_or s 0 0) 45 ≡ true → decimal_of s ≡ negative (natural_of (drop 1 s))
unfolding decimal_of
decimal_minus s e = cond-true _ _ _ e

pub decimal_plain : (s : List ℕ) → eqb (get_or s 0 0) 45 ≡ false → decimal_of s ≡ positive (natural_of s)
unfolding decimal_of
decimal_plain s e = cond-false _ _ _ e

pub negative_some : (r : Result ℕ Malformed) (n : ℕ) (z : ℤ) → Ok n ≡ r → (n ≡ 0 → ⊥) → z +ℤ pos n ≡ pos 0 → Ok z ≡ negative r
negative_some r zero z q f e = absurd (f refl)
negative_some r (suc n) z q f e = let w : z ≡ negsuc n = omega (arith, ints) in ap Ok w ∙ ap negative q

-- as a signed number
pub signed_pos : (n : ℕ) → n < 10 ^ 15 → cast_signed w64 n ≡ pos n
signed_pos n h = to_z_pos w64 n (omega arith)

-- a number that was read as it stands
pub positive_map : (r : Result ℕ Malformed) (t : Result ℤ Malformed) → IfOk r (λ n. n < 10 ^ 15) → MatchResult r (λ n. t ≡ Ok (cast_signed w64 n)) (λ e. t ≡ Err e) → t ≡ positive r
positive_map (Ok n) t h e = e ∙ ap Ok (signed_pos n h)
positive_map (Err d) t h e = e

-- whether a field begins with a minus
pub minus_test : (s : List ℕ) → pointwise eqb (take 1 s) (45 ∷ []) ≡ eqb (get_or s 0 0) 45
minus_test [] = refl
minus_test (c ∷ cs) = and-true (eqb c 45)
