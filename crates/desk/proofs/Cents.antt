-- Cents with two digits.
use Rattle.std.proofs.Common.{◌≡◌, ℕ, ◌+◌, ◌/◌, ◌%◌, ◌^◌, ◌<◌, ◌≤◌, ◌-◌, false, [], ◌∷◌, ◌++◌, decimal, ⊎_elim, ap, ◌∙◌, arith}
use Rattle.std.specs.Fmt.{padded_integral, format_spec, char_count}
use Rattle.std.proofs.lemmas.Bool.{cases_lt}
use Rattle.std.proofs.lemmas.Fmt.{decimal_digit, decimal_step}

-- what `{:02}` writes of the cents beside whole dollars
pub two_digits : (n : ℕ) → padded_integral (format_spec 32 0 4 2 (2 ^ 64 - 1)) false [] (decimal (n % 100)) ≡ decimal (n % 100 / 10) ++ decimal (n % 10)
unfolding padded_integral char_count
two_digits n =
    let ones : decimal (n % 10) ≡ (48 + n % 10) ∷ [] = decimal_digit (n % 10) (omega arith) in
    let tens : decimal (n % 100 / 10) ≡ (48 + n % 100 / 10) ∷ [] = decimal_digit (n % 100 / 10) (omega arith) in
    let last : n % 100 % 10 ≡ n % 10 = omega arith in
    ⊎_elim
    (λ (one : n % 100 < 10).
    let high : n % 100 / 10 ≡ 0 = omega arith in
    let all : decimal (n % 100) ≡ (48 + n % 10) ∷ [] = ap decimal (omega arith) ∙ ones in
    rw (all, tens, high, ones))
    (λ (two : 10 ≤ n % 100).
    let all : decimal (n % 100) ≡ decimal (n % 100 / 10) ++ ((48 + n % 100 % 10) ∷ []) = decimal_step (n % 100) two (omega arith) in
    rw (all, tens, last, ones))
    (cases_lt (n % 100) 10)
