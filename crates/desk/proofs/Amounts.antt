-- A price is told by its text.
use Rattle.std.proofs.Common.{◌≡◌, ℕ, suc, ◌+◌, ◌/◌, ◌%◌, ◌^◌, ◌<◌, List, [], ◌∷◌, ◌++◌, length, ℤ, pos, negsuc, decimal, sym, refl, ap, ◌∙◌, arith, w64, SFits}
use Rattle.std.proofs.lemmas.Fmt.{decimal_digit, decimal_injective}
use Rattle.std.proofs.lemmas.List.{length-append}
use Rattle.desk.specs.PriceTexts.{dollars}
use Rattle.desk.specs.PriceLaws.{Tells}

pub record Ends (a b : List ℕ) (x y v w : ℕ) : Type 0 where
  pub front : a ≡ b
  pub first : x ≡ v
  pub second : y ≡ w

-- texts that end with a point and two characters
ends : (a b : List ℕ) (x y v w : ℕ) → a ++ (46 ∷ x ∷ y ∷ []) ≡ b ++ (46 ∷ v ∷ w ∷ []) → Ends a b x y v w
ends [] [] x y v w e = record { front = refl; first = cc; second = cc }
ends [] (d ∷ b) x y v w e = absurd (omega (arith, simp length-append at (ap length e)))
ends (c ∷ a) [] x y v w e = absurd (omega (arith, simp length-append at (ap length e)))
ends (c ∷ a) (d ∷ b) x y v w e =
    let head : c ≡ d = cc in
    let tail : a ++ (46 ∷ x ∷ y ∷ []) ≡ b ++ (46 ∷ v ∷ w ∷ []) = cc in
    let rest = ends a b x y v w tail in
    record { front = (λ i. head i ∷ rest.front i); first = rest.first; second = rest.second }

spelt : (n : ℕ) → dollars n ≡ 36 ∷ (decimal (n / 100) ++ (46 ∷ (48 + n % 100 / 10) ∷ (48 + n % 10) ∷ []))
spelt n =
    let tens : n % 100 / 10 < 10 = omega arith in
    let ones : n % 10 < 10 = omega arith in
    ap (λ (d : List ℕ). 36 ∷ (decimal (n / 100) ++ (46 ∷ (d ++ decimal (n % 10))))) (decimal_digit (n % 100 / 10) tens)
    ∙ ap (λ (d : List ℕ). 36 ∷ (decimal (n / 100) ++ (46 ∷ (48 + n % 100 / 10) ∷ d))) (decimal_digit (n % 10) ones)

dollars_tell : (m n : ℕ) → m < 2 ^ 64 → n < 2 ^ 64 → dollars m ≡ dollars n → m ≡ n
dollars_tell m n k l e =
    let whole : 36 ∷ (decimal (m / 100) ++ (46 ∷ (48 + m % 100 / 10) ∷ (48 + m % 10) ∷ []))
    ≡ 36 ∷ (decimal (n / 100) ++ (46 ∷ (48 + n % 100 / 10) ∷ (48 + n % 10) ∷ [])) = sym (spelt m) ∙ e ∙ spelt n in
    let parts : decimal (m / 100) ++ (46 ∷ (48 + m % 100 / 10) ∷ (48 + m % 10) ∷ [])
    ≡ decimal (n / 100) ++ (46 ∷ (48 + n % 100 / 10) ∷ (48 + n % 10) ∷ []) = cc in
    let told = ends (decimal (m / 100)) (decimal (n / 100)) (48 + m % 100 / 10) (48 + m % 10) (48 + n % 100 / 10) (48 + n % 10) parts in
    let same : m / 100 ≡ n / 100 = decimal_injective (m / 100) (n / 100) (omega arith) (omega arith) told.front in
    omega arith

pub tells : (cents : ℤ) → SFits w64 cents → Tells cents
tells (pos a) f (pos b) g e = ap pos (dollars_tell b a (omega (arith, g.sfits)) (omega (arith, f.sfits)) e)
tells (pos a) f (negsuc b) g e = let z : ◌≡◌ {A = ℕ} 45 36 = cc in absurd (omega arith)
tells (negsuc a) f (pos b) g e = let z : ◌≡◌ {A = ℕ} 36 45 = cc in absurd (omega arith)
tells (negsuc a) f (negsuc b) g e =
    let rest : dollars (suc b) ≡ dollars (suc a) = cc in
    let same : suc b ≡ suc a = dollars_tell (suc b) (suc a) (omega (arith, g.sfits)) (omega (arith, f.sfits)) rest in
    ap negsuc (omega arith)
