-- Numbers as fields: no separator stands in one.
use Rattle.std.proofs.Common.{◌≡◌, ℕ, suc, ◌^◌, ◌<◌, List, [], ◌∷◌, ℤ, pos, negsuc, decimal, arith}
use Rattle.std.specs.Fmt.{signed_decimal as signed}
use Rattle.std.specs.List.{AllByRecursion as All}
use Rattle.std.proofs.lemmas.Str.Parse.{not_in_digits}
use Rattle.std.proofs.lemmas.Fmt.{digits_decimal}
use Rattle.std.proofs.ByRecursion.{All-from_get_or, All-append}
use Rattle.decimals.specs.Canonical.{FewDigits}
use Rattle.decimals.proofs.Signs.{own}
use Rattle.cuts.specs.Cuts.{join}
use Rattle.cuts.specs.Fields.{comma}
use Rattle.cuts.proofs.Cutting.{Plain}

-- no byte below the minus stands in a number
decimal_plain : (sep n : ℕ) → sep < 48 → n < 10 ^ 15 → Plain sep (decimal n)
decimal_plain sep n s h =
    let big : n < 2 ^ 64 = omega arith in
    All-from_get_or (λ b. b ≡ sep → ⊥) (decimal n) 0 (λ i l e. not_in_digits own (decimal n) sep (digits_decimal own n big) (λ q. omega arith) i l e)

pub signed_plain : (sep : ℕ) (z : ℤ) → sep < 45 → FewDigits z → Plain sep (signed z)
signed_plain sep (pos n) s h = decimal_plain sep n (omega arith) h
signed_plain sep (negsuc n) s h = ((λ e. omega arith), decimal_plain sep (suc n) (omega arith) h)

-- commas bring in no separator below them
pub join_plain : (sep : ℕ) (ps : List (List ℕ)) → sep < comma → All (Plain sep) ps → Plain sep (join comma ps)
join_plain sep [] s h = tt
join_plain sep (p ∷ []) s h = h.0
join_plain sep (p ∷ q ∷ qs) s h = All-append (λ b. b ≡ sep → ⊥) p (comma ∷ join comma (q ∷ qs)) h.0 ((λ e. omega arith), join_plain sep (q ∷ qs) s h.1)
