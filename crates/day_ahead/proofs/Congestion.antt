-- What a constraint contributes, from what the program finds of it.
use Rattle.std.proofs.Common.{◌≡◌, ℕ, eqb, ℤ, pos, ◌*ℤ◌, Some, None, Option, IfSome, MatchOption, true, sym, refl, ap, ◌∙◌, arith}
use Rattle.std.specs.Option.{unwrap_or}
use Rattle.std.proofs.lemmas.Bool.{and_parts, cond-true, cond-false, eq-eqb, ne_eqb}
use Rattle.numbers.specs.Rounding.{half_up, Nearest}
use Rattle.numbers.proofs.Halves.{nearest_some}
use Rattle.hour.specs.Hour.{entries, constraint_at}
use Rattle.hour.specs.declared.book.Book.{Book}
use Rattle.hour.specs.declared.records.Constraint.{Constraint}
use Rattle.posting.specs.Grids.{Grid, Within}
use Rattle.weighting.specs.Meanings.{Meaning, WeightsOf}
use Rattle.weighting.specs.declared.weights.Weights.{Weights}
use Rattle.weighted_sums.specs.Weighted.{weight_in, weighted_sum, most_weighted}
use Rattle.weighted_sums.proofs.Weighted.{weighted_same}
use Rattle.weighted_sums.proofs.Withins.{within_zero, within_mul, within_by, nearest_within}
use Rattle.bounds.specs.Bounds.{within}
use Rattle.bus_set.specs.Sets.{four_words}
use Rattle.hour.specs.Sound.{constraint_sound}
use Rattle.hour.specs.Limits.{most_shadow_price}
use Rattle.day_ahead.specs.Bounds.{most_contribution}
use Rattle.day_ahead.specs.Prices.{case_under, shadow_of, weighted_factors, congestion, contribution_at, contribution}

module _ (m : Meaning) (factors : Grid) (book : Book) (k : ℕ) where
  pub none_is : constraint_at (entries book) k ≡ None → pos 0 ≡ contribution m factors book k
  unfolding contribution
  none_is none = ap (λ (o : Option Constraint). contribution_at m factors (case_under book k) k (shadow_of o)) (sym none)

  module _ (c : Constraint) (posted : constraint_at (entries book) k ≡ Some c) (w : Weights) (weighed : WeightsOf m (case_under book k) w.weights) (total : w.total ≡ m.total (case_under book k)) where
    congestion_is : congestion m factors (case_under book k) k c.shadow_price ≡ contribution m factors book k
    unfolding contribution
    congestion_is = ap (λ (o : Option Constraint). contribution_at m factors (case_under book k) k (shadow_of o)) (sym posted)

    pub weightless_is : w.total ≡ 0 → pos 0 ≡ contribution m factors book k
    weightless_is none = sym (cond-true (eqb (m.total (case_under book k)) 0) (pos 0) _ (eq-eqb _ 0 (sym total ∙ none))) ∙ congestion_is

    rounded_is : (x q : ℤ) → x ≡ weighted_sum (weight_in w) factors k *ℤ c.shadow_price → q ≡ half_up x w.total → Nearest x w.total q → q ≡ contribution m factors book k
    rounded_is x q product rounded near =
        let v = case_under book k in
        rounded
        ∙ ap (λ (y : ℤ). half_up y w.total) (product ∙ ap (λ (y : ℤ). y *ℤ c.shadow_price) (weighted_same (weight_in w) (m.weight v) factors factors k weighed (λ _ _ _. refl)))
        ∙ ap (half_up (weighted_factors m factors v k *ℤ c.shadow_price)) total
        ∙ sym (cond-false (eqb (m.total v) 0) (pos 0) _ (ne_eqb (m.total v) 0 (λ e. let some = nearest_some x w.total q near in omega (arith, total))))
        ∙ congestion_is

    -- the product over the total, where there is weight
    pub divided_is : (x : ℤ) (r : Option ℤ) → x ≡ weighted_sum (weight_in w) factors k *ℤ c.shadow_price
        → MatchOption r (w.total ≡ 0) (λ q. q ≡ half_up x w.total) → MatchOption r (w.total ≡ 0) (Nearest x w.total)
        → MatchOption r (pos 0 ≡ contribution m factors book k) (λ q. q ≡ contribution m factors book k)
    divided_is x None product value near = weightless_is value
    divided_is x (Some q) product value near = rounded_is x q product value near

pub shadow_price_within : (c : Constraint) → constraint_sound c ≡ true → Within most_shadow_price c.shadow_price
shadow_price_within c h = within_by c.shadow_price most_shadow_price ((and_parts (within c.shadow_price most_shadow_price) (four_words c.out) h).0)

-- the weighted factors times a shadow price
pub product_within : (n s : ℤ) → Within most_weighted n → Within most_shadow_price s → Within 5120000000000000000 (n *ℤ s)
product_within n s = within_mul most_weighted most_shadow_price n s

pub divided_within : (w : Weights) (x : ℤ) (r : Option ℤ) → Within 5120000000000000000 x → MatchOption r (w.total ≡ 0) (Nearest x w.total) → IfSome r (Within most_contribution)
divided_within w x None small near = tt
divided_within w x (Some q) small near =
    nearest_within most_contribution 5120000000000000000 1 w.total x q (omega arith) (nearest_some x w.total q near) small (omega (arith, w.most)) near

-- the number that is added for it
pub or_zero : (n : ℤ) (r : Option ℤ) → MatchOption r (pos 0 ≡ n) (λ q. q ≡ n) → IfSome r (Within most_contribution) → (unwrap_or r (pos 0) ≡ n) × Within most_contribution (unwrap_or r (pos 0))
or_zero n None value bound = (value, within_zero most_contribution)
or_zero n (Some q) value bound = (value, bound)
