-- Sums over the places of a list.
use Rattle.std.proofs.Common.{◌≡◌, ℕ, zero, suc, ◌+◌, ◌≤◌, List, length, get_or, take, sum, sym, refl, ap, ◌∙◌, add-one, arith}
use Rattle.std.proofs.lemmas.List.{take_all}
use Rattle.std.proofs.lemmas.List.Sums.{sum_by_more}
use Rattle.weighting.specs.Sums.{sum_below}
use Rattle.weighting.specs.SumLaws.{sum_same}
use Rattle.weighting.specs.Views.{View}
use Rattle.weighting.specs.Meanings.{Meaning, WeightsOf}

sum_take : (xs : List ℕ) (n : ℕ) → n ≤ length xs → sum_below (λ i. get_or xs i 0) n ≡ sum (take n xs)
unfolding sum_below
sum_take xs zero l = refl
sum_take xs (suc n) l =
    let m = sum_by_more (λ x. x) xs n 0 (omega arith) in
    ap (λ (x : ℕ). x + get_or xs n 0) (sum_take xs n (omega arith)) ∙ sym m ∙ ap (λ (k : ℕ). sum (take k xs)) (add-one n)

pub sum_list : (xs : List ℕ) (n : ℕ) → length xs ≡ n → sum_below (λ i. get_or xs i 0) n ≡ sum xs
sum_list xs n e = sum_take xs n (omega arith) ∙ ap sum (take_all n xs (omega arith))

-- the weights add up to the total
pub sum_weights : (m : Meaning) (v : View) (xs : List ℕ) → length xs ≡ 256 → WeightsOf m v xs → sum xs ≡ m.total v
sum_weights m v xs e is = sym (m.total_is_the_sum v ∙ sum_same (m.weight v) (λ i. get_or xs i 0) 256 (λ b low. sym (is b low)) ∙ sum_list xs 256 e)
