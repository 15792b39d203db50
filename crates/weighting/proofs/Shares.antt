-- The weights of a hub in the words of the desk.
use Rattle.std.proofs.Common.{◌≡◌, ℕ, ◌*◌, ◌/◌, ◌<◌, ◌≤◌, Bool, true, cond, ◌&&◌, eqb, ltb, List, [], get_or, sym, refl, ap, ◌∙◌, ⊎_elim}
use Rattle.std.proofs.lemmas.Bool.{cases_eq, and_from, cond-true, cond-false, eq-eqb, ne_eqb, lt-ltb}
use Rattle.bus_set.specs.Sets.{member, SetOf, count_below}
use Rattle.bus_set.proofs.Counts.{count_same, count_some}
use Rattle.weighting.specs.SumLaws.{sum_same}
use Rattle.weighting.specs.Views.{View}
use Rattle.weighting.specs.Hubs.{unit, of_hub, live_of, hub_weight}
use Rattle.weighting.specs.HubLaws.{of_hub_range, few_live, divides, part, elsewhere, column, hub_sum}
use Rattle.weighting.specs.Shares.{HubShares}
use Rattle.weighting.specs.declared.hubs.Hub.{Hub}

-- the live buses among the members of a hub bus are its live buses
pub live_members : (v : View) (rows : List (List ℕ)) (i k n : ℕ) (both : List ℕ) → i ≡ k → SetOf (λ b. eqb (v.hub_bus b) k) (get_or rows k [])
    → SetOf (λ b. v.live b && member (get_or rows i []) b) both → n ≡ count_below (member both) 256 → n ≡ live_of v k
live_members v rows i k n both at is joined counted =
    counted ∙ count_same (member both) (λ b. v.live b && eqb (v.hub_bus b) k) 256
    (λ b l. joined b l ∙ ap (λ (j : ℕ). v.live b && member (get_or rows j []) b) at ∙ ap (λ (t : Bool). v.live b && t) (is b l))

-- a live bus is one of its hub bus
pub some_live : (v : View) (b k : ℕ) → b < 256 → v.live b ≡ true → v.hub_bus b ≡ k → 0 < live_of v k
some_live v b k low live of = count_some (λ i. v.live i && eqb (v.hub_bus i) k) 256 b low (and_from (v.live b) (eqb (v.hub_bus b) k) live (eq-eqb (v.hub_bus b) k of))

-- what bus b of the hub bus k weighs
of_column : (hub : Hub) (v : View) (k b : ℕ) → of_hub hub k ≡ true → cond (eqb (v.hub_bus b) k) (hub_weight hub v b) 0 ≡ part hub v b k
of_column hub v k b of =
    let x = unit / live_of v k in
    ⊎_elim
    (λ (same : v.hub_bus b ≡ k).
    let yes' : eqb (v.hub_bus b) k ≡ true = eq-eqb (v.hub_bus b) k same in
    cond-true (eqb (v.hub_bus b) k) (hub_weight hub v b) 0 yes'
    ∙ ap (λ (n : ℕ). cond (v.live b && of_hub hub n) (unit / live_of v n) 0) same
    ∙ ap (λ (t : Bool). cond (v.live b && t) x 0) (of ∙ sym yes')
    ∙ sym (cond-true (of_hub hub k) (cond (v.live b && eqb (v.hub_bus b) k) x 0) 0 of))
    (λ (other : v.hub_bus b ≡ k → ⊥).
    cond-false (eqb (v.hub_bus b) k) (hub_weight hub v b) 0 (ne_eqb (v.hub_bus b) k other) ∙ sym (elsewhere hub v b k (λ e. other (sym e))))
    (cases_eq (v.hub_bus b) k)

pub hub_shares : (hub : Hub) (v : View) (r : List ℕ) → ((b : ℕ) → b < 256 → get_or r b 0 ≡ hub_weight hub v b) → HubShares hub v r
hub_shares hub v r is = record {
  shares_evenly = λ b low live of.
      let k = v.hub_bus b in
      let n = live_of v k in
      let some : 1 ≤ n = some_live v b k low live refl in
      ap (λ (x : ℕ). x * n) (is b low ∙ cond-true (v.live b && of_hub hub k) (unit / n) 0 (and_from (v.live b) (of_hub hub k) live of))
      ∙ divides n some (few_live v k (of_hub_range hub k of).0);
  others_nothing = λ b low no'. is b low ∙ cond-false (v.live b && of_hub hub (v.hub_bus b)) (unit / live_of v (v.hub_bus b)) 0 no';
  each_hub_bus = λ k of some.
      sum_same (λ b. cond (eqb (v.hub_bus b) k) (get_or r b 0) 0) (λ b. part hub v b k) 256
      (λ b low. ap (λ (x : ℕ). cond (eqb (v.hub_bus b) k) x 0) (is b low) ∙ of_column hub v k b of)
      ∙ column hub v k
      ∙ cond-true (of_hub hub k && ltb 0 (live_of v k)) unit 0 (and_from (of_hub hub k) (ltb 0 (live_of v k)) of (lt-ltb 0 (live_of v k) some));
  all = sum_same (λ b. get_or r b 0) (hub_weight hub v) 256 is ∙ sym (hub_sum hub v);
}
