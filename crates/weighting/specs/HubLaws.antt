-- The hub weighting has the four laws: its weights make 840 for each hub bus with a live bus.
use Rattle.std.specs.Prelude.{◌≡◌, ℕ, zero, suc, ◌*◌, ◌/◌, ◌<◌, ◌≤◌, Bool, true, false, cond, ◌&&◌, ◌==◌, ◌≢◌, nat_eq, nat_le, nat_lt, refl}
use Rattle.std.proofs.Common.{sym, ap, ap₂, ◌∙◌, ⊎_elim, arith, mul_comm, zero-mul}
use Rattle.std.proofs.lemmas.Bool.{and_right, cases_Bool, cases_eq, cond-true, cond-false, and_parts, leb-true, eq-eqb, ne_eqb, lt-ltb}
use Rattle.bus_set.specs.Sets.{count_below}
use Rattle.bus_set.proofs.Counts.{count_same, count_le}
use Rattle.weighting.specs.Sums.{sum_below}
use Rattle.weighting.specs.SumLaws.{sum_same, sum_zeros, sum_pick, sum_swap, sum_times}
use Rattle.weighting.specs.Views.{View, Alike}
use Rattle.weighting.specs.Meanings.{Meaning}
use Rattle.weighting.specs.Hubs.{unit, first_of, last_of, of_hub, live_of, hub_weight, live_hub_buses, hub_total}
use Rattle.weighting.specs.declared.hubs.Hub.{Hub}
use Rattle.weighting.specs.declared.hubs.Hub.TheVariants.{North, South, Houston, West, Panhandle, Average}

first_low : (hub : Hub) → 0 < first_of hub
first_low North = omega arith
first_low South = omega arith
first_low Houston = omega arith
first_low West = omega arith
first_low Panhandle = omega arith
first_low Average = omega arith

last_most : (hub : Hub) → last_of hub < 156
last_most North = omega arith
last_most South = omega arith
last_most Houston = omega arith
last_most West = omega arith
last_most Panhandle = omega arith
last_most Average = omega arith

pub of_hub_range : (hub : Hub) (k : ℕ) → of_hub hub k ≡ true → (0 < k) × (k < 156)
of_hub_range hub k of =
    let p = and_parts (nat_le (first_of hub) k) (nat_le k (last_of hub)) of in
    let above = leb-true (first_of hub) k p.0 in
    let below = leb-true k (last_of hub) p.1 in
    (omega (arith, first_low hub), omega (arith, last_most hub))

cond_zero : (t : Bool) (x : ℕ) → x ≡ 0 → cond t x 0 ≡ 0
cond_zero true x e = e
cond_zero false x e = refl

pub count_most : (p : ℕ → Bool) (n : ℕ) → count_below p n ≤ n
unfolding count_below
count_most p zero = omega arith
count_most p (suc n) = omega (arith, count_most p n, one (p n))
  where
    one : (t : Bool) → cond t 1 0 ≤ 1
    one true = omega arith
    one false = omega arith

-- at most eight live buses to a hub bus
pub few_live : (v : View) (k : ℕ) → 0 < k → live_of v k ≤ 8
few_live v k p =
    omega (arith, v.few k p, count_le (λ b. v.live b && v.hub_bus b == k) (λ b. nat_eq (v.hub_bus b) k) 256 (λ b l e. (and_parts (v.live b) (v.hub_bus b == k) e).1))

-- 1 to 8 divide 840
pub divides : (n : ℕ) → 1 ≤ n → n ≤ 8 → unit / n * n ≡ unit
divides zero p q = absurd (omega arith)
divides (suc zero) p q = refl
divides (suc (suc zero)) p q = refl
divides (suc (suc (suc zero))) p q = refl
divides (suc (suc (suc (suc zero)))) p q = refl
divides (suc (suc (suc (suc (suc zero))))) p q = refl
divides (suc (suc (suc (suc (suc (suc zero)))))) p q = refl
divides (suc (suc (suc (suc (suc (suc (suc zero))))))) p q = refl
divides (suc (suc (suc (suc (suc (suc (suc (suc zero)))))))) p q = refl
divides (suc (suc (suc (suc (suc (suc (suc (suc (suc n))))))))) p q = absurd (omega arith)

whole : (n : ℕ) → n ≤ 8 → n * (unit / n) ≡ cond (nat_lt 0 n) unit 0
whole zero l = zero-mul (unit / 0)
whole (suc n) l = mul_comm (suc n) (unit / suc n) ∙ divides (suc n) (omega arith) l ∙ sym (cond-true (nat_lt 0 (suc n)) unit 0 (lt-ltb 0 (suc n) (omega arith)))

module _ (hub : Hub) (v : View) where
  -- what bus b weighs as a bus of the hub bus k
  abbrev pub part : ℕ → ℕ → ℕ
  part b k = cond (of_hub hub k) (cond (v.live b && v.hub_bus b == k) (unit / live_of v k) 0) 0

  pub elsewhere : (b k : ℕ) → (k ≢ v.hub_bus b) → part b k ≡ 0
  elsewhere b k other =
      cond_zero (of_hub hub k) _
      (cond-false (v.live b && v.hub_bus b == k) (unit / live_of v k) 0 (and_right (v.live b) (v.hub_bus b == k) (ne_eqb (v.hub_bus b) k (λ e. other (sym e)))))

  by_parts : (b : ℕ) → hub_weight hub v b ≡ sum_below (part b) 156
  by_parts b =
      let k = v.hub_bus b in
      let n = unit / live_of v k in
      ⊎_elim
      (λ (of : of_hub hub k ≡ true).
      let here : part b k ≡ hub_weight hub v b =
      cond-true (of_hub hub k) (cond (v.live b && k == k) n 0) 0 of
      ∙ ap (λ (t : Bool). cond (v.live b && t) n 0) (eq-eqb k k refl ∙ sym of)
      in
      sym (sum_pick (part b) k 156 (of_hub_range hub k of).1 (λ j l other. elsewhere b j other) ∙ here))
      (λ (no' : of_hub hub k ≡ false).
      cond-false (v.live b && of_hub hub k) n 0 (and_right (v.live b) (of_hub hub k) no')
      ∙ sym (sum_zeros (part b) 156 (λ j l. ⊎_elim
      (λ (same : j ≡ k). cond-false (of_hub hub j) _ 0 (ap (of_hub hub) same ∙ no'))
      (λ (other : j ≡ k → ⊥). elsewhere b j other)
      (cases_eq j k))))
      (cases_Bool (of_hub hub k))

  -- what the buses of the hub bus k weigh together
  pub column : (k : ℕ) → sum_below (λ b. part b k) 256 ≡ cond (of_hub hub k && nat_lt 0 (live_of v k)) unit 0
  column k = ⊎_elim
      (λ (of : of_hub hub k ≡ true).
      sum_same (λ b. part b k) (λ b. cond (v.live b && v.hub_bus b == k) (unit / live_of v k) 0) 256
      (λ b l. cond-true (of_hub hub k) (cond (v.live b && v.hub_bus b == k) (unit / live_of v k) 0) 0 of)
      ∙ sum_times (λ b. v.live b && v.hub_bus b == k) (unit / live_of v k) 256
      ∙ whole (live_of v k) (few_live v k (of_hub_range hub k of).0)
      ∙ ap (λ (t : Bool). cond (t && nat_lt 0 (live_of v k)) unit 0) (sym of))
      (λ (no' : of_hub hub k ≡ false).
      sum_zeros (λ b. part b k) 256 (λ b l. cond-false (of_hub hub k) (cond (v.live b && v.hub_bus b == k) (unit / live_of v k) 0) 0 no')
      ∙ ap (λ (t : Bool). cond (t && nat_lt 0 (live_of v k)) unit 0) (sym no'))
      (cases_Bool (of_hub hub k))

  pub hub_sum : hub_total hub v ≡ sum_below (hub_weight hub v) 256
  hub_sum =
      sym (sum_same (hub_weight hub v) (λ b. sum_below (part b) 156) 256 (λ b l. by_parts b)
      ∙ sum_swap part 156 256
      ∙ sum_same (λ k. sum_below (λ b. part b k) 256) (λ k. cond (of_hub hub k && nat_lt 0 (live_of v k)) unit 0) 156 (λ k l. column k)
      ∙ sum_times (λ k. of_hub hub k && nat_lt 0 (live_of v k)) unit 156
      ∙ mul_comm (live_hub_buses hub v) unit)

-- alike views have the same live buses in each hub bus
live_alike : (v u : View) → Alike v u → (k : ℕ) → live_of v k ≡ live_of u k
live_alike v u like k = count_same (λ b. v.live b && v.hub_bus b == k) (λ b. u.live b && u.hub_bus b == k) 256 (λ b low. ⊎_elim
    (λ (live : v.live b ≡ true). ap₂ (λ (t : Bool) (h : ℕ). t && h == k) (like.live b low) (like.hub_bus b low live))
    (λ (dead : v.live b ≡ false).
    ap (λ (t : Bool). t && v.hub_bus b == k) dead ∙ ap (λ (t : Bool). t && u.hub_bus b == k) (sym dead ∙ like.live b low))
    (cases_Bool (v.live b)))

pub hub_alike : (hub : Hub) (v u : View) → Alike v u → (b : ℕ) → b < 256 → hub_weight hub v b ≡ hub_weight hub u b
hub_alike hub v u like b low = ⊎_elim
    (λ (live : v.live b ≡ true).
    ap (λ (k : ℕ). cond (v.live b && of_hub hub k) (unit / live_of v k) 0) (like.hub_bus b low live)
    ∙ ap₂ (λ (t : Bool) (n : ℕ). cond (t && of_hub hub (u.hub_bus b)) (unit / n) 0) (like.live b low) (live_alike v u like (u.hub_bus b)))
    (λ (dead : v.live b ≡ false).
    cond-false (v.live b && of_hub hub (v.hub_bus b)) (unit / live_of v (v.hub_bus b)) 0 (ap (λ (t : Bool). t && of_hub hub (v.hub_bus b)) dead)
    ∙ sym (cond-false (u.live b && of_hub hub (u.hub_bus b)) (unit / live_of u (u.hub_bus b)) 0 (ap (λ (t : Bool). t && of_hub hub (u.hub_bus b)) (sym (like.live b low) ∙ dead))))
    (cases_Bool (v.live b))

abbrev pub hub_meaning : Hub → Meaning
hub_meaning hub = record {
  weight = hub_weight hub;
  total = hub_total hub;
  dead_weighs_nothing = λ v b low dead. cond-false (v.live b && of_hub hub (v.hub_bus b)) (unit / live_of v (v.hub_bus b)) 0 (ap (λ (t : Bool). t && of_hub hub (v.hub_bus b)) dead);
  total_is_the_sum = hub_sum hub;
  total_is_bounded = λ v. omega (arith, count_most (λ k. of_hub hub k && nat_lt 0 (live_of v k)) 156);
  alike_weigh_the_same = hub_alike hub;
}
