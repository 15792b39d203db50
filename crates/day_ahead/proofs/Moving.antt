-- Another reference bus, with lambda lower by that bus's congestion, leaves the price.
use Rattle.std.proofs.Common.{◌≡◌, ℕ, zero, suc, ◌<◌, Bool, cond, not, ◌&&◌, eqb, List, get_or, ℤ, pos, ◌-ℤ◌, ◌*ℤ◌, Some, None, Ok, Err, Option, sym, refl, ap, ◌∙◌, ap₂, arith}
use lib.IntN.{zero-*ℤ}
use Rattle.std.proofs.lemmas.Int.{ints}
use Rattle.std.proofs.lemmas.Bool.{cond-false, ne_eqb}
use Rattle.bus_set.specs.Sets.{member}
use Rattle.numbers.specs.Rounding.{half_up}
use Rattle.numbers.proofs.Integers.{add_mul, mul_sub, sub_mul, mul_assoc}
use Rattle.numbers.proofs.Halves.{half_up_sub}
use Rattle.hour.specs.Hour.{entries, bus_at, no_bus, out_of}
use Rattle.hour.specs.Live.{is_live}
use Rattle.hour.specs.declared.records.Bus.{Bus}
use Rattle.hour.specs.declared.records.Constraint.{Constraint}
use Rattle.hour.specs.declared.records.Market.TheVariants.{DayAhead}
use Rattle.hour.specs.declared.book.Book.{Book}
use Rattle.posting.specs.Grids.{Grid, SmallIn}
use Rattle.posting.specs.Meanings.{reference_grid}
use Rattle.posting.proofs.ReferenceLaws.{difference_in}
use Rattle.weighting.specs.Sums.{sum_below}
use Rattle.weighting.specs.Views.{View, Alike}
use Rattle.weighting.specs.Meanings.{Meaning}
use Rattle.weighting.proofs.Weighed.{total_alike}
use Rattle.refusals.specs.declared.Refusal.TheVariants.{NoWeight}
use Rattle.weighted_sums.specs.Sums.{sum_z}
use Rattle.day_ahead.specs.Prices.{base_case, case_under, shadow_of, shadow_price, weighted_factors, congestion, contribution_at, contribution, price_over, price_at, day_ahead_price}
use Rattle.day_ahead.specs.Moves.{PostedMoved, times_price, bus_congestion, lowered, Moved}
use Rattle.weighted_sums.proofs.Sums.{sum_z_same, sum_z_sub}
use Rattle.day_ahead.proofs.Living.{at_alike}

-- each factor less q takes q times the total off the sum
sum_less : (w : ℕ → ℕ) (p : ℕ → ℤ) (q : ℤ) (n : ℕ) → sum_z (λ b. pos (w b) *ℤ (p b -ℤ q)) n ≡ sum_z (λ b. pos (w b) *ℤ p b) n -ℤ (pos (sum_below w n) *ℤ q)
unfolding sum_z sum_below
sum_less w p q zero = sym (ap (λ (x : ℤ). pos 0 -ℤ x) (zero-*ℤ q))
sum_less w p q (suc n) =
    omega (arith, ints, sum_less w p q n, mul_sub (pos (w n)) (p n) q, add_mul (pos (sum_below w n)) (pos (w n)) q)

less_less : (l z d : ℤ) → (l -ℤ d) -ℤ (z -ℤ d) ≡ l -ℤ z
less_less l z d = omega (arith, ints)

module _ (m : Meaning) (p : Grid) (r : ℕ) where
  abbrev layer : Grid
  layer = reference_grid p r

  relative : (k : ℕ) → SmallIn p k → (b : ℕ) → b < 256 → layer.at b k ≡ p.at b k -ℤ p.at r k
  relative k small b h = difference_in p k small r b h

  module _ (v : View) (k : ℕ) where
    factors_moved : SmallIn p k → weighted_factors m layer v k ≡ weighted_factors m p v k -ℤ (pos (m.total v) *ℤ p.at r k)
    factors_moved small =
        sum_z_same (λ b. pos (m.weight v b) *ℤ layer.at b k) (λ b. pos (m.weight v b) *ℤ (p.at b k -ℤ p.at r k)) 256 (λ b h. ap (λ (x : ℤ). pos (m.weight v b) *ℤ x) (relative k small b h))
        ∙ sum_less (m.weight v) (λ b. p.at b k) (p.at r k) 256
        ∙ ap (λ (n : ℕ). weighted_factors m p v k -ℤ (pos n *ℤ p.at r k)) (sym (m.total_is_the_sum v))

    congestion_moved : SmallIn p k → (s : ℤ) → 0 < m.total v → congestion m layer v k s ≡ congestion m p v k s -ℤ (p.at r k *ℤ s)
    congestion_moved small s some =
        let t = m.total v in
        let q = p.at r k in
        let n = weighted_factors m p v k in
        let z = ne_eqb t 0 (λ e. omega arith) in
        let e : weighted_factors m layer v k *ℤ s ≡ (n *ℤ s) -ℤ (pos t *ℤ (q *ℤ s)) =
        ap (λ (x : ℤ). x *ℤ s) (factors_moved small) ∙ sub_mul n (pos t *ℤ q) s ∙ ap (λ (x : ℤ). (n *ℤ s) -ℤ x) (mul_assoc (pos t) q s) in
        cond-false (eqb t 0) (pos 0) (half_up (weighted_factors m layer v k *ℤ s) t) z
        ∙ ap (λ (x : ℤ). half_up x t) e
        ∙ half_up_sub (n *ℤ s) (q *ℤ s) t some
        ∙ ap (λ (x : ℤ). x -ℤ (q *ℤ s)) (sym (cond-false (eqb t 0) (pos 0) (half_up (n *ℤ s) t) z))

    at_moved : (o : Option ℤ) → ((s : ℤ) × (o ≡ Some s) → 0 < m.total v) → ((s : ℤ) × (o ≡ Some s) → SmallIn p k) → contribution_at m layer v k o ≡ contribution_at m p v k o -ℤ times_price (p.at r k) o
    at_moved None some small = refl
    at_moved (Some s) some small = congestion_moved (small (s, refl)) s (some (s, refl))

  module _ (book other : Book) (posted : PostedMoved m p r book other) where
    abbrev moved : Moved m p r book other
    moved = posted.moved

    abbrev live_at : List Bus → ℕ → Bool
    live_at l b = is_live DayAhead (get_or l b no_bus)

    bus_same : (b : ℕ) → bus_at (entries other) b ≡ bus_at (entries book) b
    bus_same b = ap (λ (l : List Bus). get_or l b no_bus) moved.buses

    pub base_alike : Alike (base_case other) (base_case book)
    base_alike = record {
      live = λ b h. ap (λ (x : Bus). is_live DayAhead x) (bus_same b);
      hub_bus = λ b h _. ap (λ (x : Bus). x.hub_bus) (bus_same b);
      zone = λ b h _. ap (λ (x : Bus). x.zone) (bus_same b);
      load = λ b h _. ap (λ (x : Bus). x.day_ahead.load) (bus_same b);
    }

    under_alike : (k : ℕ) → Alike (case_under other k) (case_under book k)
    under_alike k = record {
      live = λ b h.
          ap₂ (λ (x : List Bus) (y : List (Option Constraint)). live_at x b && not (member (out_of (get_or y k None)) b)) moved.buses moved.constraints;
      hub_bus = λ b h _. ap (λ (x : Bus). x.hub_bus) (bus_same b);
      zone = λ b h _. ap (λ (x : Bus). x.zone) (bus_same b);
      load = λ b h _. ap (λ (x : Bus). x.day_ahead.load) (bus_same b);
    }

    contribution_moved : (k : ℕ) → k < 32 → contribution m layer other k ≡ contribution m p book k -ℤ times_price (p.at r k) (shadow_price book k)
    unfolding contribution
    contribution_moved k l =
        at_alike m layer layer (case_under other k) (case_under book k) k (shadow_price other k) (λ _. under_alike k) (λ _ b h _. refl)
        ∙ ap (λ (y : List (Option Constraint)). contribution_at m layer (case_under book k) k (shadow_of (get_or y k None))) moved.constraints
        ∙ at_moved (case_under book k) k (shadow_price book k) (moved.weight k l) (posted.small_factors k l)

    sum_moved : sum_z (contribution m layer other) 32 ≡ sum_z (contribution m p book) 32 -ℤ bus_congestion p r book
    sum_moved =
        sum_z_same (contribution m layer other) (λ k. contribution m p book k -ℤ times_price (p.at r k) (shadow_price book k)) 32 contribution_moved
        ∙ sum_z_sub (contribution m p book) (λ k. times_price (p.at r k) (shadow_price book k)) 32

    price_moved : (o : Option ℤ) → price_at m layer other (lowered o (bus_congestion p r book)) ≡ price_at m p book o
    price_moved None = refl
    price_moved (Some l) =
        ap (λ (t : ℕ). price_over t (l -ℤ bus_congestion p r book) (sum_z (contribution m layer other) 32)) (total_alike m (base_case other) (base_case book) base_alike)
        ∙ ap (price_over (m.total (base_case book)) (l -ℤ bus_congestion p r book)) sum_moved
        ∙ ap (λ (x : ℤ). cond (eqb (m.total (base_case book)) 0) (Err NoWeight) (Ok (half_up x 1000000))) (less_less l (sum_z (contribution m p book) 32) (bus_congestion p r book))

    pub price_stays : day_ahead_price m layer other ≡ day_ahead_price m p book
    price_stays = ap (price_at m layer other) moved.lambda ∙ price_moved (entries book).lambda
