-- The live facts decide the price.
use Rattle.std.proofs.Common.{◌≡◌, ℕ, ◌<◌, Bool, true, false, cond, not, ◌&&◌, eqb, ℤ, pos, ◌*ℤ◌, Some, None, Option, sym, refl, ap, ◌∙◌, ⊎_elim, arith}
use lib.IntN.{zero-*ℤ}
use Rattle.std.proofs.lemmas.Bool.{cases_Bool, cases_eq, and_left, and_parts}
use Rattle.numbers.specs.Rounding.{half_up}
use Rattle.hour.specs.Hour.{entries}
use Rattle.hour.specs.Live.{base_live, is_out}
use Rattle.hour.specs.declared.records.Market.TheVariants.{DayAhead}
use Rattle.hour.specs.declared.book.Book.{Book}
use Rattle.posting.specs.Grids.{Grid}
use Rattle.weighting.specs.Views.{View, Alike}
use Rattle.weighting.specs.Meanings.{Meaning}
use Rattle.weighting.proofs.Weighed.{total_alike}
use Rattle.weighted_sums.specs.Sums.{sum_z}
use Rattle.day_ahead.specs.Prices.{base_case, case_under, shadow_price, weighted_factors, congestion, contribution_at, contribution, price_over, price_at, day_ahead_price}
use Rattle.day_ahead.specs.Facts.{Posted, LiveFacts}
use Rattle.weighted_sums.proofs.Sums.{sum_z_same}
use Rattle.weighted_sums.proofs.Weighted.{weighted_same}

module _ (m : Meaning) where
  pub congestion_alike : (p q : Grid) (v u : View) (k : ℕ) (price : ℤ) → Alike v u → ((b : ℕ) → b < 256 → 0 < m.weight v b → p.at b k ≡ q.at b k) →
      congestion m p v k price ≡ congestion m q u k price
  congestion_alike p q v u k price like same =
      ap (λ (t : ℕ). cond (eqb t 0) (pos 0) (half_up (weighted_factors m p v k *ℤ price) t)) (total_alike m v u like)
      ∙ ap (λ (n : ℤ). cond (eqb (m.total u) 0) (pos 0) (half_up (n *ℤ price) (m.total u))) (weighted_same (m.weight v) (m.weight u) p q k (m.alike_weigh_the_same v u like) same)

  pub at_alike : (p q : Grid) (v u : View) (k : ℕ) (o : Option ℤ) → ((s : ℤ) × (o ≡ Some s) → Alike v u) → ((s : ℤ) × (o ≡ Some s) → (b : ℕ) → b < 256 → 0 < m.weight v b → p.at b k ≡ q.at b k) →
      contribution_at m p v k o ≡ contribution_at m q u k o
  at_alike p q v u k None like same = refl
  at_alike p q v u k (Some s) like same = congestion_alike p q v u k s (like (s, refl)) (same (s, refl))

  module _ (p q : Grid) (book other : Book) (facts : LiveFacts m p q book other) where
    pub base_alike : Alike (base_case book) (base_case other)
    base_alike = record { live = facts.live_buses; hub_bus = facts.hub_buses; zone = facts.zones; load = facts.loads }

    under_alike : (k : ℕ) → k < 32 → Posted book k → Alike (case_under book k) (case_under other k)
    under_alike k l posted =
        let base = base_live (entries book) DayAhead in
        let live : (b : ℕ) → (base b && not (is_out (entries book) k b)) ≡ true → base b ≡ true = λ b t. (and_parts (base b) (not (is_out (entries book) k b)) t).0 in
        record {
          live = λ b h.
              ⊎_elim
              (λ (t : base b ≡ true). ap (λ (x : Bool). base b && not x) (facts.marks k l posted b h t) ∙ ap (λ (x : Bool). x && not (is_out (entries other) k b)) (facts.live_buses b h))
              (λ (t : base b ≡ false). and_left (base b) (not (is_out (entries book) k b)) t ∙ sym (and_left (base_live (entries other) DayAhead b) (not (is_out (entries other) k b)) (sym (facts.live_buses b h) ∙ t)))
              (cases_Bool (base b));
          hub_bus = λ b h t. facts.hub_buses b h (live b t);
          zone = λ b h t. facts.zones b h (live b t);
          load = λ b h t. facts.loads b h (live b t);
        }

    contribution_alike : (k : ℕ) → k < 32 → contribution m p book k ≡ contribution m q other k
    unfolding contribution
    contribution_alike k l =
        at_alike p q (case_under book k) (case_under other k) k (shadow_price book k) (under_alike k l) (facts.factors_with_weight k l)
        ∙ ap (contribution_at m q (case_under other k) k) (facts.shadow_prices k l)

    pub decided : day_ahead_price m p book ≡ day_ahead_price m q other
    decided = by (entries book).lambda ∙ ap (price_at m q other) facts.system_lambda
      where
        by : (o : Option ℤ) → price_at m p book o ≡ price_at m q other o
        by None = refl
        by (Some l) =
            ap (λ (t : ℕ). price_over t l (sum_z (contribution m p book) 32)) (total_alike m (base_case book) (base_case other) base_alike)
            ∙ ap (price_over (m.total (base_case other)) l) (sum_z_same (contribution m p book) (contribution m q other) 32 contribution_alike)
