-- A weighting without base total is refused for what is looked at before the weight, or for its want of weight; one with base total never for that.
use Rattle.std.proofs.Common.{◌≡◌, ℕ, Bool, true, false, cond, eqb, ℤ, Some, None, Ok, Err, Option, Result, sym, refl, ap, ◌∙◌}
use Rattle.std.proofs.lemmas.Bool.{cond-true, cond-false, eq-eqb, ne_eqb}
use Rattle.hour.specs.Hour.{entries}
use Rattle.hour.specs.Sound.{total_seconds}
use Rattle.hour.specs.declared.book.Book.{Book}
use Rattle.posting.specs.Grids.{Grid}
use Rattle.weighting.specs.Meanings.{Meaning}
use Rattle.refusals.specs.declared.Refusal.{Refusal}
use Rattle.refusals.specs.declared.Refusal.TheVariants.{NoLambda, SecondsShort, NoWeight}
use Rattle.day_ahead.specs.Prices.{base_case, price_at, day_ahead_price}
use Rattle.real_time.specs.Weights.{base_view}
use Rattle.real_time.specs.Prices.{interval, price_in, real_time_price}
use Rattle.pricing.specs.Origins.{hub_price}

module _ (total : ℕ) (cents : ℤ) where
  abbrev weighed : Result ℤ Refusal
  weighed = cond (eqb total 0) (Err NoWeight) (Ok cents)

  none_refused : total ≡ 0 → weighed ≡ Err NoWeight
  none_refused none = cond-true (eqb total 0) (Err NoWeight) (Ok cents) (eq-eqb total 0 none)

  some_alone : (total ≡ 0 → ⊥) → (a b : Result ℤ Refusal) → hub_price weighed a ≡ hub_price weighed b
  some_alone some a b =
      let granted : weighed ≡ Ok cents = cond-false (eqb total 0) (Err NoWeight) (Ok cents) (ne_eqb total 0 some) in
      ap (λ (x : Result ℤ Refusal). hub_price x a) granted ∙ sym (ap (λ (x : Result ℤ Refusal). hub_price x b) granted)

-- the day-ahead refusal without base total, by the system lambda
abbrev pub without_weight : Option ℤ → Result ℤ Refusal
without_weight None = Err NoLambda
without_weight (Some lambda) = Err NoWeight

-- the real-time one, by whether the runs fill the interval
abbrev pub without_weight_in : Bool → Result ℤ Refusal
without_weight_in filled = cond filled (Err NoWeight) (Err SecondsShort)

module _ (m : Meaning) (p : Grid) (book : Book) where
  pub day_ahead_without : m.total (base_case book) ≡ 0 → day_ahead_price m p book ≡ without_weight (entries book).lambda
  day_ahead_without none = by (entries book).lambda
    where
      by : (o : Option ℤ) → price_at m p book o ≡ without_weight o
      by None = refl
      by (Some l) = none_refused (m.total (base_case book)) _ none

  pub day_ahead_alone : (m.total (base_case book) ≡ 0 → ⊥) → (a b : Result ℤ Refusal) → hub_price (day_ahead_price m p book) a ≡ hub_price (day_ahead_price m p book) b
  day_ahead_alone some a b = by (entries book).lambda
    where
      by : (o : Option ℤ) → hub_price (price_at m p book o) a ≡ hub_price (price_at m p book o) b
      by None = refl
      by (Some l) = some_alone (m.total (base_case book)) _ some a b

  pub real_time_without : m.total (base_view book) ≡ 0 → real_time_price m p book ≡ without_weight_in (eqb (total_seconds (entries book).runs) interval)
  real_time_without none =
      ap (λ (x : Result ℤ Refusal). cond (eqb (total_seconds (entries book).runs) interval) x (Err SecondsShort)) (none_refused (m.total (base_view book)) _ none)

  pub real_time_alone : (m.total (base_view book) ≡ 0 → ⊥) → (a b : Result ℤ Refusal) → hub_price (real_time_price m p book) a ≡ hub_price (real_time_price m p book) b
  real_time_alone some a b = by (eqb (total_seconds (entries book).runs) interval)
    where
      by : (t : Bool) → hub_price (cond t (price_in m p book) (Err SecondsShort)) a ≡ hub_price (cond t (price_in m p book) (Err SecondsShort)) b
      by true = some_alone (m.total (base_view book)) _ some a b
      by false = refl
