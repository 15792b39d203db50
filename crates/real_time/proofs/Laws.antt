-- Laws of real-time prices.
use Rattle.std.proofs.Common.{◌≡◌, ℕ, ◌*◌, ◌<◌, cond, eqb, ℤ, pos, ◌+ℤ◌, ◌*ℤ◌, ◌≤ℤ◌, Some, None, Ok, Err, Option, Result, MatchOption, sym, refl, ap, ◌∙◌, subst, ⊎_elim, ap₂, arith}
use Rattle.std.specs.Option.{ok_or}
use Rattle.std.specs.Int.{int_max}
use Rattle.std.proofs.lemmas.Int.{ints, clamps}
use Rattle.std.proofs.lemmas.List.{ext_get_or}
use Rattle.std.proofs.lemmas.Bool.{cases_eq, cond_both, cond-true, cond-false, eq-eqb, ne_eqb}
use Rattle.numbers.specs.Rounding.{half_up}
use Rattle.numbers.proofs.Halves.{half_up_nearest}
use Rattle.posting.specs.Grids.{Grid}
use Rattle.hour.specs.Hour.{entries, run_at}
use Rattle.hour.specs.Sound.{total_seconds}
use Rattle.hour.specs.declared.book.Book.{Book}
use Rattle.hour.specs.declared.records.Run.{Run}
use Rattle.weighting.specs.Meanings.{Meaning, WeightsOf}
use Rattle.weighting.specs.declared.weights.Weights.{Weights}
use Rattle.weighting.proofs.Weighed.{total_alike}
use Rattle.real_time.specs.Weights.{base_view}
use Rattle.weighted_sums.specs.Weighted.{weight_in}
use Rattle.weighted_sums.proofs.Weighted.{weighted_same}
use Rattle.real_time.specs.Prices.{interval, floor_price, run_part, hour_sum, cents_of, base_sum, price_in, real_time_price}
use Rattle.real_time.specs.Laws.{NearestAbove, NearestCent, SameFacts, SameFactsSamePrice}
use Rattle.refusals.specs.declared.Refusal.{Refusal}
use Rattle.refusals.specs.declared.Refusal.TheVariants.{SecondsShort, NoWeight}
use Rattle.weighted_sums.proofs.Sums.{sum_z_same}

not_below : (x : ℤ) → floor_price ≤ℤ int_max x floor_price
not_below x = omega (arith, ints, clamps)

pub cents_nearest : (sum : ℤ) (total : ℕ) → 0 < total → NearestAbove sum (interval * total) (cents_of sum total)
cents_nearest sum total some = record {
  cent = half_up sum (interval * total);
  nearest = half_up_nearest sum (interval * total) (omega arith);
  is = refl;
  not_below = not_below (half_up sum (interval * total));
}

module _ (w u : ℕ → ℕ) (same : (b : ℕ) → b < 256 → w b ≡ u b) (p q : Grid) where
  part_same : (t k : ℕ) (o : Option Run) → ((run : Run) → o ≡ Some run → (b : ℕ) → b < 256 → 0 < w b → p.at b k ≡ q.at b k) → run_part w p t k o ≡ run_part u q t k o
  part_same t k None h = refl
  part_same t k (Some run) h =
      ap (λ (x : ℤ). (x +ℤ (pos t *ℤ (run.reserve_adder +ℤ run.reliability_adder))) *ℤ pos run.seconds) (weighted_same w u p q k same (h run refl))

  -- the same weights, total and runs, and the same prices where a bus weighs in an entered run
  pub hour_same : (t s : ℕ) (f g : ℕ → Option Run) → t ≡ s → ((k : ℕ) → k < 16 → f k ≡ g k)
      → ((k : ℕ) → k < 16 → (run : Run) → f k ≡ Some run → (b : ℕ) → b < 256 → 0 < w b → p.at b k ≡ q.at b k) → hour_sum w p t f ≡ hour_sum u q s g
  hour_same t s f g e runs prices =
      sum_z_same (λ k. run_part w p t k (f k)) (λ k. run_part u q t k (g k)) 16 (λ k l. part_same t k (f k) (prices k l) ∙ ap (run_part u q t k) (runs k l))
      ∙ ap (λ (n : ℕ). hour_sum u q n g) e

abbrev pub priced : ℕ → ℕ → ℤ → Result ℤ Refusal
priced seconds total sum = cond (eqb seconds interval) (cond (eqb total 0) (Err NoWeight) (Ok (cents_of sum total))) (Err SecondsShort)

pub seconds_same : (m : Meaning) (p q : Grid) (a b : Book) → SameFacts m p q a b → total_seconds (entries a).runs ≡ total_seconds (entries b).runs
seconds_same m p q a b same = ap total_seconds (ext_get_or None a.runs b.runs (a.columns.1 ∙ sym b.columns.1) (λ k l. same.runs k (omega (arith, a.columns.1))))

pub same_facts : (m : Meaning) (p q : Grid) (a b : Book) → SameFacts m p q a b → real_time_price m p a ≡ real_time_price m q b
same_facts m p q a b same =
    let ta = m.total (base_view a) in
    let tb = m.total (base_view b) in
    let total : ta ≡ tb = total_alike m (base_view a) (base_view b) same.buses in
    let sums : base_sum m p a ≡ base_sum m q b =
    hour_same (m.weight (base_view a)) (m.weight (base_view b)) (m.alike_weigh_the_same (base_view a) (base_view b) same.buses) p q ta tb
    (run_at (entries a)) (run_at (entries b)) total same.runs same.prices in
    ap (λ (n : ℕ). priced n ta (base_sum m p a)) (seconds_same m p q a b same)
    ∙ ap (λ (t : ℕ). priced (total_seconds b.runs) t (base_sum m p a)) total
    ∙ ap (priced (total_seconds b.runs) tb) sums

-- what the program finds out about a book, and the price that it stands for
module _ (m : Meaning) (p : Grid) (book : Book) where
  pub unfilled : (total_seconds (entries book).runs ≡ interval → ⊥) → real_time_price m p book ≡ Err SecondsShort
  unfilled other = cond-false (eqb (total_seconds (entries book).runs) interval) _ _ (ne_eqb _ interval other)

  module _ (w : Weights) (weighs : WeightsOf m (base_view book) w.weights) (total : w.total ≡ m.total (base_view book))
      (sum : ℤ) (summed : sum ≡ hour_sum (weight_in w) p w.total (run_at (entries book))) (filled : total_seconds (entries book).runs ≡ interval) where
    sum_is : sum ≡ base_sum m p book
    sum_is =
        summed
        ∙ hour_same (weight_in w) (m.weight (base_view book)) weighs p p w.total (m.total (base_view book))
        (run_at (entries book)) (run_at (entries book)) total (λ k l. refl) (λ k l run e b low some. refl)

    filled_is : real_time_price m p book ≡ price_in m p book
    filled_is = cond-true (eqb (total_seconds (entries book).runs) interval) (price_in m p book) (Err SecondsShort) (eq-eqb _ interval filled)

    -- the cents, or the refusal of no weight
    pub priced_is : (r : Option ℤ) → MatchOption r (w.total ≡ 0) (λ price. (0 < w.total) × (price ≡ cents_of sum w.total)) → ok_or r NoWeight ≡ real_time_price m p book
    priced_is None none = sym (filled_is ∙ cond-true (eqb (m.total (base_view book)) 0) (Err NoWeight) _ (eq-eqb _ 0 (sym total ∙ none)))
    priced_is (Some price) found =
        ap Ok (found.1 ∙ ap₂ cents_of sum_is total)
        ∙ sym (filled_is ∙ cond-false (eqb (m.total (base_view book)) 0) (Err NoWeight) (Ok (cents_of (base_sum m p book) (m.total (base_view book)))) (ne_eqb _ 0 (λ z. omega (arith, total, found.0))))

  -- an answer that is the price shows both laws
  pub nearest_cent : (r : Result ℤ Refusal) → r ≡ real_time_price m p book → NearestCent m p book r
  nearest_cent r is = subst (NearestCent m p book) (sym is)
      (cond_both (eqb (total_seconds (entries book).runs) interval) (price_in m p book) (Err SecondsShort) (NearestCent m p book)
      (λ _. ⊎_elim
      (λ (none : m.total (base_view book) ≡ 0). subst (NearestCent m p book) (sym (cond-true (eqb (m.total (base_view book)) 0) (Err NoWeight) _ (eq-eqb _ 0 none))) tt)
      (λ (some : m.total (base_view book) ≡ 0 → ⊥).
      subst (NearestCent m p book) (sym (cond-false (eqb (m.total (base_view book)) 0) (Err NoWeight) (Ok (cents_of (base_sum m p book) (m.total (base_view book)))) (ne_eqb _ 0 some)))
      (cents_nearest (base_sum m p book) (m.total (base_view book)) (omega arith)))
      (cases_eq (m.total (base_view book)) 0))
      (λ _. tt))

  pub facts_decide : (r : Result ℤ Refusal) → r ≡ real_time_price m p book → SameFactsSamePrice m p book r
  facts_decide r is q b same = sym (same_facts m p q book b same) ∙ sym is
