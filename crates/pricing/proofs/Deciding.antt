-- The live facts of the weighting that a point's price takes decide it, and another reference bus leaves it.
use Rattle.std.proofs.Common.{◌≡◌, ℕ, eqb, ℤ, Some, None, Option, sym, refl, ap, ◌∙◌}
use Rattle.hour.specs.Hour.{entries}
use Rattle.hour.specs.declared.book.Book.{Book}
use Rattle.posting.specs.Grids.{Grid}
use Rattle.posting.specs.Meanings.{reference_grid}
use Rattle.weighting.specs.Meanings.{Meaning}
use Rattle.weighting.proofs.Weighed.{total_alike}
use Rattle.day_ahead.specs.Prices.{base_case, day_ahead_price}
use Rattle.day_ahead.specs.Facts.{LiveFacts}
use Rattle.day_ahead.specs.Moves.{bus_congestion, lowered, PostedMoved}
use Rattle.day_ahead.proofs.Living.{decided, base_alike as facts-alike}
use Rattle.day_ahead.proofs.Moving.{price_stays, base_alike as moved-alike}
use Rattle.real_time.specs.Weights.{base_view}
use Rattle.real_time.specs.Prices.{interval, real_time_price}
use Rattle.real_time.specs.Laws.{SameFacts}
use Rattle.real_time.proofs.Laws.{same_facts, seconds_same}
use Rattle.pricing.proofs.Standing.{Stands}
use Rattle.pricing.proofs.Weightless.{without_weight, without_weight_in, day_ahead_without, day_ahead_alone, real_time_without, real_time_alone}

-- refused alike where totals are the same and lambdas set alike
module _ (p q : Grid) (book other : Book) (totals : (n : Meaning) → n.total (base_case book) ≡ n.total (base_case other)) (lambdas : without_weight (entries book).lambda ≡ without_weight (entries other).lambda) where
  day_ahead_refused : (n : Meaning) → n.total (base_case book) ≡ 0 → day_ahead_price n p book ≡ day_ahead_price n q other
  day_ahead_refused n none =
      day_ahead_without n p book none
      ∙ lambdas
      ∙ sym (day_ahead_without n q other (sym (totals n) ∙ none))

pub live_facts_decide : (p q : Grid) (book other : Book) → Stands (λ m. day_ahead_price m p book) (λ m. day_ahead_price m q other) (base_case book) (λ m. LiveFacts m p q book other)
live_facts_decide p q book other = record {
  priced_the_same = λ m facts. decided m p q book other facts;
  refused_alike = λ m facts.
      day_ahead_refused p q book other (λ n. total_alike n (base_case book) (base_case other) (facts-alike m p q book other facts)) (ap without_weight facts.system_lambda);
  alone = λ m. day_ahead_alone m p book;
}

lowered_without : (o : Option ℤ) (by : ℤ) → without_weight o ≡ without_weight (lowered o by)
lowered_without None by = refl
lowered_without (Some l) by = refl

pub reference_stays : (p : Grid) (r : ℕ) (book other : Book)
    → Stands (λ m. day_ahead_price m p book) (λ m. day_ahead_price m (reference_grid p r) other) (base_case book) (λ m. PostedMoved m p r book other)
reference_stays p r book other = record {
  priced_the_same = λ m moved. sym (price_stays m p r book other moved);
  refused_alike = λ m moved.
      day_ahead_refused p (reference_grid p r) book other (λ n. sym (total_alike n (base_case other) (base_case book) (moved-alike m p r book other moved)))
      (lowered_without (entries book).lambda (bus_congestion p r book) ∙ ap without_weight (sym moved.moved.lambda));
  alone = λ m. day_ahead_alone m p book;
}

pub same_facts_decide : (p q : Grid) (book other : Book) → Stands (λ m. real_time_price m p book) (λ m. real_time_price m q other) (base_view book) (λ m. SameFacts m p q book other)
same_facts_decide p q book other = record {
  priced_the_same = λ m same. same_facts m p q book other same;
  refused_alike = λ m same n none.
      real_time_without n p book none
      ∙ ap (λ (s : ℕ). without_weight_in (eqb s interval)) (seconds_same m p q book other same)
      ∙ sym (real_time_without n q other (sym (total_alike n (base_view book) (base_view other) same.buses) ∙ none));
  alone = λ m. real_time_alone m p book;
}
