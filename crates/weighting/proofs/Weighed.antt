-- What a point's buses weigh in a case that someone asks about.
use Rattle.std.proofs.Common.{◌≡◌, ℕ, ℤ, Ok, Err, Option, Result, sym, ◌∙◌}
use Rattle.refusals.specs.declared.Refusal.{Refusal}
use Rattle.refusals.specs.declared.Refusal.TheVariants.{PointOutside}
use Rattle.hour.specs.Hour.{entries}
use Rattle.hour.specs.declared.book.Book.{Book}
use Rattle.weighting.specs.SumLaws.{sum_same}
use Rattle.weighting.specs.Views.{View, Alike, view}
use Rattle.weighting.specs.Meanings.{Meaning}
use Rattle.weighting.specs.Weights.{Weighs}
use Rattle.weighting.specs.SettlementPoints.{point_name, point_meaning}
use Rattle.weighting.specs.Weighed.{case_of, CasedIn, WeighedIn, WeighedAt}
use Rattle.weighting.proofs.SettlementPoints.{of_named}
use Rattle.weighting.specs.declared.points.Point.{Point}
use Rattle.weighting.specs.declared.points.SettlementPoint.{SettlementPoint}
use Rattle.weighting.specs.declared.cases.Case.{Case}
use Rattle.weighting.specs.declared.weights.Weights.{Weights}

-- alike views have the same total
pub total_alike : (m : Meaning) (v u : View) → Alike v u → m.total v ≡ m.total u
total_alike m v u like = m.total_is_the_sum v ∙ sum_same (m.weight v) (m.weight u) 256 (m.alike_weigh_the_same v u like) ∙ sym (m.total_is_the_sum u)

weighed_in : (m : Meaning) (book : Book) (o : Result (Option ℕ) Refusal) (c : Case) (w : Weights) → CasedIn book o (Ok c) → Weighs m (view c) w → WeighedIn m book o (Ok w)
weighed_in m book (Ok k) c w cased weighs = (weighs.weights _ cased.alike, weighs.total _ cased.alike)
weighed_in m book (Err d) c w cased weighs = absurd cased

pub weighed_at : (book : Book) (p : Point) (s : SettlementPoint) (constraint : Option ℤ) (c : Case) (w : Weights) → p ≡ point_name s
    → CasedIn book (case_of (entries book) constraint) (Ok c) → Weighs (point_meaning s) (view c) w → WeighedAt book p constraint (Ok w)
weighed_at book p s constraint c w is cased weighs =
    let o = case_of (entries book) constraint in
    of_named (λ t. WeighedIn (point_meaning t) book o (Ok w)) (Ok w ≡ Err PointOutside) p s is (weighed_in (point_meaning s) book o c w cased weighs)
