-- What a point's buses weigh in a case that someone asks about, and when the question is refused.
use Rattle.std.specs.Prelude.{◌≡◌, ℕ, Bool, ℤ, Some, None, Ok, Err, Option, Result}
use Rattle.refusals.specs.declared.Refusal.{Refusal}
use Rattle.refusals.specs.declared.Refusal.TheVariants.{ConstraintOutside, NotPosted, PointOutside}
use Rattle.bounds.specs.Bounds.{up_to}
use Rattle.hour.specs.Limits.{last_constraint}
use Rattle.hour.specs.Hour.{Hour, entries, constraint_at}
use Rattle.hour.specs.Live.{base_live, live_under}
use Rattle.hour.specs.declared.records.Constraint.{Constraint}
use Rattle.hour.specs.declared.records.Market.TheVariants.{DayAhead}
use Rattle.hour.specs.declared.book.Book.{Book}
use Rattle.weighting.specs.Views.{CaseOf, view_of}
use Rattle.weighting.specs.declared.cases.Case.{Case}
use Rattle.weighting.specs.Meanings.{Meaning, WeightsOf}
use Rattle.weighting.specs.SettlementPoints.{point_meaning, OfPoint}
use Rattle.weighting.specs.declared.points.Point.{Point}
use Rattle.weighting.specs.declared.weights.Weights.{Weights}

abbrev pub when_posted : ℕ → Option Constraint → Result (Option ℕ) Refusal
when_posted k None = Err NotPosted
when_posted k (Some c) = Ok (Some k)

abbrev pub numbered : Hour → Option ℕ → Result (Option ℕ) Refusal
numbered h None = Err ConstraintOutside
numbered h (Some k) = when_posted k (constraint_at h k)

-- the base case where no constraint is named, else the case under a posted constraint
abbrev pub case_of : Hour → Option ℤ → Result (Option ℕ) Refusal
case_of h None = Ok None
case_of h (Some z) = numbered h (up_to z last_constraint)

-- the live buses of a day-ahead case
abbrev pub live_in : Hour → Option ℕ → ℕ → Bool
live_in h None = base_live h DayAhead
live_in h (Some k) = live_under h k

-- the case that is asked about, or its refusal
abbrev pub CasedIn : Book → Result (Option ℕ) Refusal → Result Case Refusal → Type 0
CasedIn book (Ok k) (Ok c) = CaseOf book DayAhead (live_in (entries book) k) c
CasedIn book (Ok k) (Err e) = ⊥
CasedIn book (Err d) (Ok c) = ⊥
CasedIn book (Err d) (Err e) = e ≡ d

-- the weights of a weighting in a case, or the case's refusal
abbrev pub WeighedIn : Meaning → Book → Result (Option ℕ) Refusal → Result Weights Refusal → Type 0
WeighedIn m book (Ok k) (Ok w) =
    WeightsOf m (view_of book DayAhead (live_in (entries book) k)) w.weights × (w.total ≡ m.total (view_of book DayAhead (live_in (entries book) k)))
WeighedIn m book (Ok k) (Err e) = ⊥
WeighedIn m book (Err d) (Ok w) = ⊥
WeighedIn m book (Err d) (Err e) = e ≡ d

-- of the point that has the kind and number; where none has them, the question is refused
abbrev pub WeighedAt : Book → Point → Option ℤ → Result Weights Refusal → Type 0
WeighedAt book p c r = OfPoint (λ s. WeighedIn (point_meaning s) book (case_of (entries book) c) r) (r ≡ Err PointOutside) p
