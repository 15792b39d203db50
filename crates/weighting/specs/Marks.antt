-- Outage marks and weights, for every weighting.
use Rattle.std.specs.Prelude.{◌≡◌, ℕ, ◌<◌, Bool, false, pos, ◌≢◌}
use Rattle.hour.specs.Hour.{entries}
use Rattle.hour.specs.Replays.{after}
use Rattle.hour.specs.Laws.{Granted}
use Rattle.hour.specs.Live.{base_live, live_under}
use Rattle.hour.specs.declared.records.Market.TheVariants.{DayAhead}
use Rattle.hour.specs.declared.calls.Call.TheVariants.{Outage}
use Rattle.hour.specs.declared.book.Book.{Book}
use Rattle.weighting.specs.Views.{view_of}
use Rattle.weighting.specs.Meanings.{Meaning}

-- what a bus weighs under the constraint k
abbrev pub weight_under : Meaning → Book → ℕ → ℕ → ℕ
weight_under m book k b = m.weight (view_of book DayAhead (live_under (entries book) k)) b

pub record MarkLaws (m : Meaning) : Type 0 where
  -- a mark set or cleared under one constraint changes no weight under another
  pub other_constraints_keep_weights : (before behind : Book) (k b : ℕ) (on : Bool) → entries behind ≡ after (entries before) (Outage (pos k) (pos b) on)
      → (k' b' : ℕ) → (k' ≢ k) → b' < 256 → weight_under m behind k' b' ≡ weight_under m before k' b'
  -- a mark of a bus that is dead in the base case changes no weight at all
  pub dead_marks_change_nothing : (before behind : Book) (k b : ℕ) (on : Bool) → entries behind ≡ after (entries before) (Outage (pos k) (pos b) on)
      → Granted (entries before) (Outage (pos k) (pos b) on) → base_live (entries before) DayAhead b ≡ false
      → (k' b' : ℕ) → b' < 256 → weight_under m behind k' b' ≡ weight_under m before k' b'
