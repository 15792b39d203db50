-- Laws of the calls, in the words of a desk that works an hour.
use Rattle.std.specs.Prelude.{◌≡◌, ℕ, ◌+◌, ◌<◌, Bool, true, false, cond, ◌&&◌, ℤ, pos, is_ok, Some, None, Err, Option, ◌==◌, ◌≢◌}
use Rattle.refusals.specs.declared.Refusal.{Refusal}
use Rattle.hour.specs.Sound.{total_seconds}
use Rattle.hour.specs.Hour.{Hour, entries, bus_at, constraint_at, run_at}
use Rattle.hour.specs.Steps.{other_seconds}
use Rattle.hour.specs.Replays.{step, after}
use Rattle.hour.specs.Live.{is_out}
use Rattle.hour.specs.declared.book.Book.{Book}
use Rattle.hour.specs.declared.calls.Call.{Call}
use Rattle.hour.specs.declared.calls.Call.TheVariants.{Place, Status, Load, Lambda, Post, Strike, Outage, EnterRun, DropRun}

abbrev pub Granted : Hour → Call → Type 0
Granted h call = is_ok (step h call) ≡ true

-- the bus whose record a call is to change
abbrev pub bus_of : Call → Option ℤ
bus_of (Place bus hub_bus zone) = Some bus
bus_of (Status bus market live) = Some bus
bus_of (Load bus market load) = Some bus
bus_of (Lambda lambda) = None
bus_of (Post constraint price) = None
bus_of (Strike constraint) = None
bus_of (Outage constraint bus out) = None
bus_of (EnterRun run seconds reserve reliability) = None
bus_of (DropRun run) = None

-- the constraint that a call is to change
abbrev pub constraint_of : Call → Option ℤ
constraint_of (Place bus hub_bus zone) = None
constraint_of (Status bus market live) = None
constraint_of (Load bus market load) = None
constraint_of (Lambda lambda) = None
constraint_of (Post constraint price) = Some constraint
constraint_of (Strike constraint) = Some constraint
constraint_of (Outage constraint bus out) = Some constraint
constraint_of (EnterRun run seconds reserve reliability) = None
constraint_of (DropRun run) = None

-- the run that a call is to change
abbrev pub run_of : Call → Option ℤ
run_of (Place bus hub_bus zone) = None
run_of (Status bus market live) = None
run_of (Load bus market load) = None
run_of (Lambda lambda) = None
run_of (Post constraint price) = None
run_of (Strike constraint) = None
run_of (Outage constraint bus out) = None
run_of (EnterRun run seconds reserve reliability) = Some run
run_of (DropRun run) = Some run

-- the lambda that a call is to set
abbrev pub lambda_of : Call → Option ℤ
lambda_of (Place bus hub_bus zone) = None
lambda_of (Status bus market live) = None
lambda_of (Load bus market load) = None
lambda_of (Lambda lambda) = Some lambda
lambda_of (Post constraint price) = None
lambda_of (Strike constraint) = None
lambda_of (Outage constraint bus out) = None
lambda_of (EnterRun run seconds reserve reliability) = None
lambda_of (DropRun run) = None

pub record Laws : Type 0 where
  -- a refused call changes nothing
  pub refused_is_no_step : (h : Hour) (call : Call) (e : Refusal) → step h call ≡ Err e → after h call ≡ h
  -- a call, granted or refused, changes no bus, constraint or run but the one that it names, and lambda only if it is about lambda
  pub other_buses_stay : (h : Hour) (call : Call) (b : ℕ) → (bus_of call ≢ Some (pos b)) → bus_at (after h call) b ≡ bus_at h b
  pub other_constraints_stay : (h : Hour) (call : Call) (k : ℕ) → (constraint_of call ≢ Some (pos k)) → constraint_at (after h call) k ≡ constraint_at h k
  pub other_runs_stay : (h : Hour) (call : Call) (k : ℕ) → (run_of call ≢ Some (pos k)) → run_at (after h call) k ≡ run_at h k
  pub lambda_stays : (h : Hour) (call : Call) → lambda_of call ≡ None → (after h call).lambda ≡ h.lambda
  -- two places of different buses, granted in either order, make the same hour in either order
  pub places_commute : (h : Hour) (b₁ k₁ z₁ b₂ k₂ z₂ : ℤ) → (b₁ ≢ b₂)
      → Granted h (Place b₁ k₁ z₁) → Granted (after h (Place b₁ k₁ z₁)) (Place b₂ k₂ z₂)
      → Granted h (Place b₂ k₂ z₂) → Granted (after h (Place b₂ k₂ z₂)) (Place b₁ k₁ z₁)
      → after (after h (Place b₁ k₁ z₁)) (Place b₂ k₂ z₂) ≡ after (after h (Place b₂ k₂ z₂)) (Place b₁ k₁ z₁)
  -- posting keeps every outage mark, of the posted constraint and of all others
  pub posting_keeps_marks : (h : Hour) (constraint price : ℤ) (k b : ℕ) → is_out (after h (Post constraint price)) k b ≡ is_out h k b
  -- a constraint that is struck and posted again has no outage mark
  pub struck_then_posted_is_unmarked : (h : Hour) (k : ℕ) (price : ℤ) (b : ℕ) → b < 256
      → Granted h (Strike (pos k)) → is_out (after (after h (Strike (pos k))) (Post (pos k) price)) k b ≡ false
  -- a granted outage sets or clears one mark and leaves all others
  pub outage_sets_one_mark : (book : Book) (k b : ℕ) (on : Bool) → Granted (entries book) (Outage (pos k) (pos b) on)
      → (k' b' : ℕ) → b' < 256 → is_out (after (entries book) (Outage (pos k) (pos b) on)) k' b' ≡ cond (k' == k && b' == b) on (is_out (entries book) k' b')
  -- a granted run counts beside the other runs, and not beside the one that it replaces
  pub run_replaces_its_seconds : (book : Book) (k s : ℕ) (reserve reliability : ℤ) → Granted (entries book) (EnterRun (pos k) (pos s) reserve reliability)
      → total_seconds (after (entries book) (EnterRun (pos k) (pos s) reserve reliability)).runs ≡ other_seconds (entries book) k + s
