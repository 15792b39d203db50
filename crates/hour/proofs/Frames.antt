-- What a call leaves alone: it leaves the hour as it is, or replaces the one entry that it names.
use Rattle.std.proofs.Common.{◌≡◌, ℕ, ◌-◌, not, ℤ, pos, Some, None, Option, sym, refl, ap, ◌∙◌}
use lib.Signed.{le_z}
use Rattle.std.proofs.lemmas.List.{get_or-set_other}
use Rattle.bounds.specs.Bounds.{up_to, within}
use Rattle.hour.specs.Limits.{last_bus, last_hub_bus, last_zone, most_load, last_constraint, most_shadow_price, most_lambda, last_run, most_adder, most_seconds}
use Rattle.hour.specs.Hour.{Hour, bus_at, with_bus, constraint_at, with_constraint, run_at, with_run, no_bus, with_lambda}
use Rattle.hour.specs.Steps.{is_full, other_seconds}
use Rattle.hour.specs.Replays.{after}
use Rattle.hour.specs.Laws.{bus_of, constraint_of, run_of, lambda_of}
use Rattle.hour.specs.declared.records.Bus.{Bus}
use Rattle.hour.specs.declared.records.Constraint.{Constraint}
use Rattle.hour.specs.declared.records.Run.{Run}
use Rattle.hour.specs.declared.calls.Call.{Call}
use Rattle.hour.specs.declared.calls.Call.TheVariants.{Place, Status, Load, Lambda, Post, Strike, Outage, EnterRun, DropRun}
use Rattle.hour.proofs.Outcomes.{given_left, refuse_left}
use Rattle.hour.proofs.Tables.{up_to_is}

named : (z : ℤ) (m i : ℕ) → up_to z m ≡ Some i → Some z ≡ Some (pos i)
named z m i is = ap Some (up_to_is z m i is)

-- what holds before a call, and wherever it replaces the entry that it names, holds after it
walk : (P : Hour → Type 0) (h : Hour) (call : Call) → P h
    → ((i : ℕ) (new : Bus) → bus_of call ≡ Some (pos i) → P (with_bus h i new))
    → ((i : ℕ) (new : Option Constraint) → constraint_of call ≡ Some (pos i) → P (with_constraint h i new))
    → ((i : ℕ) (new : Option Run) → run_of call ≡ Some (pos i) → P (with_run h i new))
    → ((z : ℤ) → lambda_of call ≡ Some z → P (with_lambda h z))
    → P (after h call)
walk P h (Place bus k z) same one c r l =
    given_left P (up_to bus last_bus) _ _ h same (λ i is. given_left P (up_to k last_hub_bus) _ _ h same (λ j _. given_left P (up_to z last_zone) _ _ h same (λ _ _.
    refuse_left P (is_full h i j) _ _ h same (one i _ (named bus last_bus i is)))))
walk P h (Status bus m v) same one c r l = given_left P (up_to bus last_bus) _ _ h same (λ i is. one i _ (named bus last_bus i is))
walk P h (Load bus m v) same one c r l =
    given_left P (up_to bus last_bus) _ _ h same (λ i is. given_left P (up_to v most_load) _ _ h same (λ _ _. one i _ (named bus last_bus i is)))
walk P h (Lambda z) same b c r one = refuse_left P (not (within z most_lambda)) _ _ h same (one z refl)
walk P h (Post k p) same b one r l =
    given_left P (up_to k last_constraint) _ _ h same (λ i is. refuse_left P (not (within p most_shadow_price)) _ _ h same (one i _ (named k last_constraint i is)))
walk P h (Strike k) same b one r l =
    given_left P (up_to k last_constraint) _ _ h same (λ i is. given_left P (constraint_at h i) _ _ h same (λ _ _. one i _ (named k last_constraint i is)))
walk P h (Outage k bus v) same b one r l =
    given_left P (up_to k last_constraint) _ _ h same (λ i is. given_left P (up_to bus last_bus) _ _ h same (λ _ _. given_left P (constraint_at h i) _ _ h same (λ _ _.
    one i _ (named k last_constraint i is))))
walk P h (EnterRun k s p q) same b c one l =
    given_left P (up_to k last_run) _ _ h same (λ i is. refuse_left P (le_z s (pos 0)) _ _ h same
    (refuse_left P (not (within p most_adder)) _ _ h same (refuse_left P (not (within q most_adder)) _ _ h same
    (given_left P (up_to s (most_seconds - other_seconds h i)) _ _ h same (λ _ _. one i _ (named k last_run i is))))))
walk P h (DropRun k) same b c one l =
    given_left P (up_to k last_run) _ _ h same (λ i is. given_left P (run_at h i) _ _ h same (λ _ _. one i _ (named k last_run i is)))

-- an entry that is not the one named
elsewhere : (o : Option ℤ) (i k : ℕ) → o ≡ Some (pos i) → (o ≡ Some (pos k) → ⊥) → k ≡ i → ⊥
elsewhere o i k is other same = other (is ∙ ap (λ (n : ℕ). Some (pos n)) (sym same))

pub other_buses_stay : (h : Hour) (call : Call) (b : ℕ) → (bus_of call ≡ Some (pos b) → ⊥) → bus_at (after h call) b ≡ bus_at h b
other_buses_stay h call b other =
    walk (λ x. bus_at x b ≡ bus_at h b) h call refl
    (λ i new is. get_or-set_other h.buses i b new no_bus (elsewhere (bus_of call) i b is other))
    (λ i new is. refl) (λ i new is. refl) (λ z is. refl)

pub other_constraints_stay : (h : Hour) (call : Call) (k : ℕ) → (constraint_of call ≡ Some (pos k) → ⊥) → constraint_at (after h call) k ≡ constraint_at h k
other_constraints_stay h call k other =
    walk (λ x. constraint_at x k ≡ constraint_at h k) h call refl (λ i new is. refl)
    (λ i new is. get_or-set_other h.constraints i k new None (elsewhere (constraint_of call) i k is other))
    (λ i new is. refl) (λ z is. refl)

pub other_runs_stay : (h : Hour) (call : Call) (k : ℕ) → (run_of call ≡ Some (pos k) → ⊥) → run_at (after h call) k ≡ run_at h k
other_runs_stay h call k other =
    walk (λ x. run_at x k ≡ run_at h k) h call refl (λ i new is. refl) (λ i new is. refl)
    (λ i new is. get_or-set_other h.runs i k new None (elsewhere (run_of call) i k is other))
    (λ z is. refl)

pub lambda_stays : (h : Hour) (call : Call) → lambda_of call ≡ None → (after h call).lambda ≡ h.lambda
lambda_stays h call none =
    walk (λ x. x.lambda ≡ h.lambda) h call refl (λ i new is. refl) (λ i new is. refl) (λ i new is. refl)
    (λ z is. let e : Some z ≡ None = sym is ∙ none in cc)
