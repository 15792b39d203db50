-- Outcomes of calls, check by check.
use Rattle.std.proofs.Common.{◌≡◌, Bool, true, false, is_ok, Some, None, Option, refl, ap}
use Rattle.std.proofs.lemmas.Bool.{both_ways}
use Rattle.refusals.specs.declared.Refusal.{Refusal}
use Rattle.hour.specs.Hour.{Hour}
use Rattle.hour.specs.Steps.{Outcome, given, refuse_if}
use Rattle.hour.specs.Replays.{left}

-- what holds of the hour before, and of the hour after the checks that are left, holds after the call
pub given_left : {A : Type 0} (P : Hour → Type 0) (o : Option A) (e : Refusal) (next : A → Outcome) (h : Hour) → P h → ((x : A) → o ≡ Some x → P (left (next x) h)) → P (left (given o e next) h)
given_left P None e next h before rest = before
given_left P (Some x) e next h before rest = rest x refl

pub refuse_left : (P : Hour → Type 0) (b : Bool) (e : Refusal) (next : Outcome) (h : Hour) → P h → P (left next h) → P (left (refuse_if b e next) h)
refuse_left P true e next h before rest = before
refuse_left P false e next h before rest = rest

-- what holds after the checks that are left holds after a granted call
pub granted_left : {A : Type 0} (P : Hour → Type 0) (o : Option A) (e : Refusal) (next : A → Outcome) (h : Hour)
    → is_ok (given o e next) ≡ true → ((x : A) → o ≡ Some x → is_ok (next x) ≡ true → P (left (next x) h)) → P (left (given o e next) h)
granted_left P None e next h ok rest = absurd (both_ways false refl ok)
granted_left P (Some x) e next h ok rest = rest x refl ok

pub unrefused_left : (P : Hour → Type 0) (b : Bool) (e : Refusal) (next : Outcome) (h : Hour) → is_ok (refuse_if b e next) ≡ true → (is_ok next ≡ true → P (left next h)) → P (left (refuse_if b e next) h)
unrefused_left P true e next h ok rest = absurd (both_ways false refl ok)
unrefused_left P false e next h ok rest = rest ok

pub refuse_ok : (b : Bool) (e : Refusal) (next : Outcome) → is_ok (refuse_if b e next) ≡ true → (b ≡ false) × (is_ok next ≡ true)
refuse_ok true e next ok = absurd (both_ways false refl ok)
refuse_ok false e next ok = (refl, ok)

pub refuse_is : (b : Bool) (e : Refusal) (next : Outcome) → b ≡ false → refuse_if b e next ≡ next
refuse_is b e next no' = ap (λ (x : Bool). refuse_if x e next) no'
