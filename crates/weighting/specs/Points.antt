-- A point by its number.
use Rattle.std.specs.Prelude.{◌≡◌, ℕ, ℤ, pos, Ok, Err, Result, ◌≢◌}
use Rattle.refusals.specs.Numbers.{number}
use Rattle.refusals.specs.declared.Refusal.{Refusal}
use Rattle.refusals.specs.declared.Refusal.TheVariants.{PointOutside}

-- the point that has the number, or the refusal for a point where none has it
abbrev pub PointOf : {T : Type 0} → (T → ℕ) → ℤ → Result T Refusal → Type 0
PointOf number_of z (Ok p) = z ≡ pos (number_of p)
PointOf {T} number_of z (Err e) = ((p : T) → z ≢ pos (number_of p)) × (e ≡ PointOutside) × (number e ≡ 22)
