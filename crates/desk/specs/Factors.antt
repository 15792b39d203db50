-- What a factor makes of the table of posted numbers, or the refusal that it gets: its bus is looked at first, then its column, then its number.
use Rattle.std.specs.Prelude.{ℕ, ◌+◌, ◌*◌, Bool, true, false, not, List, replicate, ℤ, pos, Some, None, Ok, Err, Option, Result, slice_set}
use Rattle.refusals.specs.declared.Refusal.{Refusal}
use Rattle.refusals.specs.declared.Refusal.TheVariants.{BusOutside, ConstraintOutside, PostedOutside}
use Rattle.posting.specs.Limits.{buses, most_table_number}
use Rattle.bounds.specs.Bounds.{up_to, within}
use Rattle.hour.specs.Limits.{last_bus, last_constraint}
use Rattle.script.specs.declared.factors.Factor.{Factor}

abbrev pub Outcome : Type 0
Outcome = Result (List ℤ) Refusal

-- go on with the value, or refuse where there is none
abbrev pub given : {X : Type 0} → Option X → Refusal → (X → Outcome) → Outcome
given None e next = Err e
given (Some x) e next = next x

abbrev pub refuse_if : Bool → Refusal → Outcome → Outcome
refuse_if true e next = Err e
refuse_if false e next = next

-- where a bus and column stand
abbrev pub place : ℕ → ℕ → ℕ
place bus column = column * buses + bus

-- a table with no number posted yet
abbrev pub no_factors : List ℤ
no_factors = replicate 8192 (pos 0)

abbrev pub factored : List ℤ → Factor → Outcome
factored table f =
    given (up_to f.bus last_bus) BusOutside (λ b. given (up_to f.column last_constraint) ConstraintOutside (λ k.
    refuse_if (not (within f.number most_table_number)) PostedOutside (Ok (slice_set table (place b k) f.number))))

-- a refused factor changes nothing
abbrev pub table_after : Outcome → List ℤ → List ℤ
table_after (Ok new) old = new
table_after (Err e) old = old

abbrev pub answered : Outcome → Result (Unit {0}) Refusal
answered (Ok new) = Ok tt
answered (Err e) = Err e
