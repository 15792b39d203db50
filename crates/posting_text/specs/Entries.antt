-- The entry that a posting line's numbers make: bus 0 to 255, column 0 to 31, and a value within 1,000,000 of 0.
use Rattle.std.specs.Prelude.{ℕ, cond, ℤ, pos, negsuc, Ok, Err, Result, nat_lt}
use Rattle.refusals.specs.declared.Refusal.{Refusal}
use Rattle.refusals.specs.declared.Refusal.TheVariants.{BusOutside, ConstraintOutside, PostedOutside}
use Rattle.faults.specs.declared.Spot.{Spot}
use Rattle.faults.specs.declared.Why.TheVariants.{Value}
use Rattle.faults.specs.Faults.{spot}
use Rattle.posting.specs.Limits.{buses, columns}
use Rattle.posting.specs.Tables.{counts}
use Rattle.posting_text.specs.declared.entries.Numbers.{Numbers}
use Rattle.posting_text.specs.declared.entries.Entry.{Entry}

-- a number from 0 up, below the count
abbrev pub index_below : ℕ → Refusal → ℤ → Result ℕ Refusal
index_below count refusal (pos n) = cond (nat_lt n count) (Ok n) (Err refusal)
index_below count refusal (negsuc n) = Err refusal

-- a number that a table may have
abbrev pub postable : ℤ → Result ℤ Refusal
postable z = cond (counts z) (Ok z) (Err PostedOutside)

-- the value in a field, and what comes of it
abbrev pub needs : {X Y : Type 0} → ℕ → Result X Refusal → (X → Result Y Spot) → Result Y Spot
needs field (Ok x) k = k x
needs field (Err e) k = Err (spot (Value e) field)

abbrev pub entry_of : Numbers → Result Entry Spot
entry_of n =
    needs 2 (index_below buses BusOutside n.bus) (λ bus.
    needs 3 (index_below columns ConstraintOutside n.column) (λ column.
    needs 4 (postable n.value) (λ number.
    Ok (record { bus = bus; column = column; number = number }))))
