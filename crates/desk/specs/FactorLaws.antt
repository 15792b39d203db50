-- What a posting over the table reads after a factor.
use Rattle.std.specs.Prelude.{◌≡◌, ℕ, List, ℤ, pos, Ok, Err, Result, ◌≢◌}
use Rattle.refusals.specs.declared.Refusal.{Refusal}
use Rattle.posting.specs.Meanings.{table_grid}
use Rattle.script.specs.declared.factors.Factor.{Factor}

-- its own bus and column read its number, and every other reads what it did
pub record OnlyThere (before after : List ℤ) (f : Factor) : Type 0 where
  pub here : (bus column : ℕ) → f.bus ≡ pos bus → f.column ≡ pos column → (table_grid after).at bus column ≡ f.number
  pub others : (bus column : ℕ) → (f.bus ≡ pos bus → f.column ≢ pos column) → (table_grid after).at bus column ≡ (table_grid before).at bus column

-- of a granted factor; a refused one leaves the table
abbrev pub Reads : List ℤ → List ℤ → Factor → Result (Unit {0}) Refusal → Type 0
Reads before after f (Ok _) = OnlyThere before after f
Reads before after f (Err e) = after ≡ before
