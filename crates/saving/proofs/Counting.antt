-- How many lines an entry has.
use Rattle.std.proofs.Common.{ℕ, zero, suc, ◌≤◌, Bool, true, false, cond, [], ◌∷◌, length, ℤ, pos, Some, None, Option, arith}
use Rattle.std.proofs.lemmas.List.{length-append}
use Rattle.bus_set.specs.Sets.{member}
use Rattle.hour.specs.declared.records.Bus.{Bus}
use Rattle.hour.specs.declared.records.Constraint.{Constraint}
use Rattle.hour.specs.declared.records.Run.{Run}
use Rattle.saved_rows.specs.declared.row.Row.TheVariants as row
use Rattle.saved_rows.specs.Order.{blank_bus}
use Rattle.saved_rows.specs.Rows.{bus_numbers, bus_rows, lambda_rows, outage_rows, constraint_rows, run_row}

pub one_bus : (k : ℕ) (b : Bus) → length (bus_rows k b) ≤ 1
one_bus k b = elim (blank_bus (bus_numbers k b)) as (λ t. length (cond t [] (row.Bus (bus_numbers k b) ∷ [])) ≤ 1) [ true ↦ omega arith | false ↦ omega arith ]

pub one_lambda : (z : Option ℤ) → length (lambda_rows z) ≤ 1
one_lambda None = omega arith
one_lambda (Some z) = omega arith

-- of the first n buses, each at most once
pub some_outages : (k : ℕ) (out : ℕ → Bool) (n : ℕ) → length (outage_rows k out n) ≤ n
unfolding outage_rows
some_outages k out zero = omega arith
some_outages k out (suc n) =
    let last : length (cond (out n) (row.Outage (pos k) (pos n) ∷ []) []) ≤ 1 =
    elim (out n) as (λ t. length (cond t (row.Outage (pos k) (pos n) ∷ []) []) ≤ 1) [ true ↦ omega arith | false ↦ omega arith ] in
    omega (arith, some_outages k out n, length-append (outage_rows k out n) (cond (out n) (row.Outage (pos k) (pos n) ∷ []) []))

-- its own line, and one for each bus that is out
pub one_constraint : (k : ℕ) (c : Option Constraint) → length (constraint_rows k c) ≤ 257
one_constraint k None = omega arith
one_constraint k (Some c) = omega (arith, some_outages k (member c.out) 256)

pub one_run : (k : ℕ) (r : Option Run) → length (run_row k r) ≤ 1
one_run k None = omega arith
one_run k (Some r) = omega arith
