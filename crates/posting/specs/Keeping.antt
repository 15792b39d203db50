-- Why the numbers of a table, and those against a reference bus, are a grid: they keep its limit, and are 0 outside.
use Rattle.std.specs.Prelude.{◌≡◌, ℕ, ◌+◌, ◌*◌, false, List, ℤ, pos, ◌-ℤ◌, int_le, nat_lt, slice_index_or}
use Rattle.std.proofs.Common.{⊎_elim, arith}
use Rattle.std.proofs.lemmas.Int.{ints, clamps}
use Rattle.std.proofs.lemmas.Bool.{cond_both, cond-false, and_parts, and_left, and_right, le-ltb}
use Rattle.posting.specs.Limits.{buses, columns, most_number, most_table_number}
use Rattle.posting.specs.Grids.{Within, Grid, inside, Outside}
use Rattle.posting.specs.Tables.{counts, counted, table_number}
use Rattle.posting.specs.References.{held, relative_number}

pub not_inside : (bus column : ℕ) → Outside bus column → inside bus column ≡ false
not_inside bus column =
    ⊎_elim
    (λ h. and_left (nat_lt bus buses) (nat_lt column columns) (le-ltb bus buses h))
    (λ h. and_right (nat_lt bus buses) (nat_lt column columns) (le-ltb column columns h))

within_zero : (most : ℕ) → Within most (pos 0)
within_zero most = record { low = omega (arith, ints); high = omega (arith, ints) }

counted_within : (z : ℤ) → Within most_table_number (counted z)
counted_within z =
    cond_both (counts z) z (pos 0) (Within most_table_number)
    (λ e. let p = and_parts (int_le (pos 0 -ℤ pos most_table_number) z) (int_le z (pos most_table_number)) e in record { low = omega (arith, ints); high = omega (arith, ints) })
    (λ _. within_zero most_table_number)

pub table_small : (numbers : List ℤ) (bus column : ℕ) → Within most_table_number (table_number numbers bus column)
table_small numbers bus column =
    cond_both (inside bus column) (counted (slice_index_or numbers (column * buses + bus) (pos 0))) (pos 0) (Within most_table_number)
    (λ _. counted_within (slice_index_or numbers (column * buses + bus) (pos 0)))
    (λ _. within_zero most_table_number)

pub table_within : (numbers : List ℤ) (bus column : ℕ) → Within most_number (table_number numbers bus column)
table_within numbers bus column = let small = table_small numbers bus column in record { low = omega (arith, ints); high = omega (arith, ints) }

pub table_outside : (numbers : List ℤ) (bus column : ℕ) → Outside bus column → table_number numbers bus column ≡ pos 0
table_outside numbers bus column o = cond-false (inside bus column) _ _ (not_inside bus column o)

held_within : (z : ℤ) → Within most_number (held z)
held_within z = record { low = omega (arith, ints, clamps); high = omega (arith, ints, clamps) }

pub relative_within : (below : Grid) (reference bus column : ℕ) → Within most_number (relative_number below reference bus column)
relative_within below reference bus column =
    cond_both (inside bus column) (held (below.at bus column -ℤ below.at reference column)) (pos 0) (Within most_number)
    (λ _. held_within (below.at bus column -ℤ below.at reference column))
    (λ _. within_zero most_number)

pub relative_outside : (below : Grid) (reference bus column : ℕ) → Outside bus column → relative_number below reference bus column ≡ pos 0
relative_outside below reference bus column o = cond-false (inside bus column) _ _ (not_inside bus column o)
