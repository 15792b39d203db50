-- The laws of tables.
use Rattle.std.proofs.Common.{◌≡◌, ℕ, ◌+◌, ◌*◌, ◌<◌, true, cond, ltb, List, length, get_or, set, ℤ, pos, ◌-ℤ◌, sym, refl, ap, ◌∙◌, arith}
use lib.Signed.{le_z}
use Rattle.std.proofs.lemmas.List.{get_or-set_same, get_or-set_other, get_or_past}
use Rattle.std.proofs.lemmas.Int.{ints}
use Rattle.std.proofs.lemmas.Bool.{cond_both, cond-true, and_from, and_parts, lt-ltb}
use Rattle.posting.specs.Limits.{buses, columns, most_table_number}
use Rattle.posting.specs.Grids.{Within, inside}
use Rattle.posting.specs.Tables.{counts, counted, table_number}
use Rattle.posting.specs.Keeping.{table_small}
use Rattle.posting.specs.Meanings.{table_grid}
use Rattle.posting.specs.Laws.{TableLaws}

is_inside : (bus column : ℕ) → bus < buses → column < columns → inside bus column ≡ true
is_inside bus column b c = and_from (ltb bus buses) (ltb column columns) (lt-ltb bus buses b) (lt-ltb column columns c)

-- a number that a table may have is the number that counts, and another counts as 0
pub counted_small : (z : ℤ) → Within most_table_number z → counted z ≡ z
counted_small z w = grind (arith, ints)

counted_large : (z : ℤ) → (Within most_table_number z → ⊥) → counted z ≡ pos 0
counted_large z w =
    cond_both (counts z) z (pos 0) (λ n. n ≡ pos 0)
    (λ e. let p = and_parts (le_z (pos 0 -ℤ pos most_table_number) z) (le_z z (pos most_table_number)) e in elim (w (record { low = omega (arith, ints); high = omega (arith, ints) })) [ ])
    (λ _. refl)

-- only the number at its own place tells what a bus and column read
same_there : (xs ys : List ℤ) (bus column : ℕ)
    → get_or xs (column * buses + bus) (pos 0) ≡ get_or ys (column * buses + bus) (pos 0) → table_number xs bus column ≡ table_number ys bus column
same_there xs ys bus column e = ap (λ (n : ℤ). cond (inside bus column) (counted n) (pos 0)) e

-- where a number that counts as 0 stands, 0 is read
none_there : (xs : List ℤ) (bus column : ℕ) → counted (get_or xs (column * buses + bus) (pos 0)) ≡ pos 0 → table_number xs bus column ≡ pos 0
none_there xs bus column e =
    cond_both (inside bus column) (counted (get_or xs (column * buses + bus) (pos 0))) (pos 0) (λ n. n ≡ pos 0) (λ _. e) (λ _. refl)

stands : (xs : List ℤ) (bus column : ℕ) → bus < buses → column < columns → Within most_table_number (get_or xs (column * buses + bus) (pos 0))
    → table_number xs bus column ≡ get_or xs (column * buses + bus) (pos 0)
stands xs bus column b c w =
    cond-true (inside bus column) _ _ (is_inside bus column b c) ∙ counted_small (get_or xs (column * buses + bus) (pos 0)) w

written : (numbers : List ℤ) (bus column : ℕ) (z : ℤ) → column * buses + bus < length numbers
    → get_or (set numbers (column * buses + bus) z) (column * buses + bus) (pos 0) ≡ z
written numbers bus column z h = get_or-set_same numbers (column * buses + bus) z (pos 0) h

stays : (numbers : List ℤ) (bus column place : ℕ) (z : ℤ) → (place ≡ column * buses + bus → ⊥)
    → table_number (set numbers place z) bus column ≡ table_number numbers bus column
stays numbers bus column place z apart =
    same_there (set numbers place z) numbers bus column (get_or-set_other numbers place (column * buses + bus) z (pos 0) (λ e. apart (sym e)))

-- two entries of one place are the same entry
one_place : (bus column other another : ℕ) → bus < buses → other < buses → (bus ≡ other → column ≡ another → ⊥)
    → another * buses + other ≡ column * buses + bus → ⊥
one_place bus column other another b o apart e = apart (omega arith) (omega arith)

pub table_laws : (numbers : List ℤ) → TableLaws numbers (table_grid numbers)
unfolding table_grid
table_laws numbers = record {
  all_are_small = table_small numbers;
  what_stands_is_read = stands numbers;
  what_is_written_is_read = λ bus column z b c h w.
      cond-true (inside bus column) _ _ (is_inside bus column b c) ∙ ap counted (written numbers bus column z h) ∙ counted_small z w;
  too_much_reads_as_zero = λ bus column z h w.
      none_there (set numbers (column * buses + bus) z) bus column (ap counted (written numbers bus column z h) ∙ counted_large z w);
  other_places_stay = stays numbers;
  other_entries_stay = λ bus column other another z b o apart.
      stays numbers bus column (another * buses + other) z (one_place bus column other another b o apart);
  past_the_end_is_zero = λ bus column h. none_there numbers bus column (ap counted (get_or_past numbers (column * buses + bus) (pos 0) h));
}
