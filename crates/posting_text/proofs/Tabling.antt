-- A table that is written line by line.
use Rattle.std.proofs.Common.{◌≡◌, ℕ, ◌+◌, ◌*◌, ◌/◌, ◌%◌, ◌<◌, ◌≤◌, ◌&&◌, eqb, ltb, List, [], ◌∷◌, ◌++◌, length, get_or, drop, set, ℤ, pos, Ok, Err, Result, sym, refl, ap, ◌∙◌, inl, inr, ⊎_elim, arith}
use Rattle.std.proofs.lemmas.List.{length-set, get_or-set_same, get_or-set_other, get_or_append_left, drop_at, length-drop, length-append}
use Rattle.std.proofs.lemmas.Bool.{cond-true, cond_both, and_from, and_parts, both_ways, lt-ltb, eq-eqb, cases_eq, cases_lt, ltb-true, eqb-true}
use Rattle.faults.specs.declared.Spot.{Spot}
use Rattle.posting.specs.Limits.{buses, columns, places}
use Rattle.posting.specs.Grids.{inside}
use Rattle.posting.specs.Tables.{counted}
use Rattle.posting.specs.Meanings.{table_grid}
use Rattle.posting.proofs.TableLaws.{counted_small}
use Rattle.posting_text.specs.declared.entries.Entry.{Entry}
use Rattle.posting_text.specs.Lines.{line_entry}
use Rattle.posting_text.specs.Texts.{lines}
use Rattle.posting_text.specs.Written.{Right}
use Rattle.posting_text.specs.Direct.{number_after, last_number, direct_number}
use Rattle.posting_text.specs.Keeping.{line_right, direct_small, direct_outside}
use Rattle.posting_text.specs.Meanings.{direct_grid}
use Rattle.posting_text.specs.Filling.{table_after, table_from, Filled}

place_inside : (e : Entry) → Right e → e.column * buses + e.bus < places
place_inside e r = let b = r.bus_inside in let c = r.column_inside in omega arith

-- a place is that of one bus and column
place_bus : (column bus k : ℕ) → bus < buses → column * buses + bus ≡ k → bus ≡ k % buses
place_bus column bus k b e = omega arith

place_column : (column bus k : ℕ) → bus < buses → column * buses + bus ≡ k → column ≡ k / buses
place_column column bus k b e = omega arith

no_place : (column bus k : ℕ) → (column * buses + bus ≡ k → ⊥) → bus ≡ k % buses → column ≡ k / buses → ⊥
no_place column bus k apart b c = apart (omega arith)

-- one line more, at one place
after_get_d : (table : List ℤ) (r : Result Entry Spot) (k : ℕ) → places ≤ length table → k < places → ((e : Entry) → r ≡ Ok e → Right e)
    → get_or (table_after table r) k (pos 0) ≡ number_after (k % buses) (k / buses) (get_or table k (pos 0)) r
after_get_d table (Err s) k long h right = refl
after_get_d table (Ok e) k long h right = ⊎_elim
    (λ (same : e.column * buses + e.bus ≡ k).
    let p = place_inside e (right e refl) in
    ap (λ (j : ℕ). get_or (set table (e.column * buses + e.bus) e.number) j (pos 0)) (sym same)
    ∙ get_or-set_same table (e.column * buses + e.bus) e.number (pos 0) (omega arith)
    ∙ sym (cond-true _ _ _ (and_from (eqb e.bus (k % buses)) (eqb e.column (k / buses))
    (eq-eqb e.bus (k % buses) (place_bus e.column e.bus k (right e refl).bus_inside same))
    (eq-eqb e.column (k / buses) (place_column e.column e.bus k (right e refl).bus_inside same)))))
    (λ (apart : e.column * buses + e.bus ≡ k → ⊥).
    get_or-set_other table (e.column * buses + e.bus) k e.number (pos 0) (λ q. apart (sym q))
    ∙ cond_both (eqb e.bus (k % buses) && eqb e.column (k / buses)) e.number (get_or table k (pos 0)) (λ z. get_or table k (pos 0) ≡ z)
    (λ t.
    let p = and_parts (eqb e.bus (k % buses)) (eqb e.column (k / buses)) t in
    absurd (no_place e.column e.bus k apart (eqb-true e.bus (k % buses) p.0) (eqb-true e.column (k / buses) p.1)))
    (λ _. refl))
    (cases_eq (e.column * buses + e.bus) k)

after_length : (table : List ℤ) (r : Result Entry Spot) → length (table_after table r) ≡ length table
after_length table (Ok e) = length-set table (e.column * buses + e.bus) e.number
after_length table (Err s) = refl

-- the numbers and the length that the lines leave
from_get_d : (table : List ℤ) (ls : List (List ℕ)) (k : ℕ) → places ≤ length table → k < places
    → get_or (table_from table ls) k (pos 0) ≡ last_number (k % buses) (k / buses) (get_or table k (pos 0)) ls
from_get_d table [] k long h = refl
from_get_d table (l ∷ ls) k long h =
    from_get_d (table_after table (line_entry l)) ls k (omega (arith, after_length table (line_entry l))) h
    ∙ ap (λ (z : ℤ). last_number (k % buses) (k / buses) z ls) (after_get_d table (line_entry l) k long h (line_right l))

from_length : (table : List ℤ) (ls : List (List ℕ)) → length (table_from table ls) ≡ length table
from_length table [] = refl
from_length table (l ∷ ls) = from_length (table_after table (line_entry l)) ls ∙ after_length table (line_entry l)

-- a table with the text's numbers means what the text means
means : (text : List ℕ) (table : List ℤ) → ((k : ℕ) → k < places → get_or table k (pos 0) ≡ direct_number text (k % buses) (k / buses))
    → (bus column : ℕ) → (table_grid table).at bus column ≡ (direct_grid text).at bus column
unfolding table_grid direct_grid
means text table numbers bus column =
    cond_both (inside bus column) (counted (get_or table (column * buses + bus) (pos 0))) (pos 0) (λ z. z ≡ direct_number text bus column)
    (λ t.
    let p = and_parts (ltb bus buses) (ltb column columns) t in
    let b = ltb-true bus buses p.0 in
    let c = ltb-true column columns p.1 in
    let there = numbers (column * buses + bus) (omega arith) in
    let own : direct_number text ((column * buses + bus) % buses) ((column * buses + bus) / buses) ≡ direct_number text bus column =
    ap (λ (x : ℕ). direct_number text x ((column * buses + bus) / buses)) (sym (place_bus column bus (column * buses + bus) b refl))
    ∙ ap (λ (y : ℕ). direct_number text bus y) (sym (place_column column bus (column * buses + bus) b refl)) in
    ap counted (there ∙ own) ∙ counted_small (direct_number text bus column) (direct_small text bus column))
    (λ f. sym (⊎_elim
    (λ (b : bus < buses). ⊎_elim
    (λ (c : column < columns). absurd (both_ways (inside bus column) f (and_from (ltb bus buses) (ltb column columns) (lt-ltb bus buses b) (lt-ltb column columns c))))
    (λ (c : columns ≤ column). direct_outside text bus column (inr c))
    (cases_lt column columns))
    (λ (b : buses ≤ bus). direct_outside text bus column (inl b))
    (cases_lt bus buses)))

-- the first places written anew, from 0 at each
pub fills : (text : List ℕ) (before zeros : List ℤ) → places ≤ length before → length zeros ≡ places → ((k : ℕ) → k < places → get_or zeros k (pos 0) ≡ pos 0)
    → Filled text before (table_from zeros (lines text) ++ drop places before)
unfolding direct_number
fills text before zeros long front zero =
    let written = table_from zeros (lines text) in
    let same : length written ≡ places = from_length zeros (lines text) ∙ front in
    let each : (k : ℕ) → k < places → get_or (written ++ drop places before) k (pos 0) ≡ direct_number text (k % buses) (k / buses) =
    λ k h. get_or_append_left written (drop places before) (pos 0) k (omega arith) ∙ from_get_d zeros (lines text) k (omega arith) h
    ∙ ap (λ (z : ℤ). last_number (k % buses) (k / buses) z (lines text)) (zero k h) in
    record {
      each_place = each;
      later_entries = drop_at written (drop places before) places same;
      same_length = simp (length-append, length-drop) (omega arith);
      same_meaning = means text (written ++ drop places before) each;
    }
