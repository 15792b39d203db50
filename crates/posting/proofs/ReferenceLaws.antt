-- The laws of reference buses.
use Rattle.std.proofs.Common.{◌≡◌, ℕ, ◌<◌, cond, ltb, ℤ, pos, ◌-ℤ◌, sym, refl, ap, ◌∙◌, inl, inr, ⊎_elim, arith}
use Rattle.std.proofs.lemmas.Int.{ints, clamps}
use Rattle.std.proofs.lemmas.Bool.{cond_both, cond-true, and_from, lt-ltb, cases_lt}
use Rattle.posting.specs.Limits.{buses, columns, most_table_number}
use Rattle.posting.specs.Grids.{Within, Grid, inside, SmallIn}
use Rattle.posting.specs.References.{held, relative_number}
use Rattle.posting.specs.Keeping.{relative_outside}
use Rattle.posting.specs.Meanings.{reference_grid}
use Rattle.posting.specs.Laws.{ReferenceLaws}

held_none : (z : ℤ) → held (z -ℤ z) ≡ pos 0
held_none z = omega (arith, ints, clamps)

-- the difference of two small numbers is a posting's number
held_small : (x y : ℤ) → Within most_table_number x → Within most_table_number y → held (x -ℤ y) ≡ x -ℤ y
held_small x y wx wy = omega (arith, ints, clamps)

-- over small numbers the layer is the difference itself, past the last column too, where all are 0
unheld : (below : Grid) (column : ℕ) → SmallIn below column → (reference bus : ℕ) → bus < buses
    → relative_number below reference bus column ≡ below.at bus column -ℤ below.at reference column
unheld below column small reference bus b =
    ⊎_elim
    (λ c.
    cond-true (inside bus column) _ _ (and_from (ltb bus buses) (ltb column columns) (lt-ltb bus buses b) (lt-ltb column columns c))
    ∙ held_small (below.at bus column) (below.at reference column) (small bus) (small reference))
    (λ past.
    let layer = relative_outside below reference bus column (inr past) in
    let own = below.outside bus column (inr past) in
    let other = below.outside reference column (inr past) in
    omega (arith, ints))
    (cases_lt column columns)

-- so the layer reads the difference
pub difference_in : (below : Grid) (column : ℕ) → SmallIn below column → (reference bus : ℕ) → bus < buses
    → (reference_grid below reference).at bus column ≡ below.at bus column -ℤ below.at reference column
unfolding reference_grid
difference_in = unheld

differences : (below : Grid) (reference column : ℕ) → SmallIn below column → (bus other : ℕ) → bus < buses → other < buses
    → relative_number below reference bus column -ℤ relative_number below reference other column ≡ below.at bus column -ℤ below.at other column
differences below reference column small bus other b o =
    let own = unheld below column small reference bus b in
    let others = unheld below column small reference other o in
    omega (arith, ints)

last_counts : (below : Grid) (reference column : ℕ) → SmallIn below column → (last : ℕ) → last < buses → (bus : ℕ)
    → relative_number (reference_grid below reference) last bus column ≡ relative_number below last bus column
unfolding reference_grid
last_counts below reference column small last l bus =
    ⊎_elim
    (λ b. ap (λ (d : ℤ). cond (inside bus column) (held d) (pos 0)) (differences below reference column small bus last b l))
    (λ past. relative_outside (reference_grid below reference) last bus column (inl past) ∙ sym (relative_outside below last bus column (inl past)))
    (cases_lt bus buses)

pub reference_laws : (below : Grid) (reference : ℕ) → ReferenceLaws below reference (reference_grid below reference)
unfolding reference_grid
reference_laws below reference = record {
  reference_bus_reads_zero = λ column.
      cond_both (inside reference column) (held (below.at reference column -ℤ below.at reference column)) (pos 0) (λ n. n ≡ pos 0)
      (λ _. held_none (below.at reference column)) (λ _. refl);
  nothing_is_held_back = λ small bus column b. let own = unheld below column (λ other. small other column) reference bus b in omega (arith, ints);
  differences_stay = λ small bus other column. differences below reference column (λ b. small b column) bus other;
  last_reference_counts = λ small last l bus column. last_counts below reference column (λ b. small b column) last l bus;
}
