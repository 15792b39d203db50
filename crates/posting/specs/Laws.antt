-- Laws of tables and of reference buses, in the words of a desk that reads postings.
use Rattle.std.specs.Prelude.{◌≡◌, ℕ, ◌+◌, ◌*◌, ◌<◌, ◌≤◌, List, length, ℤ, pos, ◌+ℤ◌, ◌-ℤ◌, ◌≢◌, slice_index_or, slice_set}
use Rattle.posting.specs.Limits.{buses, columns, most_table_number}
use Rattle.posting.specs.Grids.{Within, Grid, Small}
use Rattle.posting.specs.Meanings.{table_grid, reference_grid}

-- of the table over these numbers
pub record TableLaws (numbers : List ℤ) (table : Grid) : Type 0 where
  -- no number of a table is more than 1,000,000 away from 0
  pub all_are_small : Small table
  -- a bus and column read what stands at their place, if a table may have it
  pub what_stands_is_read : (bus column : ℕ) → bus < buses → column < columns → Within most_table_number (slice_index_or numbers (column * buses + bus) (pos 0))
      → table.at bus column ≡ slice_index_or numbers (column * buses + bus) (pos 0)
  -- and what is written there
  pub what_is_written_is_read : (bus column : ℕ) (z : ℤ) → bus < buses → column < columns → column * buses + bus < length numbers
      → Within most_table_number z → (table_grid (slice_set numbers (column * buses + bus) z)).at bus column ≡ z
  -- and 0, if a table may not have it
  pub too_much_reads_as_zero : (bus column : ℕ) (z : ℤ) → column * buses + bus < length numbers
      → (Within most_table_number z → ⊥) → (table_grid (slice_set numbers (column * buses + bus) z)).at bus column ≡ pos 0
  -- a change at any other place changes nothing there
  pub other_places_stay : (bus column place : ℕ) (z : ℤ) → (place ≢ column * buses + bus)
      → (table_grid (slice_set numbers place z)).at bus column ≡ table.at bus column
  -- a bus and column have a place of their own
  pub other_entries_stay : (bus column other another : ℕ) (z : ℤ) → bus < buses → other < buses → (bus ≡ other → column ≢ another)
      → (table_grid (slice_set numbers (another * buses + other) z)).at bus column ≡ table.at bus column
  -- past the end there is 0
  pub past_the_end_is_zero : (bus column : ℕ) → length numbers ≤ column * buses + bus → table.at bus column ≡ pos 0

-- of the layer over the grid below, with this reference bus
pub record ReferenceLaws (below : Grid) (reference : ℕ) (layer : Grid) : Type 0 where
  -- the reference bus reads 0 in every column
  pub reference_bus_reads_zero : (column : ℕ) → layer.at reference column ≡ pos 0
  -- over small numbers nothing is held back: a number and the reference bus's make the number below
  pub nothing_is_held_back : Small below
      → (bus column : ℕ) → bus < buses → layer.at bus column +ℤ below.at reference column ≡ below.at bus column
  -- over small numbers a reference bus moves no difference between two buses
  pub differences_stay : Small below
      → (bus other column : ℕ) → bus < buses → other < buses
      → layer.at bus column -ℤ layer.at other column ≡ below.at bus column -ℤ below.at other column
  -- over small numbers the last reference bus is the one that counts
  pub last_reference_counts : Small below
      → (last : ℕ) → last < buses → (bus column : ℕ) → (reference_grid layer last).at bus column ≡ (reference_grid below last).at bus column
