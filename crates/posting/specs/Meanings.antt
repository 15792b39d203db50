-- The grid that a table means, and the grid that a reference bus makes of another. Both stay shut, so that others go by their laws.
use Rattle.std.specs.Prelude.{ℕ, List, ℤ}
use Rattle.posting.specs.Grids.{Grid}
use Rattle.posting.specs.Tables.{table_number}
use Rattle.posting.specs.References.{relative_number}
use Rattle.posting.specs.Keeping.{table_within, table_outside, relative_within, relative_outside}

unfoldable pub table_grid : List ℤ → Grid
table_grid numbers = record {
  at = table_number numbers;
  within = table_within numbers;
  outside = table_outside numbers;
}

unfoldable pub reference_grid : Grid → ℕ → Grid
reference_grid below reference = record {
  at = relative_number below reference;
  within = relative_within below reference;
  outside = relative_outside below reference;
}
