-- The grid that a posting text means. It stays shut, so that others go by its laws.
use Rattle.std.specs.Prelude.{ℕ, List}
use Rattle.posting.specs.Grids.{Grid}
use Rattle.posting_text.specs.Direct.{direct_number}
use Rattle.posting_text.specs.Keeping.{direct_within, direct_outside}

unfoldable pub direct_grid : List ℕ → Grid
direct_grid text = record {
  at = direct_number text;
  within = direct_within text;
  outside = direct_outside text;
}
