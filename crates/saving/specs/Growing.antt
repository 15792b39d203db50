-- Lines added to a draft.
use Rattle.std.specs.Prelude.{◌≡◌, ◌+◌, ◌^◌, ◌<◌, List, length}
use Rattle.std.specs.List.{flat_map}
use Rattle.saved_rows.specs.declared.row.Row.{Row}
use Rattle.saving.specs.declared.drafts.Draft.{Draft}
use Rattle.saved.specs.Texts.{line_text}
use Rattle.saving.specs.Adding.{Adds}

-- the lines are added to the draft, and counted as far as the count goes
pub record Grows (lines : List Row) (before after : Draft) : Type 0 where
  pub text : Adds (flat_map line_text lines) before.page after.page
  pub count : before.lines + length lines < 2 ^ 32 → after.lines ≡ before.lines + length lines
