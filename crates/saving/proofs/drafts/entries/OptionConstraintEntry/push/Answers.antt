use Rattle.std.proofs.Common.{[], ◌∷◌, pos, sym, ap, rules}
use Rattle.saved_rows.specs.declared.row.Row.TheVariants as row
use Rattle.saved_rows.specs.Rows.{constraint_rows}
use Rattle.saving.specs.Growing.{Grows}
use Rattle.saving.proofs.Growing.{grow_same, grow_then}
use Rattle.saving.proofs.drafts.entries.OptionConstraintEntry.push.Goals as goal

pub returns-in-Some : goal.returns-in-Some
returns-in-Some c =
    let posted = c.in-Some.posted in
    let line : Grows (row.Constraint (pos c.args.k) posted.shadow_price ∷ []) c.args.draft.now c.push_row.new.self = search rules in
    grow_same (grow_then line c.push_outages.ensures) (sym (ap (constraint_rows c.args.k) c.in-Some.is))
