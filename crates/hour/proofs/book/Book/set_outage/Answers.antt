use Rattle.std.proofs.Common.{◌≡◌, true, Some, Option, subst, w64, SFits, rules}
use Rattle.std.proofs.lemmas.Int.{to_z-of_z}
use Rattle.std.proofs.lemmas.Bool.{and_from, and_parts}
use Rattle.hour.specs.Sound.{when_some, constraint_sound}
use Rattle.hour.specs.declared.records.Constraint.{Constraint}
use Rattle.hour.proofs.Tables.{all_by_get_or}
use Rattle.hour.proofs.book.Book.set_outage.Goals as goal

pub replace_constraint-requires-clause-sound : goal.replace_constraint-requires-clause-sound
replace_constraint-requires-clause-sound c =
    let book = c.args.self.now in
    let old = c.in_ok-old.old in
    let was : when_some constraint_sound (Some old) ≡ true =
    subst (λ (x : Option Constraint). when_some constraint_sound x ≡ true) c.in_ok-old.ensures.ok_part (all_by_get_or constraint_sound book.constraints c.from-i.result book.posted)
    in
    let fits : SFits w64 old.shadow_price = search rules in
    simp to_z-of_z (and_from _ _ (and_parts _ _ was).0 c.marked-marks.ensures.words)
