use Rattle.std.proofs.Common.{◌≡◌, ℕ, List, [], ◌∷◌, ◌++◌, length, take, pos, ap, ◌∙◌, arith, rules}
use Rattle.std.specs.List.{flat_map}
use Rattle.std.proofs.lemmas.List.{take_all}
use Rattle.hour.specs.Hour.{entries}
use Rattle.saved_rows.specs.declared.row.Row.TheVariants as row
use Rattle.saved_rows.specs.Rows.{indexed, bus_rows, lambda_rows, constraint_rows, run_row, all_rows, rows}
use Rattle.saved_rows.proofs.Writable.{all_writable}
use Rattle.saved.specs.Texts.{line_text, saved_text}
use Rattle.saving.specs.Adding.{longest}
use Rattle.saving.specs.Growing.{Grows}
use Rattle.saving.proofs.Growing.{grow_then, grow_same}
use Rattle.saving.proofs.Lengths.{saved_fits}
use Rattle.saving.proofs.drafts.Draft.push_book.Goals as goal

pub returns-clause-lines : goal.returns-clause-lines
returns-clause-lines c =
    let book = c.args.book.now in
    let before : Grows (rows (entries book)) c.args.self.now c.push_table-3.new.self =
    grow_then (grow_same c.push_table.ensures (ap (indexed bus_rows 0) c.buses.ensures.value))
    (grow_then (grow_same c.push_lambda.ensures (ap lambda_rows c.lambda.ensures.value))
    (grow_then (grow_same c.push_table-2.ensures (ap (indexed constraint_rows 0) c.constraints.ensures.value))
    (grow_same c.push_table-3.ensures (ap (indexed run_row 0) c.runs.ensures.value)))) in
    let count : c.push_table-3.new.self.lines ≡ length (rows (entries book)) = omega (arith, before.count, c.requires, (all_writable book).0) in
    let last : Grows (row.End (pos c.push_table-3.new.self.lines) ∷ []) c.push_table-3.new.self c.push_row.new.self = search rules in
    grow_then before (grow_same last (ap (λ (n : ℕ). row.End (pos n) ∷ []) count))

pub returns-clause-text : goal.returns-clause-text
unfolding saved_text
returns-clause-text c = λ blank.
    let book = c.args.book.now in
    (returns-clause-lines c).text.text
    ∙ ap (λ (t : List ℕ). take longest (t ++ flat_map line_text (all_rows (entries book)))) blank
    ∙ take_all longest (saved_text (entries book)) (saved_fits book)
