use Rattle.std.proofs.Common.{[], ◌∷◌, sym, ap, ◌∙◌, rules}
use Rattle.std.specs.List.{flat_map}
use Rattle.saved.specs.Texts.{line_text}
use Rattle.saved_rows.specs.declared.row.Row.{Row}
use Rattle.saving.specs.Adding.{Adds, numbers_text}
use Rattle.saving.proofs.Adding.{add_same, bus_fields, bus_line}
use Rattle.saving.proofs.drafts.Draft.push_row.Goals as goal

pub returns-in-Bus : goal.returns-in-Bus
returns-in-Bus c =
    let bus = c.in-Bus.bus in
    let line : Adds (numbers_text 66 (bus_fields bus)) c.args.self.now.page c.push_numbers.new.self.page = search rules in
    record {
      text = add_same line (bus_line bus ∙ ap (λ (r : Row). flat_map line_text (r ∷ [])) (sym c.in-Bus.is));
      count = c.push_numbers.ensures.count;
    }
