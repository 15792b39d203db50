use Rattle.std.proofs.Common.{◌≡◌, Err, ap, ◌∙◌}
use Rattle.std.proofs.lemmas.Result.{err_from_is_err_and}
use Rattle.posting_text.specs.Entries.{entry_of}
use Rattle.posting_text.specs.Lines.{line_entry, and_then}
use Rattle.posting_text.proofs.Reading.{entry_is_right}
use Rattle.posting_text.proofs.lines.read_entry.Goals as goal

pub returns-in_err-read_numbers : goal.returns-in_err-read_numbers
unfolding line_entry
returns-in_err-read_numbers c =
    let p = err_from_is_err_and c.from_residual.result c.from_residual.ensures.1 in
    let e : c.from_residual.result ≡ line_entry c.args.line.now = p.1 ∙ ap Err p.2 ∙ ap (λ r. and_then r entry_of) c.in_err-read_numbers.ensures in
    record { value = e; right = entry_is_right c.args.line.now c.from_residual.result e }

pub returns : goal.returns
unfolding line_entry
returns c =
    let e : c.entry.result ≡ line_entry c.args.line.now = c.entry.ensures ∙ ap (λ r. and_then r entry_of) c.in_ok-read_numbers.ensures in
    record { value = e; right = entry_is_right c.args.line.now c.entry.result e }
