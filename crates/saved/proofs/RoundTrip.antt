-- Saved texts and hours are one to one.
use Rattle.std.proofs.Common.{sym, ap, ◌∙◌}
use Rattle.cuts.specs.Cuts.{split}
use Rattle.cuts.proofs.Cutting.{join_split}
use Rattle.hour.specs.Hour.{entries}
use Rattle.saved_rows.specs.Rows.{all_rows}
use Rattle.saved_rows.specs.Running.{begin}
use Rattle.saved_rows.proofs.Trip.{laws}
use Rattle.saved.specs.Texts.{text_of, saved_text}
use Rattle.saved.specs.Laws.{ReadsBack, OnlySaved}
use Rattle.saved.proofs.Lexing.{read_rows, rows_read}
use Rattle.cuts.specs.Fields.{line_end}

-- the saved text of a book is read as its entries
pub reads_back : ReadsBack
unfolding saved_text
reads_back book = read_rows (all_rows (entries book)) begin 1 (laws.all_writable book).1 ∙ laws.reads_back book

-- and a text that is read is the saved text of the hour that it gives
pub only_saved : OnlySaved
unfolding saved_text
only_saved t h e =
    let w = rows_read (split line_end t) begin 1 h e in
    sym (join_split line_end t) ∙ w.1 ∙ ap text_of (laws.only_saved w.0 h w.2)
