-- The laws of saved lines.
use Rattle.saved_rows.specs.Laws.{Laws}
use Rattle.saved_rows.proofs.ReadsBack as back
use Rattle.saved_rows.proofs.OnlySaved as only
use Rattle.saved_rows.proofs.Writable as writable
use Rattle.saved_rows.proofs.FirstFault as first

pub laws : Laws
laws = record { reads_back = back.reads_back; only_saved = only.only_saved; all_writable = writable.all_writable; first_fault = first.first_fault }
