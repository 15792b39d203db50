use Rattle.std.proofs.Common.{◌≡◌, ◌+◌, ◌-◌, ◌<◌, ◌≤◌, List, ◌++◌, length}
use Rattle.std.specs.Slice.Iter.{iter_rest}
use Rattle.saved_rows.specs.declared.row.Row.{Row}
use Rattle.saved_rows.specs.Rows.{indexed}
use Rattle.saving.specs.Growing.{Grows}
use Rattle.hour.proofs.Ranges.{left_of}
use Rattle.saving.proofs.drafts.Draft.push_table.Given as goal

-- the lines so far, before those of the entries that are left
abbrev pub invariant-loop-k : goal.invariant-loop-k
invariant-loop-k g l = record {
  done : List Row;
  grows : Grows done l.initial.self l.self;
  left : indexed g.T.Entry.rows 0 (iter_rest l.initial.k-iterator.b) ≡ done ++ indexed g.T.Entry.rows (256 - left_of l.k-iterator.a) (iter_rest l.k-iterator.b);
  room : length (iter_rest l.k-iterator.b) ≤ left_of l.k-iterator.a;
  number : 0 < left_of l.k-iterator.a → l.k-iterator.a.start + left_of l.k-iterator.a ≡ 256;
}
