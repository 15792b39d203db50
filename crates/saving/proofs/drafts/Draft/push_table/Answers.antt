use Rattle.std.proofs.Common.{◌≡◌, ℕ, ◌+◌, ◌-◌, [], ◌++◌, length, sym, ap, ◌∙◌, arith}
use Rattle.std.specs.Slice.Iter.{iter_rest}
use Rattle.saved_rows.specs.Rows.{indexed}
use Rattle.saving.proofs.Growing.{grow_none, grow_then}
use Rattle.hour.proofs.Ranges.{left_of, left_first, left_more}
use Rattle.saving.proofs.Tables.{next_entry}
use Rattle.saving.proofs.drafts.Draft.push_table.Goals as goal

pub loop-k-init : goal.loop-k-init
loop-k-init g c =
    let is = c.into_iter-k-iterator.ensures.into_iter_gives in
    let full : left_of c.into_iter-k-iterator.result.a ≡ 256 =
    ap (λ z. left_of z.a) is ∙ ap left_of c.zip-k-items.ensures.first ∙ left_first c.new.result c.new.ensures.start c.new.ensures.end c.new.ensures.exhausted in
    let first : c.into_iter-k-iterator.result.a.start ≡ 0 = ap (λ z. z.a.start) is ∙ ap (λ r. r.start) c.zip-k-items.ensures.first ∙ c.new.ensures.start in
    let table : length (iter_rest c.into_iter-k-iterator.result.b) ≡ length (iter_rest c.args.table) =
    ap (λ z. length (iter_rest z.b)) is ∙ ap (λ b. length (iter_rest b)) c.zip-k-items.ensures.second in
    record {
      done = [];
      grows = grow_none c.args.self.now;
      left = ap (λ (n : ℕ). indexed g.T.Entry.rows (256 - n) (iter_rest c.into_iter-k-iterator.result.b)) (sym full);
      room = omega (arith, full, table, c.requires);
      number = λ _. omega (arith, full, first);
    }

pub loop-k-preserved : goal.loop-k-preserved
loop-k-preserved g c =
    let steps = c.in-Some.ensures.steps in
    let was = c.loop-k.k-iterator.a in
    let is = c.next.new.self.a in
    let less : left_of is + 1 ≡ left_of was = steps.0.1.1 in
    let number : was.start + left_of was ≡ 256 = c.loop-k.invariant.number (omega arith) in
    let first : c.in-Some.k ≡ 256 - left_of was = omega (arith, steps.0.1.0) in
    record {
      done = c.loop-k.invariant.done ++ g.T.Entry.rows c.in-Some.k c.in-Some.entry.now;
      grows = grow_then c.loop-k.invariant.grows c.push.ensures;
      left = next_entry g.T.Entry.rows _ c.loop-k.invariant.done (left_of was) (left_of is) c.in-Some.k c.in-Some.entry.now _ _ c.loop-k.invariant.left steps.1 first less (omega arith);
      room = omega (arith, c.loop-k.invariant.room, ap length steps.1);
      number = λ some. omega (arith, steps.0.1.2 (left_more is some));
    }
