use Rattle.std.proofs.Common.{arith, rules}
use Rattle.std.specs.Fn.{FnReturnsAt}
use Rattle.bus_set.proofs.Sets.{marked_turn, marked_all, words_length}
use Rattle.hour.specs.Hour.{entries, bus_at}
use Rattle.hour.proofs.book.Book.set_of.Goals as goal

pub loop-i-preserved : goal.loop-i-preserved
loop-i-preserved g c = (
  words_length c.marked-next.result c.marked-next.ensures.words,
  λ p says.
      let at = entries c.args.self.now in
      let i = c.loop-i.i in
      let called : FnReturnsAt g.F.Fn c.args.test (bus_at at i) c.test.result = search rules in
      (marked_turn (λ k. p (bus_at at k)) c.loop-i.set c.marked-next.result i c.test.result (c.loop-i.invariant.0, c.loop-i.invariant.1 p says) (omega arith) (says _ _ called) c.marked-next.ensures.value).1,
)

pub returns : goal.returns
returns g c = λ p says. marked_all (λ k. p (bus_at (entries c.args.self.now) k)) c.loop-i.set c.loop-i.i (omega arith) (c.loop-i.invariant.1 p says)
