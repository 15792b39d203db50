use Rattle.std.proofs.Common.{◌≡◌, length, refl, ◌∙◌, arith}
use Rattle.std.proofs.lemmas.Iterator.{YieldsList-from_slice}
use Rattle.std.proofs.lemmas.Iterator.Consumers.{YieldsList-end, YieldsList-from_enumerate}
use Rattle.std.proofs.lemmas.List.{length_push}
use Rattle.std.proofs.lemmas.List.FromFn.{length-enumerate_from}
use Rattle.hour.specs.Hour.{entries, bus_at}
use Rattle.weighting.proofs.Members.{sorted_none, sorted_next, sorted_all, its_turn}
use Rattle.weighting.proofs.hubs.members_of.Goals as goal

pub loop-bus-init : goal.loop-bus-init
loop-bus-init c = (refl, sorted_none (λ i. (bus_at (entries c.args.book.now) i).hub_bus))

pub bounds-all-k : goal.bounds-all-k
bounds-all-k c =
    let turn = its_turn c.args.book.now _ (cc) (cc) c.loop-bus.yielded _ c.loop-bus.yielded_by _ _ c.in-Some.bus c.in-Some.record c.in-Some.is c.next.ensures.steps in
    omega (arith, c.from-k.ensures, turn.hub_bus, turn.row)

pub overflow_cast-bus : goal.overflow_cast-bus
overflow_cast-bus c =
    let turn = its_turn c.args.book.now _ (cc) (cc) c.loop-bus.yielded _ c.loop-bus.yielded_by _ _ c.in-Some.bus c.in-Some.record c.in-Some.is c.next.ensures.steps in
    omega (arith, turn.number, turn.low)

pub loop-bus-preserved : goal.loop-bus-preserved
loop-bus-preserved c =
    let turn = its_turn c.args.book.now _ (cc) (cc) c.loop-bus.yielded _ c.loop-bus.yielded_by _ _ c.in-Some.bus c.in-Some.record c.in-Some.is c.next.ensures.steps in
    sorted_next (λ i. (bus_at (entries c.args.book.now) i).hub_bus) c.loop-bus.all (length c.loop-bus.yielded) _ c.from-k.result c.in-Some.bus c.marked.result c.loop-bus.invariant.0
    turn.low turn.row c.loop-bus.invariant.1 (c.from-k.ensures ∙ turn.hub_bus) turn.number (length_push c.loop-bus.yielded _) c.marked.ensures.value

pub returns : goal.returns
returns c =
    let all = YieldsList-end (YieldsList-from_enumerate (YieldsList-from_slice c.args.book.now.buses cc) cc) c.loop-bus.yielded _ c.loop-bus.yielded_by _ _ c.in-None.is c.next.ensures.steps in
    let end : length c.loop-bus.yielded ≡ 256 = all.1 ∙ length-enumerate_from 0 c.args.book.now.buses ∙ c.args.book.now.size in
    sorted_all (λ i. (bus_at (entries c.args.book.now) i).hub_bus) c.loop-bus.all (length c.loop-bus.yielded) end c.loop-bus.invariant.1
