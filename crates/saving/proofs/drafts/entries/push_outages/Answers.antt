use Rattle.std.proofs.Common.{◌≡◌, ◌+◌, [], ◌∷◌, pos, sym, ap, ◌∙◌, arith, rules}
use Rattle.bus_set.specs.Sets.{member}
use Rattle.saved_rows.specs.declared.row.Row.TheVariants as row
use Rattle.saved_rows.specs.Rows.{outage_rows}
use Rattle.saving.specs.Growing.{Grows}
use Rattle.saving.proofs.Growing.{grow_none, grow_same, bus_out, bus_in}
use Rattle.saving.proofs.drafts.entries.push_outages.Goals as goal
use Rattle.saving.proofs.drafts.entries.push_outages.Goals.{then-contains, else-contains}

pub loop-bus-init : goal.loop-bus-init
unfolding outage_rows
loop-bus-init c = grow_none c.args.draft.now

pub loop-bus-preserved : goal.loop-bus-preserved
loop-bus-preserved c =
    let k = c.args.k in
    let bus = c.loop-bus.bus in
    elim c.if-contains.branch [
      | then-contains w ↦
          let line : Grows (row.Outage (pos k) (pos bus) ∷ []) c.loop-bus.draft w.push_row.new.self = search rules in
          bus_out k bus (member c.args.out) c.loop-bus.invariant (sym c.contains.ensures ∙ w.if-contains.true) line w.draft-is
      | else-contains w ↦ bus_in k bus (member c.args.out) c.loop-bus.invariant (sym c.contains.ensures ∙ w.if-contains.false) w.draft-is
    ]

pub returns-after-contains : goal.returns-after-contains
returns-after-contains c =
    let k = c.args.k in
    let bus = c.loop-bus.bus in
    let last : bus + 1 ≡ 256 = omega arith in
    grow_same
    (elim c.if-contains.branch [
      | then-contains w ↦
          let line : Grows (row.Outage (pos k) (pos bus) ∷ []) c.loop-bus.draft w.push_row.new.self = search rules in
          bus_out k bus (member c.args.out) c.loop-bus.invariant (sym c.contains.ensures ∙ w.if-contains.true) line w.draft-is
      | else-contains w ↦ bus_in k bus (member c.args.out) c.loop-bus.invariant (sym c.contains.ensures ∙ w.if-contains.false) w.draft-is
    ])
    (ap (outage_rows k (member c.args.out)) last)
