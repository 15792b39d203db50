use Rattle.bus_set.specs.Sets.{member}
use Rattle.saved_rows.specs.Rows.{outage_rows}
use Rattle.saving.specs.Growing.{Grows}
use Rattle.saving.proofs.drafts.entries.push_outages.Given as goal

-- the outages so far
abbrev pub invariant-loop-bus : goal.invariant-loop-bus
invariant-loop-bus l = Grows (outage_rows l.k (member l.out) l.bus) l.initial.draft l.draft
