use Rattle.std.proofs.Common.{refl}
use Rattle.script.specs.declared.verbs.Verb.TheVariants.{Place, Status, Load, Lambda, Post, Strike, Outage, Run, Drop, Weights, Show, Help}
use Rattle.script.proofs.verbs.Verb.all.Goals as goal

pub returns-clause-every : goal.returns-clause-every
returns-clause-every c = elim [
  | Place ↦ (0, refl)
  | Status ↦ (1, refl)
  | Load ↦ (2, refl)
  | Lambda ↦ (3, refl)
  | Post ↦ (4, refl)
  | Strike ↦ (5, refl)
  | Outage ↦ (6, refl)
  | Run ↦ (7, refl)
  | Drop ↦ (8, refl)
  | Weights ↦ (9, refl)
  | Show ↦ (10, refl)
  | Help ↦ (11, refl)
]
