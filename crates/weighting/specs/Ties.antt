-- The one bus of a tie weighs 1 when live.
use Rattle.std.specs.Prelude.{ℕ, cond, ◌==◌, refl}
use Rattle.std.proofs.Common.{arith}
use Rattle.weighting.specs.Views.{View}
use Rattle.weighting.specs.Meanings.{Meaning}
use Rattle.weighting.specs.Owns.{Own, cond_most, own_meaning}

abbrev pub tie_own : ℕ → View → ℕ → ℕ
tie_own bus v b = cond (b == bus) 1 0

pub tie_own_kept : (bus : ℕ) → Own (tie_own bus)
tie_own_kept bus = record { most = λ v b. cond_most (b == bus) 1 10000 (omega arith); same = λ v u b hub area load. refl }

abbrev pub tie_meaning : ℕ → Meaning
tie_meaning bus = own_meaning (tie_own bus) (tie_own_kept bus)
