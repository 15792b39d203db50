-- A live bus of a load zone weighs its load.
use Rattle.std.specs.Prelude.{ℕ, cond, ◌==◌}
use Rattle.std.proofs.Common.{ap₂}
use Rattle.weighting.specs.Views.{View}
use Rattle.weighting.specs.Meanings.{Meaning}
use Rattle.weighting.specs.Owns.{Own, cond_most, own_meaning}

abbrev pub zone_own : ℕ → View → ℕ → ℕ
zone_own zone v b = cond (v.zone b == zone) (v.load b) 0

pub zone_own_kept : (zone : ℕ) → Own (zone_own zone)
zone_own_kept zone = record {
  most = λ v b. cond_most (v.zone b == zone) (v.load b) 10000 (v.load_most b);
  same = λ v u b hub area load. ap₂ (λ (z l : ℕ). cond (z == zone) l 0) area load;
}

abbrev pub zone_meaning : ℕ → Meaning
zone_meaning zone = own_meaning (zone_own zone) (zone_own_kept zone)
