-- What the program makes of a run.
use Rattle.std.proofs.Common.{◌≡◌, ℕ, ◌*◌, ◌<◌, ◌≤◌, true, ◌&&◌, leb, ℤ, pos, ◌+ℤ◌, ◌*ℤ◌, sym, ◌∙◌, subst, ap₂, arith, SFits, to_z, of_z}
use mir.Syntax.{w128}
use Rattle.std.proofs.lemmas.Int.{ints, to_z-of_z}
use Rattle.std.proofs.lemmas.Bool.{and_parts}
use Rattle.bounds.specs.Bounds.{within}
use Rattle.hour.specs.Limits.{most_adder}
use Rattle.hour.specs.Sound.{run_sound}
use Rattle.hour.specs.declared.records.Run.{Run}
use Rattle.posting.specs.Grids.{Within}
use Rattle.weighted_sums.proofs.Withins.{within_more, within_add, within_mul, within_pos, within_by}
use Rattle.real_time.specs.Bounds.{most_part}

pub adders_within : (run : Run) → run_sound run ≡ true → Within most_adder run.reserve_adder × Within most_adder run.reliability_adder
adders_within run h =
    let a = within run.reserve_adder most_adder in
    let b = within run.reliability_adder most_adder in
    let both = and_parts a b (and_parts (leb 1 run.seconds) (a && b) h).1 in
    (within_by run.reserve_adder most_adder both.0, within_by run.reliability_adder most_adder both.1)

module _ (p : ℤ) (t : ℕ) (run : Run) (prices : Within 5120000000000 p) (total : t ≤ 2560000) (sound : run_sound run ≡ true) (seconds : run.seconds < 65536) where
  pub added_within : Within 5120000000000 (pos t *ℤ (run.reserve_adder +ℤ run.reliability_adder))
  added_within =
      let both = adders_within run sound in
      within_mul 2560000 2000000 (pos t) _ (within_pos t 2560000 total) (within_add 1000000 1000000 run.reserve_adder run.reliability_adder both.0 both.1)

  pub part_within : Within most_part ((p +ℤ (pos t *ℤ (run.reserve_adder +ℤ run.reliability_adder))) *ℤ pos run.seconds)
  part_within =
      within_more (10240000000000 * 65536) most_part _ (omega arith)
      (within_mul 10240000000000 65536 _ (pos run.seconds) (within_add 5120000000000 5120000000000 p _ prices added_within) (within_pos run.seconds 65536 (omega arith)))

  -- what the program computes in words, from words that are the price sum, the total, the adders and the seconds
  module _ (x y z : ℤ) (px : x ≡ p) (ty : y ≡ pos t) (az : z ≡ run.reserve_adder +ℤ run.reliability_adder) where
    added_is : y *ℤ z ≡ pos t *ℤ (run.reserve_adder +ℤ run.reliability_adder)
    added_is = ap₂ (λ (a b : ℤ). a *ℤ b) ty az

    pub added_fits : SFits w128 (y *ℤ z)
    added_fits = subst (SFits w128) (sym added_is) (let w = added_within in omega (arith, ints, w.low, w.high))

    raised_is : x +ℤ to_z w128 (of_z w128 (y *ℤ z)) ≡ p +ℤ (pos t *ℤ (run.reserve_adder +ℤ run.reliability_adder))
    raised_is = ap₂ (λ (a b : ℤ). a +ℤ b) px (to_z-of_z w128 _ added_fits ∙ added_is)

    pub raised_fits : SFits w128 (x +ℤ to_z w128 (of_z w128 (y *ℤ z)))
    raised_fits = subst (SFits w128) (sym raised_is) (let w = added_within in omega (arith, ints, w.low, w.high, prices.low, prices.high))

    module _ (s : ℤ) (is : s ≡ pos run.seconds) where
      timed_is : to_z w128 (of_z w128 (x +ℤ to_z w128 (of_z w128 (y *ℤ z)))) *ℤ s ≡ (p +ℤ (pos t *ℤ (run.reserve_adder +ℤ run.reliability_adder))) *ℤ pos run.seconds
      timed_is = ap₂ (λ (a b : ℤ). a *ℤ b) (to_z-of_z w128 _ raised_fits ∙ raised_is) is

      pub timed_fits : SFits w128 (to_z w128 (of_z w128 (x +ℤ to_z w128 (of_z w128 (y *ℤ z)))) *ℤ s)
      timed_fits = subst (SFits w128) (sym timed_is) (let w = part_within in omega (arith, ints, w.low, w.high))

      pub part_is : to_z w128 (of_z w128 (to_z w128 (of_z w128 (x +ℤ to_z w128 (of_z w128 (y *ℤ z)))) *ℤ s)) ≡ (p +ℤ (pos t *ℤ (run.reserve_adder +ℤ run.reliability_adder))) *ℤ pos run.seconds
      part_is = to_z-of_z w128 _ timed_fits ∙ timed_is
