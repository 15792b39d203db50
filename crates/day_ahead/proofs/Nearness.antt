-- A price is near the exact price.
use Rattle.std.proofs.Common.{◌≡◌, ℕ, zero, suc, ◌+◌, ◌*◌, ◌<◌, Bool, true, false, cond, eqb, ℤ, pos, ◌+ℤ◌, ◌-ℤ◌, ◌*ℤ◌, Some, None, Ok, Err, Option, Result, sym, ap, ◌∙◌, subst, ⊎_elim, suc-mul, mul_comm, arith}
use lib.IntN.{+ℤ_idr, *ℤ_comm}
use Rattle.std.proofs.lemmas.Int.{ints}
use Rattle.std.proofs.lemmas.Nat.{mul-le}
use Rattle.std.proofs.lemmas.Bool.{cases_eq, eq-eqb, ne_eqb}
use Rattle.numbers.specs.Rounding.{half_up, Nearest}
use Rattle.numbers.proofs.Integers as I
use Rattle.numbers.proofs.Halves.{half_up_nearest}
use Rattle.hour.specs.declared.book.Book.{Book}
use Rattle.posting.specs.Grids.{Grid, Within}
use Rattle.weighting.specs.Views.{View}
use Rattle.weighting.specs.Meanings.{Meaning}
use Rattle.refusals.specs.declared.Refusal.{Refusal}
use Rattle.refusals.specs.declared.Refusal.TheVariants.{NoWeight}
use Rattle.weighted_sums.specs.Sums.{sum_z}
use Rattle.day_ahead.specs.Prices.{base_case, case_under, shadow_price, weighted_factors, contribution_at, contribution, in_cents, price_at, day_ahead_price}
use Rattle.day_ahead.specs.Exact.{Fraction, plus, with_term, exactly, deviation, NearPrice, NearExact}
use Rattle.weighted_sums.proofs.Withins.{within_more, within_add, within_sub, within_mul, within_pos}

-- twice the sum s and twice the fraction a, both times its bottom, are at most n bottoms apart
record Near (n : ℕ) (s : ℤ) (a : Fraction) : Type 0 where
  above : 0 < a.bottom
  close : Within (n * a.bottom) (pos 2 *ℤ ((s *ℤ pos a.bottom) -ℤ a.top))

near_more : (n : ℕ) (s : ℤ) (a : Fraction) → Near n s a → Near (suc n) s a
near_more n s a w = record {
  above = w.above;
  close = within_more (n * a.bottom) (suc n * a.bottom) (pos 2 *ℤ ((s *ℤ pos a.bottom) -ℤ a.top)) (omega (arith, suc-mul n a.bottom)) w.close;
}

-- the sum and the fraction with one term more
split : (s r x t : ℤ) (m d : ℕ) → ((s +ℤ r) *ℤ pos (m * d)) -ℤ ((t *ℤ pos d) +ℤ (x *ℤ pos m)) ≡ (((s *ℤ pos m) -ℤ t) *ℤ pos d) +ℤ (((r *ℤ pos d) -ℤ x) *ℤ pos m)
split s r x t m d =
    omega (
      arith,
      ints,
      I.add_mul s r (pos (m * d)),
      I.mul_assoc s (pos m) (pos d),
      I.mul_assoc r (pos d) (pos m),
      ap (λ (n : ℕ). r *ℤ pos n) (mul_comm m d),
      I.sub_mul (s *ℤ pos m) t (pos d),
      I.sub_mul (r *ℤ pos d) x (pos m),
    )

near_plus : (n : ℕ) (s x : ℤ) (a : Fraction) (d : ℕ) → 0 < d → Near n s a → Near (suc n) (s +ℤ half_up x d) (plus a x d)
near_plus n s x a d l w =
    let r = half_up x d in
    let m = a.bottom in
    let e = half_up_nearest x d l in
    let one : Within d (pos 2 *ℤ ((r *ℤ pos d) -ℤ x)) = record { low = omega (arith, ints, I.mul_sub (pos 2) (r *ℤ pos d) x, e.high); high = omega (arith, ints, I.mul_sub (pos 2) (r *ℤ pos d) x, e.low) } in
    let parts : pos 2 *ℤ (((s +ℤ r) *ℤ pos (m * d)) -ℤ ((a.top *ℤ pos d) +ℤ (x *ℤ pos m))) ≡ ((pos 2 *ℤ ((s *ℤ pos m) -ℤ a.top)) *ℤ pos d) +ℤ ((pos 2 *ℤ ((r *ℤ pos d) -ℤ x)) *ℤ pos m) =
    omega (arith, ints, split s r x a.top m d, I.mul_assoc (pos 2) ((s *ℤ pos m) -ℤ a.top) (pos d), I.mul_assoc (pos 2) ((r *ℤ pos d) -ℤ x) (pos m)) in
    let above = mul-le 1 1 m d (omega (arith, w.above)) (omega (arith, l)) in
    record {
      above = omega (arith, above);
      close = subst (Within (suc n * (m * d))) (sym parts)
          (within_more (n * m * d + d * m) (suc n * (m * d)) _ (omega (arith, suc-mul n (m * d), mul_comm m d, native.Mathlib.Nat.mul_assoc n m d))
          (within_add (n * m * d) (d * m) _ _ (within_mul (n * m) d (pos 2 *ℤ ((s *ℤ pos m) -ℤ a.top)) (pos d) w.close (within_pos d d (omega arith))) (within_mul d m (pos 2 *ℤ ((r *ℤ pos d) -ℤ x)) (pos m) one (within_pos m m (omega arith)))));
    }

module _ (m : Meaning) (p : Grid) where
  near_term : (n : ℕ) (s : ℤ) (a : Fraction) (v : View) (k : ℕ) (o : Option ℤ) → Near n s a → Near (suc n) (s +ℤ contribution_at m p v k o) (with_term m p a v k o)
  near_term n s a v k None w = subst (λ (x : ℤ). Near (suc n) x a) (sym (+ℤ_idr s)) (near_more n s a w)
  near_term n s a v k (Some price) w =
      let x = weighted_factors m p v k *ℤ price in
      ⊎_elim
      (λ (z : m.total v ≡ 0).
      subst (λ (b : Bool). Near (suc n) (s +ℤ cond b (pos 0) (half_up x (m.total v))) (cond b a (plus a x (m.total v)))) (sym (eq-eqb (m.total v) 0 z))
      (subst (λ (y : ℤ). Near (suc n) y a) (sym (+ℤ_idr s)) (near_more n s a w)))
      (λ (z : m.total v ≡ 0 → ⊥).
      subst (λ (b : Bool). Near (suc n) (s +ℤ cond b (pos 0) (half_up x (m.total v))) (cond b a (plus a x (m.total v)))) (sym (ne_eqb (m.total v) 0 z))
      (near_plus n s x a (m.total v) (omega arith) w))
      (cases_eq (m.total v) 0)

  near_sum : (book : Book) (n : ℕ) → Near n (sum_z (contribution m p book) n) (exactly m p book n)
  unfolding sum_z exactly contribution
  near_sum book zero = record { above = omega arith; close = record { low = omega (arith, ints); high = omega (arith, ints) } }
  near_sum book (suc n) = near_term n (sum_z (contribution m p book) n) (exactly m p book n) (case_under book n) n (shadow_price book n) (near_sum book n)

-- the price that an accepted answer holds
abbrev refused : Result ℤ Refusal
refused = Err NoWeight

abbrev granted : ℤ → Result ℤ Refusal
granted x = Ok x

answer_is : (b : Bool) (x v : ℤ) → cond b refused (granted x) ≡ granted v → x ≡ v
answer_is false x v e = cc
answer_is true x v e = let z : ◌≡◌ {A = ℕ} 0 1 = cc in absurd (omega arith)

last_split : (l s v t : ℤ) (m : ℕ) → (pos 1000000 *ℤ (v *ℤ pos m)) -ℤ ((l *ℤ pos m) -ℤ t) ≡ (((v *ℤ pos 1000000) -ℤ (l -ℤ s)) *ℤ pos m) -ℤ ((s *ℤ pos m) -ℤ t)
last_split l s v t m =
    omega (arith, ints, I.mul_assoc (pos 1000000) v (pos m), ap (λ (y : ℤ). y *ℤ pos m) (*ℤ_comm (pos 1000000) v), I.sub_mul l s (pos m), I.sub_mul (v *ℤ pos 1000000) (l -ℤ s) (pos m))

near_price : (l s v : ℤ) (a : Fraction) → v ≡ in_cents l s → Near 32 s a → NearPrice l v a
near_price l s v a e w =
    let m = a.bottom in
    let k = subst (Nearest (l -ℤ s) 1000000) (sym e) (half_up_nearest (l -ℤ s) 1000000 (omega arith)) in
    let x = (v *ℤ pos 1000000) -ℤ (l -ℤ s) in
    let one : Within 1000000 (pos 2 *ℤ x) = record { low = omega (arith, ints, k.high); high = omega (arith, ints, k.low) } in
    let parts : pos 2 *ℤ deviation l v a ≡ ((pos 2 *ℤ x) *ℤ pos m) -ℤ (pos 2 *ℤ ((s *ℤ pos m) -ℤ a.top)) =
    omega (arith, ints, last_split l s v a.top m, I.mul_assoc (pos 2) x (pos m)) in
    record {
      bottom_above_zero = w.above;
      close = subst (Within (1000032 * m)) (sym parts)
          (within_more (1000000 * m + 32 * m) (1000032 * m) _ (omega arith) (within_sub (1000000 * m) (32 * m) _ _ (within_mul 1000000 m (pos 2 *ℤ x) (pos m) one (within_pos m m (omega arith))) w.close));
    }

pub near_exact : (m : Meaning) (p : Grid) (book : Book) (r : Result ℤ Refusal) → r ≡ day_ahead_price m p book → NearExact m p book r
near_exact m p book r is l v set got =
    near_price l (sum_z (contribution m p book) 32) v (exactly m p book 32)
    (sym (answer_is (eqb (m.total (base_case book)) 0) (in_cents l (sum_z (contribution m p book) 32)) v (sym (ap (price_at m p book) set) ∙ sym is ∙ got)))
    (near_sum m p book 32)
