-- Numbers from 0 to 255, one for each entry of a table.
use Rattle.std.proofs.Common.{◌≡◌, ℕ, ◌-◌, ◌<◌, Bool, true, false, refl, arith}
use Rattle.std.specs.declared.ops.RangeInclusive.{RangeInclusive}
use Rattle.std.specs.Range.{range_inclusive_len, range_inclusive_left}

-- how many numbers are left
abbrev pub left_of : RangeInclusive ℕ → ℕ
left_of r = range_inclusive_left (λ a b. b - a) r

pub left_first : (r : RangeInclusive ℕ) → r.start ≡ 0 → r.end ≡ 255 → r.exhausted ≡ false → left_of r ≡ 256
left_first r first last more = rw (first, last, more) refl

pub left_more : (r : RangeInclusive ℕ) → 0 < left_of r → r.exhausted ≡ false
left_more r more = unspent r.exhausted more
  where
    unspent : (x : Bool) → 0 < range_inclusive_len (λ a b. b - a) r.start r.end x → x ≡ false
    unspent true some = absurd (omega arith)
    unspent false some = refl
