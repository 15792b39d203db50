-- The whole number that a field writes: base ten, one to fifteen digits, no plus, no leading zero, and a minus only before a number other than 0.
use Rattle.std.specs.Prelude.{ℕ, zero, suc, ◌+◌, ◌-◌, ◌*◌, Bool, cond, not, ◌&&◌, ◌||◌, List, [], ◌∷◌, length, drop, ℤ, pos, negsuc, Ok, Err, Result, ◌==◌, nat_le, nat_lt, slice_index}
use Rattle.std.specs.Char.{is_ascii_digit}
use Rattle.faults.specs.declared.Malformed.{Malformed}
use Rattle.faults.specs.Faults.{malformed}

-- the number that n makes with further digits
abbrev pub digits_on : ℕ → List ℕ → Result ℕ Malformed
digits_on n [] = Ok n
digits_on n (d ∷ ds) = cond (is_ascii_digit d) (digits_on (n * 10 + (d - 48)) ds) (Err malformed)

-- one to fifteen bytes, of which the first is no 0 unless it is the only one
abbrev pub shaped : List ℕ → Bool
shaped ds = nat_lt 0 (length ds) && (nat_le (length ds) 15 && (not (slice_index ds 0 == 48) || length ds == 1))

-- the number that digits write
unfoldable pub natural_of : List ℕ → Result ℕ Malformed
natural_of ds = cond (shaped ds) (digits_on 0 ds) (Err malformed)

-- a number after a minus
abbrev pub negative : Result ℕ Malformed → Result ℤ Malformed
negative (Err e) = Err e
negative (Ok zero) = Err malformed
negative (Ok (suc n)) = Ok (negsuc n)

-- and with none before it
abbrev pub positive : Result ℕ Malformed → Result ℤ Malformed
positive (Err e) = Err e
positive (Ok n) = Ok (pos n)

-- byte 45 is the minus
unfoldable pub decimal_of : List ℕ → Result ℤ Malformed
decimal_of bs = cond (slice_index bs 0 == 45) (negative (natural_of (drop 1 bs))) (positive (natural_of bs))
