-- Numbers held to their limits.
use Rattle.std.specs.Prelude.{◌≡◌, ℕ, ◌≤◌, Bool, cond, ℤ, pos, negsuc, Some, None, Option, Result, MatchResult, nat_le, unsigned_abs}

-- the number, where it is 0 to n
abbrev pub up_to : ℤ → ℕ → Option ℕ
up_to (pos k) n = cond (nat_le k n) (Some k) None
up_to (negsuc k) n = None

-- the answer is the number, where it is 0 to n, or else the refusal
abbrev pub UpTo : {E : Type 0} → ℤ → ℕ → E → Result ℕ E → Type 0
UpTo z n refusal r = MatchResult r (λ k. (up_to z n ≡ Some k) × (k ≤ n)) (λ e. (up_to z n ≡ None) × (e ≡ refusal))

-- whether a number is at most n away from 0
abbrev pub within : ℤ → ℕ → Bool
within z n = nat_le (unsigned_abs z) n
