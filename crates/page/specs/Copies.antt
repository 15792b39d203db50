-- What a copy does to a caller's buffer.
use Rattle.std.specs.Prelude.{◌≡◌, ℕ, ◌<◌, ◌≤◌, List, ◌++◌, length, drop, Result, MatchResult}
use Rattle.refusals.specs.declared.Refusal.{Refusal}
use Rattle.refusals.specs.declared.Refusal.TheVariants.{BufferShort}

-- the text in front, and later bytes as they were; or, where the buffer is shorter than the text, all as it was
abbrev pub Copies : List ℕ → List ℕ → List ℕ → Result ℕ Refusal → Type 0
Copies text was is r =
    MatchResult r
    (λ n. (n ≡ length text) × (n ≤ length was) × (is ≡ text ++ drop n was))
    (λ e. (e ≡ BufferShort) × (length was < length text) × (is ≡ was))
