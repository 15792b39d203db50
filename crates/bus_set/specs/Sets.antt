-- Sets of buses as four words of 64 bits, and how many buses a set has.
use Rattle.std.specs.Prelude.{◌≡◌, ℕ, zero, suc, ◌+◌, ◌-◌, ◌/◌, ◌%◌, ◌^◌, ◌<◌, Bool, true, false, cond, ◌&&◌, List, length, ◌==◌, bit_and, bit_or, nat_lt, slice_index, slice_set}

abbrev pub is_word : List ℕ → ℕ → Bool
is_word words i = nat_lt (slice_index words i) (2 ^ 64)

-- whether a list is four words of 64 bits
abbrev pub four_words : List ℕ → Bool
four_words words = length words == 4 && (is_word words 0 && (is_word words 1 && (is_word words 2 && is_word words 3)))

-- whether bit k of a word is set
unfoldable pub bit : ℕ → ℕ → Bool
bit w k = w / 2 ^ k % 2 == 1

-- whether bus b is in the set: bit b % 64 of word b / 64
abbrev pub member : List ℕ → ℕ → Bool
member words b = bit (slice_index words (b / 64)) (b % 64)

-- the buses of the set are those that pass the test
abbrev pub SetOf : (ℕ → Bool) → List ℕ → Type 0
SetOf test words = (b : ℕ) → b < 256 → member words b ≡ test b

-- at how many numbers below n the test passes
unfoldable pub count_below : (ℕ → Bool) → ℕ → ℕ
count_below test zero = 0
count_below test (suc n) = count_below test n + cond (test n) 1 0

-- a word with its bit k set or cleared
abbrev pub with_bit : ℕ → ℕ → Bool → ℕ
with_bit w k true = bit_or w (2 ^ k)
with_bit w k false = bit_and w (2 ^ 64 - 1 - 2 ^ k)

-- the set with bus b in it or not
abbrev pub marked : List ℕ → ℕ → Bool → List ℕ
marked words b on = slice_set words (b / 64) (with_bit (slice_index words (b / 64)) (b % 64) on)
