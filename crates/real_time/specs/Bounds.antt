-- How far from 0 the sums can be, so that their words are wide enough.
use Rattle.std.specs.Prelude.{ℕ}

-- a weighted price sum of 5,120,000,000,000 with both adders of 1,000,000, times any seconds of 16 bits
abbrev pub most_part : ℕ
most_part = 680000000000000000

-- of sixteen runs
abbrev pub most_sum : ℕ
most_sum = 10880000000000000000
