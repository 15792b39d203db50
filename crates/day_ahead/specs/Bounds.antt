-- How far from 0 contributions can be, so that their words are wide enough.
use Rattle.std.specs.Prelude.{ℕ}

-- weighted factors of 5,120,000,000,000 times a shadow price of 1,000,000, over the total weight, rounded
abbrev pub most_contribution : ℕ
most_contribution = 6000000000000000000

-- of 32 constraints
abbrev pub most_contributions : ℕ
most_contributions = 192000000000000000000
