-- The posted numbers of the worked hours.
use Rattle.std.specs.Prelude.{ℕ, ◌+◌, ◌*◌, List, replicate, ℤ, pos, slice_set}
use Rattle.posting.specs.Limits.{buses, columns}

-- a table of zeros
abbrev pub blank : List ℤ
blank = replicate (columns * buses) (pos 0)

-- with this number of a bus in a column
abbrev pub put : ℕ → ℕ → ℤ → List ℤ → List ℤ
put bus column z numbers = slice_set numbers (column * buses + bus) z

-- shift factors in millionths under constraint 0
abbrev pub factors_n : List ℤ
factors_n = put 21 0 (pos 500000) (put 20 0 (pos 100000) (put 2 0 (pos 200000) (put 1 0 (pos 100000) (put 0 0 (pos 400000) blank))))

abbrev pub factors_with_bus10 : List ℤ
factors_with_bus10 = put 10 0 (pos 50000) factors_n

-- bus 5 has the least factor above 0
abbrev pub tie_factor : List ℤ
tie_factor = put 5 0 (pos 1) blank

-- prices of bus 0 in cents, in run 0 and run 1
abbrev pub run_prices : ℤ → ℤ → List ℤ
run_prices first second = put 0 1 second (put 0 0 first blank)
