-- The limits of an hour's numbers.
use Rattle.std.specs.Prelude.{ℕ}

abbrev pub last_bus : ℕ
last_bus = 255

abbrev pub last_hub_bus : ℕ
last_hub_bus = 155

abbrev pub last_zone : ℕ
last_zone = 16

-- tenths of a megawatt
abbrev pub most_load : ℕ
most_load = 10000

abbrev pub last_constraint : ℕ
last_constraint = 31

-- cents, either way from 0
abbrev pub most_shadow_price : ℕ
most_shadow_price = 1000000

-- fine units, a million to the cent, either way from 0
abbrev pub most_lambda : ℕ
most_lambda = 100000000000000

abbrev pub last_run : ℕ
last_run = 15

-- cents, either way from 0
abbrev pub most_adder : ℕ
most_adder = 1000000

-- the seconds of all runs together
abbrev pub most_seconds : ℕ
most_seconds = 900

-- the buses of one hub bus, live or dead
abbrev pub most_buses : ℕ
most_buses = 8
