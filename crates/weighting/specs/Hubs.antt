-- A live bus of a hub weighs 840 divided by the live buses of its hub bus.
use Rattle.std.specs.Prelude.{ℕ, ◌*◌, ◌/◌, Bool, cond, ◌&&◌, ◌==◌, nat_le, nat_lt}
use Rattle.bus_set.specs.Sets.{count_below}
use Rattle.weighting.specs.Views.{View}
use Rattle.weighting.specs.declared.hubs.Hub.{Hub}
use Rattle.weighting.specs.declared.hubs.Hub.TheVariants.{North, South, Houston, West, Panhandle, Average}

-- the weight of one hub bus, which its live buses share evenly: 1 to 8 divide it
abbrev pub unit : ℕ
unit = 840

abbrev pub hub_number : Hub → ℕ
hub_number North = 1
hub_number South = 2
hub_number Houston = 3
hub_number West = 4
hub_number Panhandle = 5
hub_number Average = 6

-- the first and the last hub bus of a hub; the average takes all but Panhandle's
abbrev pub first_of : Hub → ℕ
first_of North = 1
first_of South = 76
first_of Houston = 107
first_of West = 127
first_of Panhandle = 144
first_of Average = 1

abbrev pub last_of : Hub → ℕ
last_of North = 75
last_of South = 106
last_of Houston = 126
last_of West = 143
last_of Panhandle = 155
last_of Average = 143

abbrev pub of_hub : Hub → ℕ → Bool
of_hub hub k = nat_le (first_of hub) k && nat_le k (last_of hub)

-- how many live buses the hub bus k has
abbrev pub live_of : View → ℕ → ℕ
live_of v k = count_below (λ b. v.live b && v.hub_bus b == k) 256

abbrev pub hub_weight : Hub → View → ℕ → ℕ
hub_weight hub v b = cond (v.live b && of_hub hub (v.hub_bus b)) (unit / live_of v (v.hub_bus b)) 0

-- how many hub buses of the hub have a live bus
abbrev pub live_hub_buses : Hub → View → ℕ
live_hub_buses hub v = count_below (λ k. of_hub hub k && nat_lt 0 (live_of v k)) 156

abbrev pub hub_total : Hub → View → ℕ
hub_total hub v = unit * live_hub_buses hub v
