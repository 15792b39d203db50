-- What the weights of a hub, a load zone and a tie are, in the words of the desk.
use Rattle.std.specs.Prelude.{◌≡◌, ℕ, ◌*◌, ◌<◌, true, false, cond, ◌&&◌, List, ◌==◌, ◌≢◌, slice_index}
use Rattle.weighting.specs.Sums.{sum_below}
use Rattle.weighting.specs.Views.{View}
use Rattle.weighting.specs.Hubs.{unit, of_hub, live_of, live_hub_buses}
use Rattle.weighting.specs.declared.hubs.Hub.{Hub}

pub record HubShares (hub : Hub) (v : View) (r : List ℕ) : Type 0 where
  -- the live buses of one hub bus share its 840 evenly
  pub shares_evenly : (b : ℕ) → b < 256 → v.live b ≡ true → of_hub hub (v.hub_bus b) ≡ true → slice_index r b * live_of v (v.hub_bus b) ≡ unit
  -- every other bus weighs nothing
  pub others_nothing : (b : ℕ) → b < 256 → (v.live b && of_hub hub (v.hub_bus b)) ≡ false → slice_index r b ≡ 0
  -- the buses of one hub bus of the hub weigh 840 together, if one of them is live
  pub each_hub_bus : (k : ℕ) → of_hub hub k ≡ true → 0 < live_of v k → sum_below (λ b. cond (v.hub_bus b == k) (slice_index r b) 0) 256 ≡ unit
  -- all weights are 840 for each hub bus of the hub with a live bus
  pub all : sum_below (λ b. slice_index r b) 256 ≡ unit * live_hub_buses hub v

pub record ZoneShares (zone : ℕ) (v : View) (r : List ℕ) : Type 0 where
  pub live_of_zone : (b : ℕ) → b < 256 → v.live b ≡ true → v.zone b ≡ zone → slice_index r b ≡ v.load b
  pub dead : (b : ℕ) → b < 256 → v.live b ≡ false → slice_index r b ≡ 0
  pub elsewhere : (b : ℕ) → b < 256 → (v.zone b ≢ zone) → slice_index r b ≡ 0

pub record TieShares (bus : ℕ) (v : View) (r : List ℕ) : Type 0 where
  pub live : v.live bus ≡ true → slice_index r bus ≡ 1
  pub dead : v.live bus ≡ false → slice_index r bus ≡ 0
  pub elsewhere : (b : ℕ) → b < 256 → (b ≢ bus) → slice_index r b ≡ 0
