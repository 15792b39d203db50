-- Which buses are live, in the base case and under a constraint, and how many of a hub bus.
use Rattle.std.specs.Prelude.{◌≡◌, ℕ, ◌<◌, ◌≤◌, Bool, true, not, ◌&&◌}
use Rattle.bus_set.specs.Sets.{member, count_below}
use Rattle.hour.specs.Limits.{most_buses}
use Rattle.hour.specs.Sound.{in_hub_bus}
use Rattle.hour.specs.Hour.{Hour, bus_at, constraint_at, out_of}
use Rattle.hour.specs.declared.records.Bus.{Bus}
use Rattle.hour.specs.declared.records.Market.{Market}
use Rattle.hour.specs.declared.records.Market.TheVariants.{DayAhead, RealTime}

abbrev pub is_live : Market → Bus → Bool
is_live DayAhead b = b.day_ahead.live
is_live RealTime b = b.real_time.live

-- live in the base case of a market
abbrev pub base_live : Hour → Market → ℕ → Bool
base_live h m b = is_live m (bus_at h b)

-- out under the constraint k
abbrev pub is_out : Hour → ℕ → ℕ → Bool
is_out h k b = member (out_of (constraint_at h k)) b

-- live under the constraint k: live in the day-ahead base case, and not out
abbrev pub live_under : Hour → ℕ → ℕ → Bool
live_under h k b = base_live h DayAhead b && not (is_out h k b)

-- whether bus b belongs to the hub bus k
abbrev pub belongs : Hour → ℕ → ℕ → Bool
belongs h k b = in_hub_bus k (bus_at h b)

-- how many of the live buses belong to the hub bus k
abbrev pub live_count : Hour → (ℕ → Bool) → ℕ → ℕ
live_count h live k = count_below (λ b. live b && belongs h k b) 256

-- a count of live buses that a live bus of the hub bus k can be divided by
pub record Divides (h : Hour) (live : ℕ → Bool) (k n : ℕ) : Type 0 where
  pub most : 0 < k → n ≤ most_buses
  pub least : (b : ℕ) → b < 256 → live b ≡ true → (bus_at h b).hub_bus ≡ k → 1 ≤ n
