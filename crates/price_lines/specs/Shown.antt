-- What price lines show: for each point that is listed, what the pricing call answers.
use Rattle.std.specs.Prelude.{◌≡◌, ℕ, ◌<◌, ◌≤◌, ◌⊎◌, List, [], ◌∷◌, map, ℤ, pos, ◌<ℤ◌, Result}
use Rattle.std.specs.List.{flat_map, ContainsAt as Has, AllByRecursion}
use Rattle.refusals.specs.declared.Refusal.{Refusal}
use Rattle.hour.specs.Hour.{Hour, bus_at}
use Rattle.weighting.specs.Hubs.{hub_number}
use Rattle.weighting.specs.Meanings.{Meaning}
use Rattle.weighting.specs.declared.hubs.Hub.{Hub}
use Rattle.weighting.specs.declared.points.Kind.{Kind}
use Rattle.weighting.specs.declared.points.Kind.TheVariants as kind
use Rattle.weighting.specs.declared.points.Point.{Point}
use Rattle.pricing.specs.Origins.{Priced}
use Rattle.pricing.specs.Points.{PricedAt}
use Rattle.price_lines.specs.Lines.{line}

-- a point, and its price with its origin or why there is none
pub record Entry : Type 0 where
  pub point : Point
  pub answer : Priced

abbrev pub entry_line : Entry → List ℕ
entry_line e = line e.point e.answer

-- some bus is placed in the zone, live or dead
abbrev pub PlacedIn : Hour → ℕ → Type 0
PlacedIn h zone = (b : ℕ) × (b < 256) × ((bus_at h b).zone ≡ zone)

-- the hubs, and the zones 1 to 16 in which a bus is placed
abbrev pub Listed : Hour → Kind → ℤ → Type 0
Listed h kind.Hub z = (hub : Hub) × (z ≡ pos (hub_number hub))
Listed h kind.Zone z = (zone : ℕ) × (z ≡ pos zone) × (1 ≤ zone) × (zone ≤ 16) × PlacedIn h zone
Listed h kind.Tie z = ⊥

abbrev pub rank : Kind → ℕ
rank kind.Hub = 0
rank kind.Zone = 1
rank kind.Tie = 2

-- hubs before zones, and points of one kind by number
abbrev pub Before : Point → Point → Type 0
Before p q = (rank p.kind < rank q.kind) ⊎ ((p.kind ≡ q.kind) × (p.number <ℤ q.number))

abbrev pub Ascending : List Entry → Type 0
Ascending [] = Unit {0}
Ascending (e ∷ es) = AllByRecursion (λ f. Before e.point f.point) es × Ascending es

-- the text is one line for each listed point and no other, in ascending order, each with what the pricing call answers for it
pub record Shows (price : Meaning → Result ℤ Refusal) (h : Hour) (text : List ℕ) : Type 0 where
  pub lines : List Entry
  pub whole : text ≡ flat_map entry_line lines
  pub answers : AllByRecursion (λ e. PricedAt price e.point e.answer) lines
  pub listed : AllByRecursion (λ e. Listed h e.point.kind e.point.number) lines
  pub every : (p : Point) → Listed h p.kind p.number → Has (map (λ (e : Entry). e.point) lines) p
  pub ascending : Ascending lines
