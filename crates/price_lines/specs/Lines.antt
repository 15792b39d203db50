-- The lines that show prices: one for each hub, then one for each load zone in which a bus is placed.
use Rattle.std.specs.Prelude.{ℕ, zero, suc, Bool, false, cond, ◌||◌, List, [], ◌∷◌, ◌++◌, ℤ, pos, Ok, Err, decimal, Result, nat_eq}
use Rattle.std.specs.List.{flat_map}
use Rattle.std.specs.Fmt.{signed_decimal}
use Rattle.refusals.specs.Numbers.{number}
use Rattle.refusals.specs.declared.Refusal.{Refusal}
use Rattle.hour.specs.Hour.{Hour, entries, bus_at}
use Rattle.hour.specs.declared.book.Book.{Book}
use Rattle.posting.specs.Grids.{Grid}
use Rattle.day_ahead.specs.Prices.{day_ahead_price}
use Rattle.weighting.specs.Hubs.{hub_number}
use Rattle.weighting.specs.Meanings.{Meaning}
use Rattle.weighting.specs.Zones.{zone_meaning}
use Rattle.weighting.specs.declared.hubs.Hub.{Hub}
use Rattle.weighting.specs.declared.hubs.Hub.TheVariants.{North, South, Houston, West, Panhandle, Average}
use Rattle.weighting.specs.declared.points.Kind.{Kind}
use Rattle.weighting.specs.declared.points.Kind.TheVariants as kind
use Rattle.weighting.specs.declared.points.Point.{Point}
use Rattle.pricing.specs.Origins.{Priced, letter, own_price}
use Rattle.pricing.specs.Points.{hub_priced}

-- the letters H, Z and T
abbrev pub kind_letter : Kind → ℕ
kind_letter kind.Hub = 72
kind_letter kind.Zone = 90
kind_letter kind.Tie = 84

-- P, the letter of the kind and the number, with commas between
abbrev pub point_fields : Point → List ℕ
point_fields p = 80 ∷ 44 ∷ kind_letter p.kind ∷ 44 ∷ signed_decimal p.number

-- the cents and the letter of their origin; or R and the number of the refusal
abbrev pub price_fields : Priced → List ℕ
price_fields (Ok p) = signed_decimal p.0 ++ (44 ∷ letter p.1 ∷ [])
price_fields (Err e) = 82 ∷ 44 ∷ decimal (number e)

-- the line of a point and its answer, ended by byte 10
unfoldable pub line : Point → Priced → List ℕ
line p priced = point_fields p ++ (44 ∷ (price_fields priced ++ (10 ∷ [])))

-- a hub, and a zone, as someone names them
abbrev pub hub_point : Hub → Point
hub_point hub = record { kind = kind.Hub; number = pos (hub_number hub) }

abbrev pub zone_point : ℕ → Point
zone_point zone = record { kind = kind.Zone; number = pos zone }

-- ascending by number
abbrev pub hubs : List Hub
hubs = North ∷ South ∷ Houston ∷ West ∷ Panhandle ∷ Average ∷ []

-- whether the test passes at some number below n
unfoldable pub any_below : (ℕ → Bool) → ℕ → Bool
any_below test zero = false
any_below test (suc n) = test n || any_below test n

-- whether some bus is placed in the zone, live or dead
abbrev pub has_bus : Hour → ℕ → Bool
has_bus h zone = any_below (λ b. nat_eq (bus_at h b).zone zone) 256

-- the zones 1 to n that have a bus, ascending
unfoldable pub zones_to : Hour → ℕ → List ℕ
zones_to h zero = []
zones_to h (suc n) = zones_to h n ++ cond (has_bus h (suc n)) (suc n ∷ []) []

module _ (price : Meaning → Result ℤ Refusal) where
  -- with the average's price where the hub has no live weight
  abbrev pub hub_line : Hub → List ℕ
  hub_line hub = line (hub_point hub) (hub_priced price hub)

  -- only with the zone's own price
  abbrev pub zone_line : ℕ → List ℕ
  zone_line zone = line (zone_point zone) (own_price (price (zone_meaning zone)))

  -- of a zone, where it has a bus
  abbrev pub zone_text : Hour → ℕ → List ℕ
  zone_text h zone = cond (has_bus h zone) (zone_line zone) []

  -- the hubs, then the zones that have a bus
  abbrev pub priced_lines : Hour → List ℕ
  priced_lines h = flat_map hub_line hubs ++ flat_map zone_line (zones_to h 16)

-- the day-ahead prices of a book, with the posted numbers as shift factors
abbrev pub day_ahead : Book → Grid → Meaning → Result ℤ Refusal
day_ahead book factors meaning = day_ahead_price meaning factors book

-- the whole text
unfoldable pub price_lines : Book → Grid → List ℕ
price_lines book factors = priced_lines (day_ahead book factors) (entries book)
