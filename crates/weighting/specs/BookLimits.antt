-- What every book's limits say of its buses one by one.
use Rattle.std.specs.Prelude.{◌≡◌, ℕ, ◌<◌, ◌≤◌, true, ◌&&◌, length, nat_eq, nat_le}
use Rattle.std.proofs.Common.{sym, subst, ⊎_elim, arith}
use Rattle.std.proofs.lemmas.List.{get_or_past}
use Rattle.std.proofs.lemmas.Bool.{and_parts, leb-true, cases_lt}
use Rattle.bus_set.specs.Sets.{count_below}
use Rattle.bus_set.proofs.Counts.{count_list}
use Rattle.hour.specs.Limits.{last_hub_bus, last_zone, most_load, most_buses}
use Rattle.hour.specs.Sound.{bus_sound, in_hub_bus}
use Rattle.hour.specs.Hour.{entries, bus_at, no_bus}
use Rattle.hour.specs.declared.records.Bus.{Bus}
use Rattle.hour.specs.declared.records.Market.{Market}
use Rattle.hour.specs.declared.records.Market.TheVariants.{DayAhead, RealTime}
use Rattle.hour.specs.declared.book.Book.{Book}
use Rattle.hour.proofs.Tables.{all_by_get_d}

abbrev pub load_in : Market → Bus → ℕ
load_in DayAhead b = b.day_ahead.load
load_in RealTime b = b.real_time.load

load_sound : (m : Market) (b : Bus) → bus_sound b ≡ true → load_in m b ≤ most_load
load_sound m b h =
    let hub = nat_le b.hub_bus last_hub_bus in
    let area = nat_le b.zone last_zone in
    let day = nat_le b.day_ahead.load most_load in
    let real = nat_le b.real_time.load most_load in
    let loads = and_parts day real (and_parts area (day && real) (and_parts hub (area && (day && real)) h).1).1 in
    by_market m b (leb-true b.day_ahead.load most_load loads.0) (leb-true b.real_time.load most_load loads.1)
  where
    by_market : (m : Market) (b : Bus) → b.day_ahead.load ≤ most_load → b.real_time.load ≤ most_load → load_in m b ≤ most_load
    by_market DayAhead b d r = d
    by_market RealTime b d r = r

no_load : (m : Market) → load_in m no_bus ≤ most_load
no_load DayAhead = omega arith
no_load RealTime = omega arith

pub load_most : (book : Book) (m : Market) (b : ℕ) → load_in m (bus_at (entries book) b) ≤ most_load
load_most book m b = ⊎_elim
    (λ (inside : b < length book.buses). load_sound m (bus_at (entries book) b) (all_by_get_d bus_sound book.buses b no_bus inside book.sound))
    (λ (past : length book.buses ≤ b). subst (λ (x : Bus). load_in m x ≤ most_load) (sym (get_or_past book.buses b no_bus past)) (no_load m))
    (cases_lt b (length book.buses))

pub few_members : (book : Book) (k : ℕ) → 0 < k → count_below (λ b. nat_eq (bus_at (entries book) b).hub_bus k) 256 ≤ most_buses
few_members book k p = omega (arith, count_list (in_hub_bus k) book.buses no_bus 256 book.size, book.few k p)
