-- What a weighting sees of a case: which buses are live, and the hub bus, load zone and load of each.
use Rattle.std.specs.Prelude.{◌≡◌, ℕ, ◌<◌, ◌≤◌, Bool, true, nat_eq}
use Rattle.bus_set.specs.Sets.{member, SetOf, count_below}
use Rattle.hour.specs.Limits.{most_load, most_buses}
use Rattle.hour.specs.Hour.{entries, bus_at}
use Rattle.hour.specs.declared.records.Market.{Market}
use Rattle.hour.specs.declared.book.Book.{Book}
use Rattle.weighting.specs.declared.cases.Case.{Case}
use Rattle.weighting.specs.BookLimits.{load_in, load_most, few_members}

-- the limits come with it, since no book exists that breaks them
pub record View : Type 0 where
  pub live : ℕ → Bool
  pub hub_bus : ℕ → ℕ
  pub zone : ℕ → ℕ
  pub load : ℕ → ℕ
  pub load_most : (b : ℕ) → load b ≤ most_load
  pub few : (k : ℕ) → 0 < k → count_below (λ b. nat_eq (hub_bus b) k) 256 ≤ most_buses

-- the same live buses, each alike in hub bus, load zone and load
pub record Alike (v u : View) : Type 0 where
  pub live : (b : ℕ) → b < 256 → v.live b ≡ u.live b
  pub hub_bus : (b : ℕ) → b < 256 → v.live b ≡ true → v.hub_bus b ≡ u.hub_bus b
  pub zone : (b : ℕ) → b < 256 → v.live b ≡ true → v.zone b ≡ u.zone b
  pub load : (b : ℕ) → b < 256 → v.live b ≡ true → v.load b ≡ u.load b

-- a book in a market, with some buses live
abbrev pub view_of : Book → Market → (ℕ → Bool) → View
view_of book m live = record {
  live = live;
  hub_bus = λ b. (bus_at (entries book) b).hub_bus;
  zone = λ b. (bus_at (entries book) b).zone;
  load = λ b. load_in m (bus_at (entries book) b);
  load_most = load_most book m;
  few = few_members book;
}

abbrev pub view : Case → View
view c = view_of c.book.now c.market (member c.live)

-- the case of a book in a market, with these buses live; weightings see it as the view of these
pub record CaseOf (book : Book) (m : Market) (live : ℕ → Bool) (c : Case) : Type 0 where
  pub book_is : c.book.now ≡ book
  pub market_is : c.market ≡ m
  pub live_is : SetOf live c.live
  pub alike : Alike (view c) (view_of book m live)
