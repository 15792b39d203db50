-- A bus line entered by the calls of the book.
use Rattle.std.proofs.Common.{◌≡◌, ℕ, ◌^◌, ◌<◌, Bool, true, false, List, length, ℤ, pos, is_ok, IsErrAnd, Some, None, Ok, Err, Option, Result, sym, refl, ap, ◌∙◌, subst, arith, w64, to_z, of_z, MatchResult}
use Rattle.std.proofs.lemmas.List.{get_or-set_same, set-set}
use Rattle.std.proofs.lemmas.Int.{ints}
use Rattle.std.proofs.lemmas.Bool.{both_ways}
use Rattle.refusals.specs.declared.Refusal.{Refusal}
use Rattle.refusals.specs.declared.Refusal.TheVariants.{BusOutside, HubBusOutside, ZoneOutside, HubBusFull, LoadOutside}
use Rattle.faults.specs.declared.Spot.{Spot}
use Rattle.faults.specs.declared.Why.TheVariants.{Value}
use Rattle.bounds.specs.Bounds.{up_to}
use Rattle.hour.specs.Hour.{Hour, with_bus, bus_at, no_bus}
use Rattle.hour.specs.Steps.{Outcome, Did, given, refuse_if, is_full, placed, placed_in, status_set, load_set, with_status, with_load}
use Rattle.hour.specs.declared.records.Bus.{Bus}
use Rattle.hour.specs.declared.records.Market.{Market}
use Rattle.hour.specs.declared.records.Market.TheVariants.{DayAhead, RealTime}
use Rattle.hour.proofs.Tables.{up_to_is, up_to_low}
use Rattle.saved_rows.specs.Entering.{Given, valued, unless, bus_given, bus_put, Enters}
use Rattle.saved_rows.specs.declared.row.BusRow.{BusRow}

-- a call's argument as it comes to the callee
abbrev wide : ℤ → ℤ
wide z = to_z w64 (of_z w64 z)

wide_is : (z : ℤ) (m n : ℕ) → m < 2 ^ 16 → up_to z m ≡ Some n → up_to (wide z) m ≡ Some n
wide_is z m n low e =
    let is = up_to_is z m n e in
    let le = up_to_low z m n e in
    let back : wide (pos n) ≡ pos n = omega (arith, ints) in
    ap (λ (x : ℤ). up_to (wide x) m) is ∙ ap (λ (x : ℤ). up_to x m) (back ∙ sym is) ∙ e

pub valued_ok : {A B : Type 0} (f : ℕ) (e : Refusal) (o : Option A) (next : A → Result B Spot) → is_ok (valued f e o next) ≡ true → (x : A) × (o ≡ Some x) × (is_ok (next x) ≡ true)
valued_ok f e None next ok = absurd (both_ways false refl ok)
valued_ok f e (Some x) next ok = (x, refl, ok)

pub valued_is : {A B : Type 0} (f : ℕ) (e : Refusal) (o : Option A) (next : A → Result B Spot) (x : A) → o ≡ Some x → valued f e o next ≡ next x
valued_is f e o next x is = ap (λ (y : Option _). valued f e y next) is

given_is : {A : Type 0} (o : Option A) (e : Refusal) (next : A → Outcome) (x : A) → o ≡ Some x → given o e next ≡ next x
given_is o e next x is = ap (λ (y : Option _). given y e next) is

-- the values of a bus line that is in its limits
pub record Values (r : BusRow) (g : Given) : Type 0 where
  pub bus : up_to r.bus 255 ≡ Some g.bus
  pub hub : up_to r.hub_bus 155 ≡ Some g.entry.hub_bus
  pub zone : up_to r.zone 16 ≡ Some g.entry.zone
  pub day : up_to r.day_ahead_load 10000 ≡ Some g.entry.day_ahead.load
  pub real : up_to r.real_time_load 10000 ≡ Some g.entry.real_time.load
  pub day_live : r.day_ahead_live ≡ g.entry.day_ahead.live
  pub real_live : r.real_time_live ≡ g.entry.real_time.live
  pub is : bus_given r ≡ Ok g

pub values : (r : BusRow) → is_ok (bus_given r) ≡ true → (g : Given) × Values r g
values r ok =
    let a = valued_ok 2 BusOutside (up_to r.bus 255) _ ok in
    let b = valued_ok 3 HubBusOutside (up_to r.hub_bus 155) _ a.2 in
    let c = valued_ok 4 ZoneOutside (up_to r.zone 16) _ b.2 in
    let d = valued_ok 6 LoadOutside (up_to r.day_ahead_load 10000) _ c.2 in
    let e = valued_ok 8 LoadOutside (up_to r.real_time_load 10000) _ d.2 in (
      record {
        bus = a.0;
        entry = record { hub_bus = b.0; zone = c.0; day_ahead = record { live = r.day_ahead_live; load = d.0 }; real_time = record { live = r.real_time_live; load = e.0 } };
      },
      record {
        bus = a.1;
        hub = b.1;
        zone = c.1;
        day = d.1;
        real = e.1;
        day_live = refl;
        real_live = refl;
        is = valued_is 2 BusOutside (up_to r.bus 255) _ a.0 a.1 ∙ valued_is 3 HubBusOutside (up_to r.hub_bus 155) _ b.0 b.1 ∙ valued_is 4 ZoneOutside (up_to r.zone 16) _ c.0 c.1
            ∙ valued_is 6 LoadOutside (up_to r.day_ahead_load 10000) _ d.0 d.1 ∙ valued_is 8 LoadOutside (up_to r.real_time_load 10000) _ e.0 e.1;
      },
    )

did_ok : (o : Outcome) (x before after : Hour) (r : Result (Unit {0}) Refusal) → o ≡ Ok x → Did o before after r → (r ≡ Ok tt) × (after ≡ x)
did_ok o x before after r is d = subst (λ (y : Outcome). Did y before after r) is d

-- a bus written again
again : (h h₁ h₂ : Hour) (b : ℕ) (x : Bus) (change : Bus → Bus) → b < length h.buses → h₁ ≡ with_bus h b x → h₂ ≡ with_bus h₁ b (change (bus_at h₁ b)) → h₂ ≡ with_bus h b (change x)
again h h₁ h₂ b x change l e f =
    f ∙ ap (λ (y : Hour). with_bus y b (change (bus_at y b))) e
    ∙ ap (λ (y : Bus). with_bus (with_bus h b x) b (change y)) (get_or-set_same h.buses b x no_bus l)
    ∙ ap (λ (bs : List Bus). record { buses = bs; lambda = h.lambda; constraints = h.constraints; runs = h.runs }) (set-set h.buses b x (change x))

module _ (h : Hour) (r : BusRow) (ok : is_ok (bus_given r) ≡ true) where
  abbrev g : Given
  g = (values r ok).0

  abbrev v : Values r g
  v = (values r ok).1

  bus_wide : up_to (wide r.bus) 255 ≡ Some g.bus
  bus_wide = wide_is r.bus 255 g.bus (omega arith) v.bus

  put_is : bus_put h (bus_given r) ≡ unless 3 HubBusFull (is_full h g.bus g.entry.hub_bus) (Ok (with_bus h g.bus g.entry))
  put_is = ap (bus_put h) v.is

  placed_is : placed h (wide r.bus) (wide r.hub_bus) (wide r.zone) ≡ refuse_if (is_full h g.bus g.entry.hub_bus) HubBusFull (Ok (with_bus h g.bus (placed_in (bus_at h g.bus) g.entry.hub_bus g.entry.zone)))
  placed_is =
      given_is (up_to (wide r.bus) 255) BusOutside _ g.bus bus_wide
      ∙ given_is (up_to (wide r.hub_bus) 155) HubBusOutside _ g.entry.hub_bus (wide_is r.hub_bus 155 _ (omega arith) v.hub)
      ∙ given_is (up_to (wide r.zone) 16) ZoneOutside _ g.entry.zone (wide_is r.zone 16 _ (omega arith) v.zone)

  status_is : (x : Hour) (m : Market) (l : Bool) → status_set x (wide r.bus) m l ≡ Ok (with_bus x g.bus (with_status (bus_at x g.bus) m l))
  status_is x m l = given_is (up_to (wide r.bus) 255) BusOutside _ g.bus bus_wide

  load_is : (x : Hour) (m : Market) (z : ℤ) (n : ℕ) → up_to z 10000 ≡ Some n → load_set x (wide r.bus) m (wide z) ≡ Ok (with_bus x g.bus (with_load (bus_at x g.bus) m n))
  load_is x m z n e = given_is (up_to (wide r.bus) 255) BusOutside _ g.bus bus_wide ∙ given_is (up_to (wide z) 10000) LoadOutside _ n (wide_is z 10000 n (omega arith) e)

  -- the hub bus is full, and the book as it was
  pub full : (h₁ : Hour) (s : Spot) (q : Result (Unit {0}) Refusal) → Did (placed h (wide r.bus) (wide r.hub_bus) (wide r.zone)) h h₁ q → (s.field ≡ 3) × IsErrAnd q (λ e. s.why ≡ Value e)
      → (bus_put h (bus_given r) ≡ Err s) × (h₁ ≡ h)
  full h₁ s q d at =
      let w = by_test (is_full h g.bus g.entry.hub_bus) (with_bus h g.bus (placed_in (bus_at h g.bus) g.entry.hub_bus g.entry.zone)) (Ok (with_bus h g.bus g.entry)) (subst (λ (o : Outcome). Did o h h₁ q) placed_is d) in
      (put_is ∙ w.0, w.1)
    where
      by_test : (t : Bool) (x : Hour) (y : Result Hour Spot) → Did (refuse_if t HubBusFull (Ok x)) h h₁ q → (unless 3 HubBusFull t y ≡ Err s) × (h₁ ≡ h)
      by_test true x y d =
          let why : s.why ≡ Value HubBusFull = subst (λ (p : Result (Unit {0}) Refusal). IsErrAnd p (λ e. s.why ≡ Value e)) d.0 at.1 in
          (ap Err (λ i. record { why = sym why i; field = sym at.0 i }), d.2)
      by_test false x y d = absurd (subst (λ (p : Result (Unit {0}) Refusal). IsErrAnd p (λ e. s.why ≡ Value e)) d.0 at.1)

  -- the hub bus has room, and the calls give the bus its record
  pub written : (h₁ h₂ h₃ h₄ h₅ : Hour) (q₁ q₂ q₃ q₄ q₅ : Result (Unit {0}) Refusal) (q : Result (Unit {0}) Spot) → length h.buses ≡ 256 → q₁ ≡ Ok tt
      → Did (placed h (wide r.bus) (wide r.hub_bus) (wide r.zone)) h h₁ q₁
      → Did (status_set h₁ (wide r.bus) DayAhead r.day_ahead_live) h₁ h₂ q₂
      → Did (load_set h₂ (wide r.bus) DayAhead (wide r.day_ahead_load)) h₂ h₃ q₃
      → Did (status_set h₃ (wide r.bus) RealTime r.real_time_live) h₃ h₄ q₄
      → Did (load_set h₄ (wide r.bus) RealTime (wide r.real_time_load)) h₄ h₅ q₅
      → MatchResult q (λ x. q₅ ≡ Ok x) (λ s. (s.field ≡ 8) × IsErrAnd q₅ (λ e. s.why ≡ Value e))
      → Enters (bus_put h (bus_given r)) h h₅ q
  unfolding values
  written h₁ h₂ h₃ h₄ h₅ q₁ q₂ q₃ q₄ q₅ q size granted d₁ d₂ d₃ d₄ d₅ at =
      let b = g.bus in
      let lt : b < length h.buses = omega (arith, up_to_low r.bus 255 b v.bus) in
      let x₁ = placed_in (bus_at h b) g.entry.hub_bus g.entry.zone in
      let w = by_test (is_full h b g.entry.hub_bus) (with_bus h b x₁) (Ok (with_bus h b g.entry)) (subst (λ (o : Outcome). Did o h h₁ q₁) placed_is d₁) in
      let e₂ = again h h₁ h₂ b x₁ (λ x. with_status x DayAhead r.day_ahead_live) lt w.1 (did_ok _ _ h₁ h₂ q₂ (status_is h₁ DayAhead r.day_ahead_live) d₂).1 in
      let e₃ = again h h₂ h₃ b _ (λ x. with_load x DayAhead g.entry.day_ahead.load) lt e₂ (did_ok _ _ h₂ h₃ q₃ (load_is h₂ DayAhead r.day_ahead_load g.entry.day_ahead.load v.day) d₃).1 in
      let e₄ = again h h₃ h₄ b _ (λ x. with_status x RealTime r.real_time_live) lt e₃ (did_ok _ _ h₃ h₄ q₄ (status_is h₃ RealTime r.real_time_live) d₄).1 in
      let e₅ = again h h₄ h₅ b _ (λ x. with_load x RealTime g.entry.real_time.load) lt e₄ (did_ok _ _ h₄ h₅ q₅ (load_is h₄ RealTime r.real_time_load g.entry.real_time.load v.real) d₅).1 in
      let last = (did_ok _ _ h₄ h₅ q₅ (load_is h₄ RealTime r.real_time_load g.entry.real_time.load v.real) d₅).0 in
      ends q (put_is ∙ w.0 ∙ ap Ok (sym e₅)) last at
    where
      by_test : (t : Bool) (x : Hour) (y : Result Hour Spot) → Did (refuse_if t HubBusFull (Ok x)) h h₁ q₁ → (unless 3 HubBusFull t y ≡ y) × (h₁ ≡ x)
      by_test true x y d = let z : Err HubBusFull ≡ Ok tt = sym d.0 ∙ granted in let n : ◌≡◌ {A = ℕ} 0 1 = cc in absurd (omega arith)
      by_test false x y d = (refl, d.1)

      ends : (p : Result (Unit {0}) Spot) → bus_put h (bus_given r) ≡ Ok h₅ → q₅ ≡ Ok tt → MatchResult p (λ x. q₅ ≡ Ok x) (λ s. (s.field ≡ 8) × IsErrAnd q₅ (λ e. s.why ≡ Value e)) → Enters (bus_put h (bus_given r)) h h₅ p
      ends (Ok x) is last c = is
      ends (Err s) is last c = absurd (subst (λ (p : Result (Unit {0}) Refusal). IsErrAnd p (λ e. s.why ≡ Value e)) last c.1)
