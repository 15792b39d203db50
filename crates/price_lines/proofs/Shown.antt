-- The price lines show what the pricing call answers for each listed point.
use Rattle.std.proofs.Common.{◌≡◌, ℕ, zero, suc, ◌<◌, ◌≤◌, Bool, true, false, cond, eqb, List, [], ◌∷◌, ◌++◌, map, take, drop, ℤ, pos, ◌<ℤ◌, IfOk, Ok, Err, Result, sym, refl, ap, ◌∙◌, subst, inl, inr, ⊎_elim, arith, lit<, eq-eqb, eqb-true}
use mathlib.Core.List.{map-append}
use Rattle.std.specs.List.{flat_map, ContainsAt as Has, AllByRecursion as All}
use Rattle.std.proofs.lemmas.List.{get_or-map, length-map, take_at}
use Rattle.std.proofs.ByRecursion.{All-append, All-map, All-weaker, has_append_left, has_append_right}
use Rattle.std.proofs.lemmas.Int.{ints}
use Rattle.std.proofs.lemmas.Bool.{cases_lt}
use Rattle.refusals.specs.declared.Refusal.{Refusal}
use Rattle.hour.specs.Hour.{Hour, bus_at}
use Rattle.weighting.specs.Hubs.{hub_number}
use Rattle.weighting.specs.Meanings.{Meaning}
use Rattle.weighting.specs.Zones.{zone_meaning}
use Rattle.weighting.specs.declared.hubs.Hub.{Hub}
use Rattle.weighting.specs.declared.hubs.Hub.TheVariants.{North, South, Houston, West, Panhandle, Average}
use Rattle.weighting.specs.declared.points.Kind.{Kind}
use Rattle.weighting.specs.declared.points.Kind.TheVariants as kind
use Rattle.weighting.proofs.SettlementPoints.{number_is, same_hub}
use Rattle.pricing.specs.Origins.{own_price}
use Rattle.pricing.specs.Points.{PricedAt, hub_priced}
use Rattle.page.specs.Copies.{Copies}
use Rattle.price_lines.specs.Lines.{hubs, hub_point, zone_point, zone_line, has_bus, zones_to, priced_lines}
use Rattle.price_lines.specs.Shown.{Entry, entry_line, PlacedIn, Listed, Before, Ascending, Shows}
use Rattle.std.proofs.lemmas.Grind.{flat_map-append}
use Rattle.price_lines.proofs.Zones.{some_here, some_where}

has_hub : (hub : Hub) → Has hubs hub
has_hub North = (0, lit< tt, λ d. refl)
has_hub South = (1, lit< tt, λ d. refl)
has_hub Houston = (2, lit< tt, λ d. refl)
has_hub West = (3, lit< tt, λ d. refl)
has_hub Panhandle = (4, lit< tt, λ d. refl)
has_hub Average = (5, lit< tt, λ d. refl)

-- zones that have a bus

record Kept (h : Hour) (n zone : ℕ) : Type 0 where
  low : 1 ≤ zone
  high : zone ≤ n
  has : has_bus h zone ≡ true

all_cond : (P : ℕ → Type 0) (on : Bool) (x : ℕ) → (on ≡ true → P x) → All P (cond on (x ∷ []) [])
all_cond P true x h = (h refl, tt)
all_cond P false x h = tt

zones_kept : (h : Hour) (n : ℕ) → All (Kept h n) (zones_to h n)
unfolding zones_to
zones_kept h zero = tt
zones_kept h (suc n) =
    All-append (Kept h (suc n)) (zones_to h n) (cond (has_bus h (suc n)) (suc n ∷ []) [])
    (All-weaker (Kept h n) (Kept h (suc n)) (λ z k. record { low = k.low; high = omega (arith, k.high); has = k.has }) (zones_to h n) (zones_kept h n))
    (all_cond (Kept h (suc n)) (has_bus h (suc n)) (suc n) (λ e. record { low = omega arith; high = omega arith; has = e }))

has_zone : (h : Hour) (n zone : ℕ) → Kept h n zone → Has (zones_to h n) zone
unfolding zones_to
has_zone h zero zone k = absurd (omega (arith, k.low, k.high))
has_zone h (suc n) zone k =
    ⊎_elim
    (λ l. has_append_left (zones_to h n) (cond (has_bus h (suc n)) (suc n ∷ []) []) zone (has_zone h n zone (record { low = k.low; high = omega (arith, l); has = k.has })))
    (λ l. let e : suc n ≡ zone = omega (arith, l, k.high) in
    has_append_right (zones_to h n) (cond (has_bus h (suc n)) (suc n ∷ []) []) zone (last (has_bus h (suc n)) e (ap (has_bus h) e ∙ k.has)))
    (cases_lt zone (suc n))
  where
    last : (on : Bool) → suc n ≡ zone → on ≡ true → Has (cond on (suc n ∷ []) []) zone
    last true e t = (0, lit< tt, λ d. e)
    last false e t = let z : ◌≡◌ {A = ℕ} 0 1 = cc in absurd (omega arith)

placed : (h : Hour) (zone : ℕ) → has_bus h zone ≡ true → PlacedIn h zone
placed h zone has = let b = some_where (λ b. eqb (bus_at h b).zone zone) 256 has in (b.0, b.1, eqb-true _ _ b.2)

has_bus_placed : (h : Hour) (zone : ℕ) → PlacedIn h zone → has_bus h zone ≡ true
has_bus_placed h zone b = some_here (λ b. eqb (bus_at h b).zone zone) 256 b.0 b.1 (eq-eqb _ _ b.2)

-- lists of entries

has_map : {X Y : Type 0} (f : X → Y) (xs : List X) (x : X) → Has xs x → Has (map f xs) (f x)
has_map f xs x h = (h.0, rw length-map h.1, λ d. get_or-map f xs h.0 x d h.1 ∙ ap f (h.2 x))

joined_map : {X : Type 0} (f : X → Entry) (xs : List X) → flat_map (λ (x : X). entry_line (f x)) xs ≡ flat_map entry_line (map f xs)
joined_map f [] = refl
joined_map f (x ∷ xs) = ap (λ (t : List ℕ). entry_line (f x) ++ t) (joined_map f xs)

ascending_append : (es fs : List Entry) → Ascending es → Ascending fs → All (λ e. All (λ f. Before e.point f.point) fs) es → Ascending (es ++ fs)
ascending_append [] fs a b between = b
ascending_append (e ∷ es) fs a b between =
    (All-append (λ f. Before e.point f.point) es fs a.0 between.0, ascending_append es fs a.1 b between.1)

every_hub : (P : Hub → Type 0) → ((hub : Hub) → P hub) → (xs : List Hub) → All P xs
every_hub P all [] = tt
every_hub P all (x ∷ xs) = (all x, every_hub P all xs)

by_number : (a b : ℕ) → a < b → pos a <ℤ pos b
by_number a b l = omega (arith, ints)

module _ (price : Meaning → Result ℤ Refusal) where
  abbrev hub_entry : Hub → Entry
  hub_entry hub = record { point = hub_point hub; answer = hub_priced price hub }

  abbrev zone_entry : ℕ → Entry
  zone_entry zone = record { point = zone_point zone; answer = own_price (price (zone_meaning zone)) }

  hub_answer : (hub : Hub) → PricedAt price (hub_point hub) (hub_priced price hub)
  hub_answer hub = (λ other e. ap (hub_priced price) (same_hub hub other (number_is _ _ e)), λ none. absurd (none hub refl))

  zone_answer : (zone : ℕ) → 1 ≤ zone → zone ≤ 16 → PricedAt price (zone_point zone) (own_price (price (zone_meaning zone)))
  zone_answer zone low high = (
    λ other e. ap (λ (n : ℕ). own_price (price (zone_meaning n))) (number_is _ _ e),
    λ none. absurd (none (record { number = zone; within = (low, high) }) refl),
  )

  module _ (h : Hour) where
    abbrev all_entries : List Entry
    all_entries = map hub_entry hubs ++ map zone_entry (zones_to h 16)

    -- what holds of each hub, and of each zone that has a bus
    each_entry : (P : Entry → Type 0) → ((hub : Hub) → P (hub_entry hub)) → ((zone : ℕ) → Kept h 16 zone → P (zone_entry zone)) → All P all_entries
    each_entry P of_hub_range of-zone =
        All-append P (map hub_entry hubs) (map zone_entry (zones_to h 16))
        (All-map P hub_entry hubs (every_hub (λ x. P (hub_entry x)) of_hub_range hubs))
        (All-map P zone_entry (zones_to h 16) (All-weaker (Kept h 16) (λ z. P (zone_entry z)) of-zone (zones_to h 16) (zones_kept h 16)))

    whole_text : priced_lines price h ≡ flat_map entry_line all_entries
    whole_text =
        ap (λ (t : List ℕ). t ++ flat_map (zone_line price) (zones_to h 16)) (joined_map hub_entry hubs)
        ∙ ap (λ (t : List ℕ). flat_map entry_line (map hub_entry hubs) ++ t) (joined_map zone_entry (zones_to h 16))
        ∙ sym (flat_map-append entry_line (map hub_entry hubs) (map zone_entry (zones_to h 16)))

    every_listed : (k : Kind) (z : ℤ) → Listed h k z → Has (map (λ (e : Entry). e.point) all_entries) (record { kind = k; number = z })
    every_listed kind.Hub z l =
        subst (λ (y : ℤ). Has (map (λ (e : Entry). e.point) all_entries) (record { kind = kind.Hub; number = y })) (sym l.1)
        (has_map (λ (e : Entry). e.point) all_entries (hub_entry l.0)
        (has_append_left (map hub_entry hubs) (map zone_entry (zones_to h 16)) (hub_entry l.0) (has_map hub_entry hubs l.0 (has_hub l.0))))
    every_listed kind.Zone z l =
        let zone = l.0 in
        let kept : Kept h 16 l.0 = record { low = l.2; high = l.3; has = has_bus_placed h zone l.4 } in
        subst (λ (y : ℤ). Has (map (λ (e : Entry). e.point) all_entries) (record { kind = kind.Zone; number = y })) (sym l.1)
        (has_map (λ (e : Entry). e.point) all_entries (zone_entry zone)
        (has_append_right (map hub_entry hubs) (map zone_entry (zones_to h 16)) (zone_entry zone) (has_map zone_entry (zones_to h 16) zone (has_zone h 16 zone kept))))
    every_listed kind.Tie z l = absurd l

    zones_ascend : (n : ℕ) → Ascending (map zone_entry (zones_to h n))
    unfolding zones_to
    zones_ascend zero = tt
    zones_ascend (suc n) =
        subst Ascending (sym (map-append zone_entry (zones_to h n) (cond (has_bus h (suc n)) (suc n ∷ []) [])))
        (ascending_append (map zone_entry (zones_to h n)) (map zone_entry (cond (has_bus h (suc n)) (suc n ∷ []) [])) (zones_ascend n) (one (has_bus h (suc n)) (suc n))
        (All-map (λ e. All (λ f. Before e.point f.point) (map zone_entry (cond (has_bus h (suc n)) (suc n ∷ []) []))) zone_entry (zones_to h n)
        (All-weaker (Kept h n) (λ z. All (λ f. Before (zone_point z) f.point) (map zone_entry (cond (has_bus h (suc n)) (suc n ∷ []) [])))
        (λ z k. last (has_bus h (suc n)) z (suc n) (omega (arith, k.high))) (zones_to h n) (zones_kept h n))))
      where
        one : (on : Bool) (zone : ℕ) → Ascending (map zone_entry (cond on (zone ∷ []) []))
        one true zone = (tt, tt)
        one false zone = tt

        last : (on : Bool) (z zone : ℕ) → z < zone → All (λ f. Before (zone_point z) f.point) (map zone_entry (cond on (zone ∷ []) []))
        last true z zone l = (inr (refl, by_number z zone l), tt)
        last false z zone l = tt

    hub_before : (a b : Hub) → hub_number a < hub_number b → Before (hub_point a) (hub_point b)
    hub_before a b l = inr (refl, by_number (hub_number a) (hub_number b) l)

    hubs_ascend : Ascending (map hub_entry hubs)
    hubs_ascend = (
      (hub_before North South (lit< tt), (hub_before North Houston (lit< tt), (hub_before North West (lit< tt), (hub_before North Panhandle (lit< tt), (hub_before North Average (lit< tt), tt))))),
      (
        (hub_before South Houston (lit< tt), (hub_before South West (lit< tt), (hub_before South Panhandle (lit< tt), (hub_before South Average (lit< tt), tt)))),
        (
          (hub_before Houston West (lit< tt), (hub_before Houston Panhandle (lit< tt), (hub_before Houston Average (lit< tt), tt))),
          (
            (hub_before West Panhandle (lit< tt), (hub_before West Average (lit< tt), tt)),
            (
              (hub_before Panhandle Average (lit< tt), tt),
              (tt, tt),
            ),
          ),
        ),
      ),
    )

    all_ascend : Ascending all_entries
    all_ascend =
        ascending_append (map hub_entry hubs) (map zone_entry (zones_to h 16)) hubs_ascend (zones_ascend 16)
        (All-map (λ e. All (λ f. Before e.point f.point) (map zone_entry (zones_to h 16))) hub_entry hubs
        (every_hub (λ x. All (λ f. Before (hub_point x) f.point) (map zone_entry (zones_to h 16)))
        (λ x. All-map (λ f. Before (hub_point x) f.point) zone_entry (zones_to h 16)
        (All-weaker (Kept h 16) (λ z. Before (hub_point x) (zone_point z)) (λ z k. inl (lit< tt)) (zones_to h 16) (zones_kept h 16))) hubs))

    pub lines_show : Shows price h (priced_lines price h)
    lines_show = record {
      lines = all_entries;
      whole = whole_text;
      answers = each_entry (λ e. PricedAt price e.point e.answer) hub_answer (λ z k. zone_answer z k.low k.high);
      listed =
          each_entry (λ e. Listed h e.point.kind e.point.number) (λ x. (x, refl))
          (λ z k. (z, refl, k.low, k.high, placed h z k.has));
      every = λ p l. every_listed p.kind p.number l;
      ascending = all_ascend;
    }

-- the bytes that were written
pub copied_show : (P : List ℕ → Type 0) (text was is : List ℕ) (r : Result ℕ Refusal) → P text → Copies text was is r → IfOk r (λ n. P (take n is))
copied_show P text was is (Ok n) p c = subst P (sym (ap (take n) c.2 ∙ take_at text (drop n was) n (sym c.0))) p
copied_show P text was is (Err e) p c = tt
