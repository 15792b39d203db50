-- Lines added to a page one after another.
use Rattle.std.proofs.Common.{◌≡◌, ℕ, suc, ◌+◌, ◌-◌, ◌*◌, ◌<◌, ◌≤◌, Bool, true, false, cond, List, [], ◌∷◌, ◌++◌, length, get_or, take, ℤ, pos, Result, sym, refl, ap, ◌∙◌, subst, arith}
use Rattle.std.specs.List.{flat_map}
use Rattle.std.proofs.lemmas.Grind.{flat_map-append}
use Rattle.std.proofs.lemmas.List.{append-nil, length-append, take_all, take_more, flat_map_more}
use Rattle.refusals.specs.declared.Refusal.{Refusal}
use Rattle.hour.specs.Hour.{Hour}
use Rattle.weighting.specs.Meanings.{Meaning}
use Rattle.weighting.specs.Zones.{zone_meaning}
use Rattle.weighting.specs.declared.points.Kind.TheVariants as kind
use Rattle.pricing.specs.Origins.{Priced, own_price}
use Rattle.pricing.specs.Points.{PricedAt}
use Rattle.page.specs.Pages.{written}
use Rattle.page.specs.declared.pages.Page.{Page}
use Rattle.page.proofs.Pushing.{and_then, nothing_added}
use Rattle.price_lines.specs.Lines.{line, has_bus, zones_to, zone_point, zone_line, zone_text}
use Rattle.price_lines.specs.Adding.{longest_line, Adds, AddsPriced}

pub adds_none : {n : ℕ} (page : Page n) → Adds 0 [] page page
adds_none page = record { added = nothing_added page; short = omega arith }

pub adds_more : {n : ℕ} (k : ℕ) (a b : List ℕ) (before mid after : Page n) → Adds k a before mid → Adds 1 b mid after → Adds (k + 1) (a ++ b) before after
adds_more {n} k a b before mid after first second = record {
  added = and_then n (written before) (written mid) (written after) a b first.added second.added;
  short = omega (arith, length-append a b, first.short, second.short);
}

pub joined_take_more : {X : Type 0} (f : X → List ℕ) (xs : List X) (i : ℕ) (d : X) → i < length xs → flat_map f (take i xs) ++ f (get_or xs i d) ≡ flat_map f (take (i + 1) xs)
joined_take_more f xs i d l = flat_map_more f [] (take i xs) (get_or xs i d) ∙ ap (flat_map f) (sym (take_more xs i d l))

joined_cond : (f : ℕ → List ℕ) (on : Bool) (x : ℕ) → flat_map f (cond on (x ∷ []) []) ≡ cond on (f x) []
joined_cond f true x = append-nil (f x)
joined_cond f false x = refl

pub zones_more : (price : Meaning → Result ℤ Refusal) (h : Hour) (n : ℕ) → flat_map (zone_line price) (zones_to h n) ++ zone_text price h (suc n) ≡ flat_map (zone_line price) (zones_to h (suc n))
unfolding zones_to
zones_more price h n =
    ap (λ (t : List ℕ). flat_map (zone_line price) (zones_to h n) ++ t) (sym (joined_cond (zone_line price) (has_bus h (suc n)) (suc n)))
    ∙ sym (flat_map-append (zone_line price) (zones_to h n) (cond (has_bus h (suc n)) (suc n ∷ []) []))

-- the zones before `zone`, and then `zone`
pub zones_step : (price : Meaning → Result ℤ Refusal) (h : Hour) (zone : ℕ) → 1 ≤ zone → flat_map (zone_line price) (zones_to h (zone - 1)) ++ zone_text price h zone ≡ flat_map (zone_line price) (zones_to h (zone + 1 - 1))
zones_step price h zone low =
    let here : zone ≡ suc (zone - 1) = omega arith in
    let next : suc (zone - 1) ≡ zone + 1 - 1 = omega arith in
    ap (λ (n : ℕ). flat_map (zone_line price) (zones_to h (zone - 1)) ++ zone_text price h n) here
    ∙ zones_more price h (zone - 1)
    ∙ ap (λ (n : ℕ). flat_map (zone_line price) (zones_to h n)) next

shown : (price : Meaning → Result ℤ Refusal) (zone : ℕ) (answer : Priced) → 1 ≤ zone → zone ≤ 16 → PricedAt price (zone_point zone) answer → answer ≡ own_price (price (zone_meaning zone))
shown price zone answer low high priced = priced.0 (record { number = zone; within = (low, high) }) refl

pub zone_added : {n : ℕ} (price : Meaning → Result ℤ Refusal) (h : Hour) (zone : ℕ) (z : ℤ) (before after : Page n) → z ≡ pos zone → 1 ≤ zone → zone ≤ 16 → has_bus h zone ≡ true
    → AddsPriced price (record { kind = kind.Zone; number = z }) before after → Adds 1 (zone_text price h zone) before after
zone_added {n} price h zone z before after is low high has adds =
    let named : AddsPriced price (zone_point zone) before after = subst (λ (y : ℤ). AddsPriced price (record { kind = kind.Zone; number = y }) before after) is adds in
    subst (λ (t : Bool). Adds {n = n} 1 (cond t (zone_line price zone) []) before after) (sym has)
    (subst (λ (r : Priced). Adds {n = n} 1 (line (zone_point zone) r) before after) (shown price zone named.answer low high named.priced) named.adds)

pub zone_left_out : {n : ℕ} (price : Meaning → Result ℤ Refusal) (h : Hour) (zone : ℕ) (page : Page n) → has_bus h zone ≡ false → Adds 1 (zone_text price h zone) page page
zone_left_out {n} price h zone page has =
    subst (λ (t : Bool). Adds {n = n} 1 (cond t (zone_line price zone) []) page page) (sym has) (record { added = nothing_added page; short = omega arith })

-- hubs and zones on a page that has room for all
pub all_fit : {n : ℕ} (hub-lines zone-lines : List ℕ) (blank mid after : Page n) → 22 * longest_line ≤ n → written blank ≡ [] → Adds 6 hub-lines blank mid → Adds 16 zone-lines mid after → written after ≡ hub-lines ++ zone-lines
all_fit {n} hub-lines zone-lines blank mid after room none first second =
    and_then n (written blank) (written mid) (written after) hub-lines zone-lines first.added second.added
    ∙ ap (λ (t : List ℕ). take n (t ++ (hub-lines ++ zone-lines))) none
    ∙ take_all n (hub-lines ++ zone-lines) (omega (arith, length-append hub-lines zone-lines, first.short, second.short))
