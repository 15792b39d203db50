-- Two places of different buses commute where each is granted in either order.
use Rattle.std.proofs.Common.{◌≡◌, ℕ, true, false, List, get_or, set, ℤ, pos, is_ok, Some, None, Ok, Option, sym, refl, ap, ◌∙◌}
use Rattle.std.proofs.lemmas.List.{get_or-set_other, set_comm}
use Rattle.std.proofs.lemmas.Bool.{both_ways}
use Rattle.refusals.specs.declared.Refusal.TheVariants.{BusOutside, HubBusOutside, ZoneOutside, HubBusFull}
use Rattle.bounds.specs.Bounds.{up_to}
use Rattle.hour.specs.Limits.{last_bus, last_hub_bus, last_zone}
use Rattle.hour.specs.Hour.{Hour, bus_at, with_bus, no_bus}
use Rattle.hour.specs.Steps.{Outcome, given, refuse_if, is_full, placed_in}
use Rattle.hour.specs.Replays.{after, left}
use Rattle.hour.specs.Laws.{Granted}
use Rattle.hour.specs.declared.records.Bus.{Bus}
use Rattle.hour.specs.declared.calls.Call.TheVariants.{Place}
use Rattle.hour.proofs.Outcomes.{refuse_ok, refuse_is}
use Rattle.hour.proofs.Tables.{up_to_is}

-- a place whose arguments are looked at already
abbrev placing : Hour → Option ℕ → Option ℕ → Option ℕ → Outcome
placing h b k z =
    given b BusOutside (λ i. given k HubBusOutside (λ j. given z ZoneOutside (λ a.
    refuse_if (is_full h i j) HubBusFull (Ok (with_bus h i (placed_in (bus_at h i) j a))))))

abbrev placed_at : Hour → ℕ → ℕ → ℕ → Hour
placed_at h i j a = with_bus h i (placed_in (bus_at h i) j a)

-- a granted place, argument by argument
record Put (h : Hour) (b k z : Option ℕ) : Type 0 where
  i : ℕ
  j : ℕ
  a : ℕ
  bus : b ≡ Some i
  hub-bus : k ≡ Some j
  zone : z ≡ Some a
  makes : left (placing h b k z) h ≡ placed_at h i j a

put : (h : Hour) (b k z : Option ℕ) → is_ok (placing h b k z) ≡ true → Put h b k z
put h None k z ok = absurd (both_ways false refl ok)
put h (Some i) None z ok = absurd (both_ways false refl ok)
put h (Some i) (Some j) None ok = absurd (both_ways false refl ok)
put h (Some i) (Some j) (Some a) ok = record {
  i = i;
  j = j;
  a = a;
  bus = refl;
  hub-bus = refl;
  zone = refl;
  makes = ap (λ (o : Outcome). left o h) (refuse_is (is_full h i j) HubBusFull (Ok (placed_at h i j a)) (refuse_ok (is_full h i j) HubBusFull (Ok (placed_at h i j a)) ok).0);
}

some_is : {A : Type 0} (o : Option A) (x y : A) → o ≡ Some x → o ≡ Some y → x ≡ y
some_is o x y p q = cc

swap_places : (h : Hour) (i j a i' j' a' : ℕ) → (i ≡ i' → ⊥) → placed_at (placed_at h i j a) i' j' a' ≡ placed_at (placed_at h i' j' a') i j a
swap_places h i j a i' j' a' apart =
    let bs = h.buses in
    let new = placed_in (bus_at h i) j a in
    let new' = placed_in (bus_at h i') j' a' in
    let first : get_or (set bs i new) i' no_bus ≡ get_or bs i' no_bus = get_or-set_other bs i i' new no_bus (λ e. apart (sym e)) in
    let second : get_or (set bs i' new') i no_bus ≡ get_or bs i no_bus = get_or-set_other bs i' i new' no_bus apart in
    let buses : set (set bs i new) i' (placed_in (get_or (set bs i new) i' no_bus) j' a') ≡ set (set bs i' new') i (placed_in (get_or (set bs i' new') i no_bus) j a) =
    ap (λ (x : Bus). set (set bs i new) i' (placed_in x j' a')) first
    ∙ set_comm bs i i' new new' apart
    ∙ sym (ap (λ (x : Bus). set (set bs i' new') i (placed_in x j a)) second)
    in
    ap (λ (x : List Bus). record { buses = x; lambda = h.lambda; constraints = h.constraints; runs = h.runs }) buses

pub places_commute : (h : Hour) (b₁ k₁ z₁ b₂ k₂ z₂ : ℤ) → (b₁ ≡ b₂ → ⊥)
    → Granted h (Place b₁ k₁ z₁) → Granted (after h (Place b₁ k₁ z₁)) (Place b₂ k₂ z₂)
    → Granted h (Place b₂ k₂ z₂) → Granted (after h (Place b₂ k₂ z₂)) (Place b₁ k₁ z₁)
    → after (after h (Place b₁ k₁ z₁)) (Place b₂ k₂ z₂) ≡ after (after h (Place b₂ k₂ z₂)) (Place b₁ k₁ z₁)
places_commute h b₁ k₁ z₁ b₂ k₂ z₂ apart g₁ g₁₂ g₂ g₂₁ =
    let o₁ = up_to b₁ last_bus in
    let o₂ = up_to b₂ last_bus in
    let h₁ = after h (Place b₁ k₁ z₁) in
    let h₂ = after h (Place b₂ k₂ z₂) in
    let p₁ = put h o₁ (up_to k₁ last_hub_bus) (up_to z₁ last_zone) g₁ in
    let p₂ = put h o₂ (up_to k₂ last_hub_bus) (up_to z₂ last_zone) g₂ in
    let p₁₂ = put h₁ o₂ (up_to k₂ last_hub_bus) (up_to z₂ last_zone) g₁₂ in
    let p₂₁ = put h₂ o₁ (up_to k₁ last_hub_bus) (up_to z₁ last_zone) g₂₁ in
    let different : p₁.i ≡ p₂.i → ⊥ =
    λ e. apart (up_to_is b₁ last_bus p₁.i p₁.bus ∙ ap pos e ∙ sym (up_to_is b₂ last_bus p₂.i p₂.bus))
    in
    let i₂ = some_is o₂ p₁₂.i p₂.i p₁₂.bus p₂.bus in
    let j₂ = some_is (up_to k₂ last_hub_bus) p₁₂.j p₂.j p₁₂.hub-bus p₂.hub-bus in
    let a₂ = some_is (up_to z₂ last_zone) p₁₂.a p₂.a p₁₂.zone p₂.zone in
    let i₁ = some_is o₁ p₂₁.i p₁.i p₂₁.bus p₁.bus in
    let j₁ = some_is (up_to k₁ last_hub_bus) p₂₁.j p₁.j p₂₁.hub-bus p₁.hub-bus in
    let a₁ = some_is (up_to z₁ last_zone) p₂₁.a p₁.a p₂₁.zone p₁.zone in
    p₁₂.makes
    ∙ (λ t. placed_at (p₁.makes t) (i₂ t) (j₂ t) (a₂ t))
    ∙ swap_places h p₁.i p₁.j p₁.a p₂.i p₂.j p₂.a different
    ∙ sym (λ t. placed_at (p₂.makes t) (i₁ t) (j₁ t) (a₁ t))
    ∙ sym p₂₁.makes
