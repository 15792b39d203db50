-- Outage marks and weights.
use Rattle.std.proofs.Common.{◌≡◌, ℕ, ◌<◌, Bool, true, false, not, ◌&&◌, eqb, ℤ, pos, Some, None, Option, sym, ap, ◌∙◌, ap₂, ⊎_elim, arith}
use Rattle.std.proofs.lemmas.Bool.{and_right, cases_Bool, both_ways, ne_eqb, cond-false}
use Rattle.bus_set.specs.Sets.{member}
use Rattle.hour.specs.Hour.{Hour, entries, bus_at, constraint_at, out_of}
use Rattle.hour.specs.Replays.{after}
use Rattle.hour.specs.Laws.{Granted}
use Rattle.hour.specs.Live.{base_live, is_out, is_live, live_under}
use Rattle.hour.specs.declared.records.Bus.{Bus}
use Rattle.hour.specs.declared.records.Constraint.{Constraint}
use Rattle.hour.specs.declared.records.Market.TheVariants.{DayAhead}
use Rattle.hour.specs.declared.calls.Call.TheVariants.{Outage}
use Rattle.hour.specs.declared.book.Book.{Book}
use Rattle.hour.proofs.Laws.{laws}
use Rattle.weighting.specs.BookLimits.{load_in}
use Rattle.weighting.specs.Views.{Alike, view_of}
use Rattle.weighting.specs.Meanings.{Meaning}
use Rattle.weighting.specs.Marks.{MarkLaws}

never_some : (z : ℤ) → None ≡ Some z → ⊥
never_some z e = let x : ◌≡◌ {A = ℕ} 0 1 = cc in omega arith

same_number : (m n : ℕ) → Some (pos m) ≡ Some (pos n) → m ≡ n
same_number m n e = cc

module _ (before behind : Book) (k b : ℕ) (on : Bool) (step : entries behind ≡ after (entries before) (Outage (pos k) (pos b) on)) where
  bus_stays : (i : ℕ) → bus_at (entries behind) i ≡ bus_at (entries before) i
  bus_stays i = ap (λ (h : Hour). bus_at h i) step ∙ laws.other_buses_stay (entries before) (Outage (pos k) (pos b) on) i (never_some (pos i))

  base_stays : (i : ℕ) → base_live (entries behind) DayAhead i ≡ base_live (entries before) DayAhead i
  base_stays i = ap (is_live DayAhead) (bus_stays i)

  -- the same live buses under a constraint make its case alike
  alike_under : (k' : ℕ) → ((i : ℕ) → i < 256 → live_under (entries behind) k' i ≡ live_under (entries before) k' i)
      → Alike (view_of behind DayAhead (live_under (entries behind) k')) (view_of before DayAhead (live_under (entries before) k'))
  alike_under k' live = record {
    live = live;
    hub_bus = λ i l _. ap (λ (x : Bus). x.hub_bus) (bus_stays i);
    zone = λ i l _. ap (λ (x : Bus). x.zone) (bus_stays i);
    load = λ i l _. ap (load_in DayAhead) (bus_stays i);
  }

  pub live_elsewhere : (k' : ℕ) → (k' ≡ k → ⊥) → (i : ℕ) → live_under (entries behind) k' i ≡ live_under (entries before) k' i
  live_elsewhere k' other i =
      let same : constraint_at (entries behind) k' ≡ constraint_at (entries before) k' =
      ap (λ (h : Hour). constraint_at h k') step
      ∙ laws.other_constraints_stay (entries before) (Outage (pos k) (pos b) on) k' (λ e. other (sym (same_number k k' e)))
      in
      ap₂ (λ (t : Bool) (c : Option Constraint). t && not (member (out_of c) i)) (base_stays i) same

  pub live_of_dead : Granted (entries before) (Outage (pos k) (pos b) on) → base_live (entries before) DayAhead b ≡ false
      → (k' i : ℕ) → i < 256 → live_under (entries behind) k' i ≡ live_under (entries before) k' i
  live_of_dead granted dead k' i low = ⊎_elim
      (λ (live : base_live (entries before) DayAhead i ≡ true).
      let other : i ≡ b → ⊥ = λ same. both_ways (base_live (entries before) DayAhead i) (ap (base_live (entries before) DayAhead) same ∙ dead) live in
      let mark : is_out (entries behind) k' i ≡ is_out (entries before) k' i =
      ap (λ (h : Hour). is_out h k' i) step
      ∙ laws.outage_sets_one_mark before k b on granted k' i low
      ∙ cond-false (eqb k' k && eqb i b) on (is_out (entries before) k' i) (and_right (eqb k' k) (eqb i b) (ne_eqb i b other))
      in
      ap₂ (λ (t o : Bool). t && not o) (base_stays i) mark)
      (λ (off : base_live (entries before) DayAhead i ≡ false).
      ap (λ (t : Bool). t && not (is_out (entries behind) k' i)) (base_stays i ∙ off) ∙ ap (λ (t : Bool). t && not (is_out (entries before) k' i)) (sym off))
      (cases_Bool (base_live (entries before) DayAhead i))

pub mark_laws : (m : Meaning) → MarkLaws m
mark_laws m = record {
  other_constraints_keep_weights = λ before behind k b on step k' b' other low.
      m.alike_weigh_the_same _ _ (alike_under before behind k b on step k' (λ i l. live_elsewhere before behind k b on step k' other i)) b' low;
  dead_marks_change_nothing = λ before behind k b on step granted dead k' b' low.
      m.alike_weigh_the_same _ _ (alike_under before behind k b on step k' (λ i l. live_of_dead before behind k b on step granted dead k' i l)) b' low;
}
