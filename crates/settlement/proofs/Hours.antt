-- Runs, one after another, and books of one hour.
use Rattle.std.proofs.Common.{◌≡◌, ℕ, ◌+◌, ◌<◌, Bool, true, not, List, [], ◌∷◌, ◌++◌, length, get_or, take, ℤ, ◌-ℤ◌, Some, None, Ok, Option, Result, refl, ap, ◌∙◌}
use Rattle.std.proofs.lemmas.List.{take_more}
use Rattle.faults.specs.declared.Fault.{Fault}
use Rattle.refusals.specs.declared.Refusal.TheVariants.{LambdaOutside}
use Rattle.bounds.specs.Bounds.{within}
use Rattle.hour.specs.Limits.{most_lambda}
use Rattle.hour.specs.Hour.{Hour, entries, bus_at, run_at, with_lambda}
use Rattle.hour.specs.Live.{base_live, is_out}
use Rattle.hour.specs.Steps.{refuse_if}
use Rattle.hour.specs.Replays.{left}
use Rattle.hour.specs.declared.book.Book.{Book}
use Rattle.hour.specs.declared.records.Market.{Market}
use Rattle.hour.specs.declared.records.Market.TheVariants.{DayAhead, RealTime}
use Rattle.posting.specs.Grids.{Grid}
use Rattle.weighting.specs.Meanings.{Meaning}
use Rattle.day_ahead.specs.Prices.{shadow_of}
use Rattle.day_ahead.specs.Moves.{lowered}
use Rattle.settlement.specs.declared.deeds.Deed.{Deed}
use Rattle.settlement.specs.declared.deeds.Deed.TheVariants as deed
use Rattle.settlement.specs.Runs.{resumed, after_deed, after_all, hour_of}
use Rattle.settlement.specs.Promise.{lowering, InRange, Resumes, WeightingFacts}
use Rattle.saved.specs.Reading.{reading}

pub after_append : (h : Hour) (ds es : List Deed) → after_all h (ds ++ es) ≡ after_all (after_all h ds) es
after_append h [] es = refl
after_append h (d ∷ ds) es = after_append (after_deed h d) ds es

-- one deed more
pub hour_more : (ds : List Deed) (i : ℕ) (d : Deed) → i < length ds → hour_of (take (i + 1) ds) ≡ after_deed (hour_of (take i ds)) (get_or ds i d)
hour_more ds i d inside = ap hour_of (take_more ds i d inside) ∙ after_append _ (take i ds) (get_or ds i d ∷ [])

-- ---- a resume of a text that is read as an hour

taken : (r : Result Hour Fault) (old new : Hour) → r ≡ Ok new → resumed r old ≡ new
taken r old new e = ap (λ (x : Result Hour Fault). resumed x old) e

pub resumes : (h new : Hour) (text : List ℕ) (d : Deed) → reading text ≡ Ok new → Resumes text d → after_deed h d ≡ new
resumes h new text (deed.Call call) back none = absurd none
resumes h new text (deed.Save room) back none = absurd none
resumes h new text (deed.Resume t) back is = taken (reading t.now) h new (ap reading is ∙ back)
resumes h new text (deed.Price market point) back none = absurd none
resumes h new text (deed.PriceWeighting market) back none = absurd none

-- ---- lambda moved down

set_lambda : (h : Hour) (z : ℤ) (t : Bool) → t ≡ true → left (refuse_if (not t) LambdaOutside (Ok (with_lambda h z))) h ≡ with_lambda h z
set_lambda h z t e = ap (λ (x : Bool). left (refuse_if (not x) LambdaOutside (Ok (with_lambda h z))) h) e

pub record Lowered (h new : Hour) (o : Option ℤ) : Type 0 where
  pub lambda : new.lambda ≡ o
  pub buses : new.buses ≡ h.buses
  pub constraints : new.constraints ≡ h.constraints

lowered_by : (h : Hour) (o : Option ℤ) (by : ℤ) → h.lambda ≡ o → InRange o by → Lowered h (after_all h (lowering o by)) (lowered o by)
lowered_by h None by is range = record { lambda = is; buses = refl; constraints = refl }
lowered_by h (Some l) by is range =
    let e = set_lambda h (l -ℤ by) (within (l -ℤ by) most_lambda) range in
    record { lambda = ap (λ (x : Hour). x.lambda) e; buses = ap (λ (x : Hour). x.buses) e; constraints = ap (λ (x : Hour). x.constraints) e }

pub hour_lowered : (h : Hour) (by : ℤ) → InRange h.lambda by → Lowered h (after_all h (lowering h.lambda by)) (lowered h.lambda by)
hour_lowered h by range = lowered_by h h.lambda by refl range

-- ---- two books of one hour agree in every fact

pub same_hour : (market : Market) (m : Meaning) (posted : Grid) (book book' : Book) → entries book ≡ entries book' → WeightingFacts market m posted posted book book'
same_hour DayAhead m posted book book' e = record {
  system_lambda = ap (λ (h : Hour). h.lambda) e;
  shadow_prices = λ k _. ap (λ (h : Hour). shadow_of (get_or h.constraints k None)) e;
  live_buses = λ b _. ap (λ (h : Hour). base_live h DayAhead b) e;
  hub_buses = λ b _ _. ap (λ (h : Hour). (bus_at h b).hub_bus) e;
  zones = λ b _ _. ap (λ (h : Hour). (bus_at h b).zone) e;
  loads = λ b _ _. ap (λ (h : Hour). (bus_at h b).day_ahead.load) e;
  marks = λ k _ _ b _ _. ap (λ (h : Hour). is_out h k b) e;
  factors_with_weight = λ k _ _ b _ _. refl;
}
same_hour RealTime m posted book book' e = record {
  runs = λ k _. ap (λ (h : Hour). run_at h k) e;
  buses = record {
    live = λ b _. ap (λ (h : Hour). base_live h RealTime b) e;
    hub_bus = λ b _ _. ap (λ (h : Hour). (bus_at h b).hub_bus) e;
    zone = λ b _ _. ap (λ (h : Hour). (bus_at h b).zone) e;
    load = λ b _ _. ap (λ (h : Hour). (bus_at h b).real_time.load) e;
  };
  prices = λ k _ run _ bus _ _. refl;
}
