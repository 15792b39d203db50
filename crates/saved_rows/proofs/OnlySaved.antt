-- Lines that are taken are the lines of the hour that they make: each is one more line of the hour so far.
use Rattle.std.proofs.Common.{◌≡◌, ℕ, suc, ◌+◌, ◌-◌, ◌/◌, ◌<◌, ◌≤◌, Bool, true, false, cond, not, eqb, List, [], ◌∷◌, ◌++◌, length, get_or, replicate, ℤ, pos, negsuc, is_ok, Some, None, Ok, Err, Option, Result, sym, refl, ap, ◌∙◌, subst, append_assoc, append-nil, arith, length-set}
use lib.Signed.{lt_z, le_z}
use Rattle.std.proofs.lemmas.List.{get_or-set_same, length_push, length-replicate}
use Rattle.std.proofs.lemmas.Bool.{cond-true, cond-false, ltb-true, eqb-true, eq-eqb, ne_eqb, and_parts}
use Rattle.refusals.specs.declared.Refusal.{Refusal}
use Rattle.refusals.specs.declared.Refusal.TheVariants.{ConstraintOutside, BusOutside, HubBusFull, ShadowPriceOutside, NotPosted, LambdaOutside, RunOutside, SecondsOutside, AdderOutside}
use Rattle.faults.specs.declared.Spot.{Spot}
use Rattle.faults.specs.declared.Why.TheVariants.{Ending}
use Rattle.faults.specs.Faults.{spot, fault, in_line}
use Rattle.bus_set.specs.Sets.{member, marked}
use Rattle.bus_set.proofs.Sets.{no_members, member_with}
use Rattle.bounds.specs.Bounds.{up_to, within}
use Rattle.hour.specs.Limits.{most_lambda, most_shadow_price, most_adder}
use Rattle.hour.specs.Hour.{Hour, no_bus, with_bus, with_constraint, with_run, constraint_at, out_of, with_lambda}
use Rattle.hour.specs.Steps.{is_full, other_seconds, entered_run}
use Rattle.hour.specs.declared.records.Bus.{Bus}
use Rattle.hour.specs.declared.records.Constraint.{Constraint}
use Rattle.hour.specs.declared.records.Run.{Run}
use Rattle.hour.proofs.Tables.{up_to_is, up_to_low}
use Rattle.saved_rows.specs.declared.row.BusRow.{BusRow}
use Rattle.saved_rows.specs.declared.row.Row.{Row}
use Rattle.saved_rows.specs.declared.row.Row.TheVariants as row
use Rattle.saved_rows.specs.declared.stage.Stage.{Stage}
use Rattle.saved_rows.specs.declared.stage.Kind.{Kind}
use Rattle.saved_rows.specs.declared.stage.Kind.TheVariants as kind
use Rattle.saved_rows.specs.Order.{bus_after, lambda_after, constraint_after, outage_after, run_after, may_follow, start, behind, eq_z, finished, blank_bus, blank_row, in_order, kind_of, next, misplaced}
use Rattle.saved_rows.specs.Entering.{enter, valued, unless, refused_at, Given, bus_given, bus_put}
use Rattle.saved_rows.specs.Rows.{indexed, bus_numbers, bus_rows, lambda_rows, constraint_rows, run_row, rows, all_rows}
use Rattle.saved_rows.specs.Running.{Place, place, onward, run_rows, step, step_by, misended}
use Rattle.saved_rows.specs.Laws.{OnlySaved}
use Rattle.saved_rows.proofs.Calls.{values, valued_is}
use Rattle.saved_rows.proofs.Runs.{no_true}
use Rattle.saved_rows.proofs.Marks.{outages_none, outages_grow, no_words}
use Rattle.saved_rows.proofs.Tables.{From, from_later, from_set, from_replicate, indexed_none, indexed_grow}

pub never : {X A E : Type 0} (x : A) (e : E) → ◌≡◌ {A = Result A E} (Err e) (Ok x) → X
never x e p = let z : ◌≡◌ {A = ℕ} 0 1 = cc in absurd (omega arith)

-- what a line that was taken has passed
step_by_inv : (o : Result Stage Spot) (r : Result Hour Spot) (q : Place) → step_by o r ≡ Ok q → (o ≡ Ok q.stage) × (r ≡ Ok q.hour)
step_by_inv (Err e) r q h = never q e h
step_by_inv (Ok s) (Ok b) q h = let z : place s b ≡ q = cc in (ap (λ (x : Place). Ok x.stage) z, ap (λ (x : Place). Ok x.hour) z)
step_by_inv (Ok s) (Err d) q h = never q d h

next_inv : (b m : Bool) (k : Kind) (t : Stage) → cond b (Err misplaced) (in_order (cond m (Some (behind k)) None)) ≡ Ok t → (b ≡ false) × (m ≡ true) × (behind k ≡ t)
next_inv true m k t e = never t misplaced e
next_inv false false k t e = never t misplaced e
next_inv false true k t e = (refl, refl, cc)

valued_inv : {A B : Type 0} (f : ℕ) (e : Refusal) (o : Option A) (k : A → Result B Spot) (y : B) → valued f e o k ≡ Ok y → (x : A) × (o ≡ Some x) × (k x ≡ Ok y)
valued_inv f e None k y h = never y (refused_at f e) h
valued_inv f e (Some x) k y h = (x, refl, h)

unless_inv : {B : Type 0} (f : ℕ) (e : Refusal) (b : Bool) (k : Result B Spot) (y : B) → unless f e b k ≡ Ok y → (b ≡ false) × (k ≡ Ok y)
unless_inv f e true k y h = never y (refused_at f e) h
unless_inv f e false k y h = (refl, h)

put_inv : (h : Hour) (g : Result Given Spot) (y : Hour) → bus_put h g ≡ Ok y → is_ok g ≡ true
put_inv h (Err e) y p = never y e p
put_inv h (Ok g) y p = refl

-- the sizes of an hour's tables
pub record Sized (h : Hour) : Type 0 where
  pub buses : length h.buses ≡ 256
  pub constraints : length h.constraints ≡ 32
  pub runs : length h.runs ≡ 16

-- no constraint and no run yet
abbrev NoneYet : Hour → Type 0
NoneYet h = From None h.constraints 0 × From None h.runs 0

-- what is blank ahead of the line just read
abbrev AheadBus : ℕ → Hour → Type 0
AheadBus k h = From no_bus h.buses k × (h.lambda ≡ None) × NoneYet h

-- the last constraint is k, with no bus out from m on
record Marking (h : Hour) (k m : ℕ) : Type 0 where
  later : From None h.constraints (suc k)
  last : Constraint
  posted : get_or h.constraints k None ≡ Some last
  words : length last.out ≡ 4
  blank : (j : ℕ) → j < 256 → m ≤ j → member last.out j ≡ false
  runs : From None h.runs 0

abbrev Ahead : Option Kind → Hour → Type 0
Ahead None h = AheadBus 0 h
Ahead (Some (kind.Bus i)) h = (k : ℕ) × (i ≡ pos k) × AheadBus (suc k) h
Ahead (Some kind.Lambda) h = NoneYet h
Ahead (Some (kind.Constraint c)) h = (k : ℕ) × (c ≡ pos k) × Marking h k 0
Ahead (Some (kind.Outage c m)) h = (k : ℕ) × (j : ℕ) × (c ≡ pos k) × (m ≡ pos j) × Marking h k (suc j)
Ahead (Some (kind.Run i)) h = (k : ℕ) × (i ≡ pos k) × From None h.runs (suc k)
Ahead (Some kind.End) h = Unit {0}

marking_from : (h : Hour) (k i m n : ℕ) → k ≡ i → m ≤ n → Marking h k m → Marking h i n
marking_from h k i m n e l w =
    let v = subst (λ (x : ℕ). Marking h x m) e w in
    record { later = v.later; last = v.last; posted = v.posted; words = v.words; blank = λ j lj le. v.blank j lj (omega arith); runs = v.runs }

-- a line that may come leads over what is blank
less : (k i : ℕ) (z : ℤ) → z ≡ pos i → lt_z z (pos k) ≡ true → i < k
less k i z is e = ltb-true i k (sym (ap (λ (y : ℤ). lt_z y (pos k)) is) ∙ e)

equal : (k i : ℕ) (z : ℤ) → z ≡ pos i → eq_z z (pos k) ≡ true → i ≡ k
equal k i z is e = eqb-true i k (sym (ap (λ (y : ℤ). eq_z y (pos k)) is) ∙ e)

bus_ahead : (k : ℕ) (s : Option Kind) (h : Hour) → Ahead s h → bus_after (pos k) s ≡ true → AheadBus k h
bus_ahead k None h a e = (from_later no_bus h.buses 0 k (omega arith) a.0, a.1, a.2)
bus_ahead k (Some (kind.Bus i)) h a e =
    let l = less k a.0 i a.1 e in
    (from_later no_bus h.buses (suc a.0) k (omega arith) a.2.0, a.2.1, a.2.2)
bus_ahead k (Some last) h a e = no_true e

lambda_ahead : (s : Option Kind) (h : Hour) → Ahead s h → lambda_after s ≡ true → (h.lambda ≡ None) × NoneYet h
lambda_ahead None h a e = (a.1, a.2)
lambda_ahead (Some (kind.Bus i)) h a e = (a.2.1, a.2.2)
lambda_ahead (Some last) h a e = no_true e

constraint_ahead : (k : ℕ) (s : Option Kind) (h : Hour) → Ahead s h → constraint_after (pos k) s ≡ true → From None h.constraints k × From None h.runs 0
constraint_ahead k None h a e = (from_later None h.constraints 0 k (omega arith) a.2.0, a.2.1)
constraint_ahead k (Some (kind.Bus i)) h a e = (from_later None h.constraints 0 k (omega arith) a.2.2.0, a.2.2.1)
constraint_ahead k (Some kind.Lambda) h a e = (from_later None h.constraints 0 k (omega arith) a.0, a.1)
constraint_ahead k (Some (kind.Constraint c)) h a e =
    let l = less k a.0 c a.1 e in
    (from_later None h.constraints (suc a.0) k (omega arith) a.2.later, a.2.runs)
constraint_ahead k (Some (kind.Outage c m)) h a e =
    let l = less k a.0 c a.2 e in
    (from_later None h.constraints (suc a.0) k (omega arith) a.4.later, a.4.runs)
constraint_ahead k (Some last) h a e = no_true e

outage_ahead : (k m : ℕ) (s : Option Kind) (h : Hour) → Ahead s h → outage_after (pos k) (pos m) s ≡ true → Marking h k m
outage_ahead k m (Some (kind.Constraint c)) h a e = marking_from h a.0 k 0 m (equal k a.0 c a.1 e) (omega arith) a.2
outage_ahead k m (Some (kind.Outage c j)) h a e =
    let r = and_parts (eq_z c (pos k)) (lt_z j (pos m)) e in
    let l = less m a.1 j a.3 r.1 in
    marking_from h a.0 k (suc a.1) m (equal k a.0 c a.2 r.0) (omega arith) a.4
outage_ahead k m s h a e = no_true e

run_ahead : (k : ℕ) (s : Option Kind) (h : Hour) → Ahead s h → run_after (pos k) s ≡ true → From None h.runs k
run_ahead k None h a e = from_later None h.runs 0 k (omega arith) a.2.1
run_ahead k (Some (kind.Bus i)) h a e = from_later None h.runs 0 k (omega arith) a.2.2.1
run_ahead k (Some kind.Lambda) h a e = from_later None h.runs 0 k (omega arith) a.1
run_ahead k (Some (kind.Constraint c)) h a e = from_later None h.runs 0 k (omega arith) a.2.runs
run_ahead k (Some (kind.Outage c m)) h a e = from_later None h.runs 0 k (omega arith) a.4.runs
run_ahead k (Some (kind.Run i)) h a e =
    let l = less k a.0 i a.1 e in
    from_later None h.runs (suc a.0) k (omega arith) a.2
run_ahead k (Some kind.End) h a e = no_true e

-- the hour has one line more, and what is ahead of it is blank still
record Grown (h : Hour) (r : Row) (h' : Hour) : Type 0 where
  more : rows h' ≡ rows h ++ (r ∷ [])
  sized : Sized h'
  ahead : Ahead (Some (kind_of r)) h'
  going : finished (behind (kind_of r)) ≡ false

no_constraints : (h : Hour) → From None h.constraints 0 → indexed constraint_rows 0 h.constraints ≡ []
no_constraints h none = indexed_none constraint_rows None (λ k. refl) h.constraints 0 none

no_runs : (h : Hour) → From None h.runs 0 → indexed run_row 0 h.runs ≡ []
no_runs h none = indexed_none run_row None (λ k. refl) h.runs 0 none

-- the same line with its numbers written otherwise, and the same hour
moved : (h c d : Hour) (r q : Row) → r ≡ q → c ≡ d → Grown h q c → Grown h r d
moved h c d r q e w g = subst (λ (x : Hour). Grown h r x) w (subst (λ (x : Row). Grown h x c) (sym e) g)

same_ok : {A E : Type 0} (x y : A) → ◌≡◌ {A = Result A E} (Ok x) (Ok y) → x ≡ y
same_ok x y e = cc

-- ---- buses

grow_front : (a n t : List Row) → t ≡ [] → (a ++ n) ++ t ≡ (a ++ t) ++ n
grow_front a n t e = ap (λ (x : List Row). (a ++ n) ++ x) e ∙ append-nil (a ++ n) ∙ ap (λ (x : List Row). x ++ n) (sym (append-nil a) ∙ ap (λ (x : List Row). a ++ x) (sym e))

core_bus : (h : Hour) (s : Option Kind) (k : ℕ) (x : Bus) → Sized h → Ahead s h → k ≤ 255 → blank_bus (bus_numbers k x) ≡ false → bus_after (pos k) s ≡ true → Grown h (row.Bus (bus_numbers k x)) (with_bus h k x)
core_bus h s k x ok a hk full f =
    let w = bus_ahead k s h a f in
    let r = row.Bus (bus_numbers k x) in
    let long : k < length h.buses = omega (arith, ok.buses) in
    let tail : lambda_rows h.lambda ++ (indexed constraint_rows 0 h.constraints ++ indexed run_row 0 h.runs) ≡ [] = (λ i. lambda_rows (w.1 i) ++ (no_constraints h w.2.0 i ++ no_runs h w.2.1 i)) in
    let later = from_later no_bus h.buses k (suc k) (omega arith) w.0 in
    let at-k : 0 + k ≡ k = omega arith in
    let entry : bus_rows (0 + k) x ≡ bus_rows (0 + k) (get_or h.buses k no_bus) ++ (r ∷ []) =
    ap (λ (m : ℕ). bus_rows m x) at-k ∙ cond-false (blank_bus (bus_numbers k x)) [] (r ∷ []) full ∙ ap (λ (y : Bus). bus_rows (0 + k) y ++ (r ∷ [])) (sym (w.0 k (omega arith))) in
    record {
      more = ap (λ (l : List Row). l ++ (lambda_rows h.lambda ++ (indexed constraint_rows 0 h.constraints ++ indexed run_row 0 h.runs))) (indexed_grow bus_rows no_bus (λ m. refl) h.buses 0 k x (r ∷ []) long later entry) ∙ grow_front (indexed bus_rows 0 h.buses) (r ∷ []) _ tail;
      sized = record { buses = length-set h.buses k x ∙ ok.buses; constraints = ok.constraints; runs = ok.runs };
      ahead = (k, refl, (from_set no_bus x h.buses k later, w.1, w.2));
      going = refl;
    }

grown_bus : (h c : Hour) (s : Option Kind) (n : ℕ) (b : BusRow) → Sized h → Ahead s h → blank_bus b ≡ false → bus_after b.bus s ≡ true → enter h n (row.Bus b) ≡ Ok c → Grown h (row.Bus b) c
grown_bus h c s n b ok a full f e =
    let w = values b (put_inv h (bus_given b) c e) in
    let g = w.0 in
    let v = w.1 in
    let k = g.bus in
    let x = g.entry in
    let ebus = up_to_is b.bus 255 k v.bus in
    let ehub = up_to_is b.hub_bus 155 x.hub_bus v.hub in
    let ezone = up_to_is b.zone 16 x.zone v.zone in
    let eday = up_to_is b.day_ahead_load 10000 x.day_ahead.load v.day in
    let ereal = up_to_is b.real_time_load 10000 x.real_time.load v.real in
    let is : b ≡ bus_numbers k x = λ i. record {
      bus = ebus i;
      hub_bus = ehub i;
      zone = ezone i;
      day_ahead_live = v.day_live i;
      day_ahead_load = eday i;
      real_time_live = v.real_live i;
      real_time_load = ereal i;
    } in
    let put : unless 3 HubBusFull (is_full h k x.hub_bus) (Ok (with_bus h k x)) ≡ Ok c = sym (ap (bus_put h) v.is) ∙ e in
    let room = unless_inv 3 HubBusFull (is_full h k x.hub_bus) (Ok (with_bus h k x)) c put in
    moved h (with_bus h k x) c (row.Bus b) (row.Bus (bus_numbers k x)) (ap row.Bus is) (same_ok (with_bus h k x) c room.1)
    (core_bus h s k x ok a (up_to_low b.bus 255 k v.bus) (sym (ap blank_bus is) ∙ full) (sym (ap (λ (z : ℤ). bus_after z s) ebus) ∙ f))

-- ---- lambda

core_lambda : (h : Hour) (s : Option Kind) (z : ℤ) → Sized h → Ahead s h → lambda_after s ≡ true → Grown h (row.Lambda z) (with_lambda h z)
core_lambda h s z ok a f =
    let w = lambda_ahead s h a f in
    let gone : indexed constraint_rows 0 h.constraints ++ indexed run_row 0 h.runs ≡ [] = (λ i. no_constraints h w.1.0 i ++ no_runs h w.1.1 i) in
    let old : lambda_rows h.lambda ++ (indexed constraint_rows 0 h.constraints ++ indexed run_row 0 h.runs) ≡ [] = (λ i. lambda_rows (w.0 i) ++ gone i) in
    let first = indexed bus_rows 0 h.buses in
    record {
      more = ap (λ (l : List Row). first ++ ((row.Lambda z ∷ []) ++ l)) gone ∙ ap (λ (l : List Row). l ++ (row.Lambda z ∷ [])) (sym (append-nil first) ∙ ap (λ (l : List Row). first ++ l) (sym old));
      sized = record { buses = ok.buses; constraints = ok.constraints; runs = ok.runs };
      ahead = w.1;
      going = refl;
    }

grown_lambda : (h c : Hour) (s : Option Kind) (n : ℕ) (z : ℤ) → Sized h → Ahead s h → lambda_after s ≡ true → enter h n (row.Lambda z) ≡ Ok c → Grown h (row.Lambda z) c
grown_lambda h c s n z ok a f e =
    let p = unless_inv 2 LambdaOutside (not (within z most_lambda)) (Ok (with_lambda h z)) c e in
    subst (λ (x : Hour). Grown h (row.Lambda z) x) (same_ok (with_lambda h z) c p.1) (core_lambda h s z ok a f)

-- ---- constraints

grow_middle : (a l m n r : List Row) → r ≡ [] → a ++ (l ++ ((m ++ n) ++ r)) ≡ (a ++ (l ++ (m ++ r))) ++ n
grow_middle a l m n r e =
    ap (λ (x : List Row). a ++ (l ++ x)) (grow_front m n r e) ∙ ap (λ (x : List Row). a ++ x) (sym (append_assoc l (m ++ r) n)) ∙ sym (append_assoc a (l ++ (m ++ r)) n)

core_constraint : (h : Hour) (s : Option Kind) (k : ℕ) (p : ℤ) → Sized h → Ahead s h → k ≤ 31 → constraint_after (pos k) s ≡ true
    → Grown h (row.Constraint (pos k) p) (with_constraint h k (Some (record { shadow_price = p; out = out_of (constraint_at h k) })))
core_constraint h s k p ok a hk f =
    let w = constraint_ahead k s h a f in
    let x : Constraint = record { shadow_price = p; out = no_words } in
    let r = row.Constraint (pos k) p in
    let long : k < length h.constraints = omega (arith, ok.constraints) in
    let later = from_later None h.constraints k (suc k) (omega arith) w.0 in
    let at-k : 0 + k ≡ k = omega arith in
    let entry : constraint_rows (0 + k) (Some x) ≡ constraint_rows (0 + k) (get_or h.constraints k None) ++ (r ∷ []) =
    ap (λ (m : ℕ). constraint_rows m (Some x)) at-k ∙ ap (λ (l : List Row). r ∷ l) (outages_none k (member no_words) 256 (λ j l. no_members j l)) ∙ ap (λ (y : Option Constraint). constraint_rows (0 + k) y ++ (r ∷ [])) (sym (w.0 k (omega arith))) in
    subst (λ (c : Option Constraint). Grown h r (with_constraint h k (Some (record { shadow_price = p; out = out_of c })))) (sym (w.0 k (omega arith)))
    (record {
      more = ap (λ (l : List Row). indexed bus_rows 0 h.buses ++ (lambda_rows h.lambda ++ (l ++ indexed run_row 0 h.runs))) (indexed_grow constraint_rows None (λ m. refl) h.constraints 0 k (Some x) (r ∷ []) long later entry)
          ∙ grow_middle (indexed bus_rows 0 h.buses) (lambda_rows h.lambda) (indexed constraint_rows 0 h.constraints) (r ∷ []) (indexed run_row 0 h.runs) (no_runs h w.1);
      sized = record { buses = ok.buses; constraints = length-set h.constraints k (Some x) ∙ ok.constraints; runs = ok.runs };
      ahead = (k, refl, record { later = from_set None (Some x) h.constraints k later; last = x; posted = get_or-set_same h.constraints k (Some x) None long; words = refl; blank = λ j l _. no_members j l; runs = w.1 });
      going = refl;
    })

grown_constraint : (h c : Hour) (s : Option Kind) (n : ℕ) (i p : ℤ) → Sized h → Ahead s h → constraint_after i s ≡ true → enter h n (row.Constraint i p) ≡ Ok c → Grown h (row.Constraint i p) c
grown_constraint h c s n i p ok a f e =
    let x = valued_inv 2 ConstraintOutside (up_to i 31) _ c e in
    let k = x.0 in
    let is = up_to_is i 31 k x.1 in
    let new = with_constraint h k (Some (record { shadow_price = p; out = out_of (constraint_at h k) })) in
    let q = unless_inv 3 ShadowPriceOutside (not (within p most_shadow_price)) (Ok new) c x.2 in
    moved h new c (row.Constraint i p) (row.Constraint (pos k) p) (ap (λ (z : ℤ). row.Constraint z p) is) (same_ok new c q.1)
    (core_constraint h s k p ok a (up_to_low i 31 k x.1) (sym (ap (λ (z : ℤ). constraint_after z s) is) ∙ f))

-- ---- outages

core_outage : (h : Hour) (s : Option Kind) (k m : ℕ) → Sized h → Ahead s h → k ≤ 31 → m ≤ 255 → outage_after (pos k) (pos m) s ≡ true
    → (x : Constraint) × (constraint_at h k ≡ Some x) × Grown h (row.Outage (pos k) (pos m)) (with_constraint h k (Some (record { shadow_price = x.shadow_price; out = marked x.out m true })))
core_outage h s k m ok a hk hm f =
    let v = outage_ahead k m s h a f in
    let x = v.last in
    let ws = x.out in
    let new : Constraint = record { shadow_price = x.shadow_price; out = marked ws m true } in
    let r = row.Outage (pos k) (pos m) in
    let low : m < 256 = omega arith in
    let long : k < length h.constraints = omega (arith, ok.constraints) in
    let at-k : 0 + k ≡ k = omega arith in
    let here : member (marked ws m true) m ≡ true = member_with ws m m true v.words low low ∙ cond-true (eqb m m) true (member ws m) (eq-eqb m m refl) in
    let other : (j : ℕ) → j < 256 → (j ≡ m → ⊥) → member (marked ws m true) j ≡ member ws j = λ j l ne. member_with ws m j true v.words low l ∙ cond-false (eqb j m) true (member ws j) (ne_eqb j m ne) in
    let outs = outages_grow k (member ws) (member (marked ws m true)) m 256 low (λ j l le. v.blank j l le) other here in
    let entry : constraint_rows (0 + k) (Some new) ≡ constraint_rows (0 + k) (get_or h.constraints k None) ++ (r ∷ []) =
    ap (λ (j : ℕ). constraint_rows j (Some new)) at-k ∙ ap (λ (l : List Row). row.Constraint (pos k) x.shadow_price ∷ l) outs ∙ ap (λ (j : ℕ). constraint_rows j (Some x) ++ (r ∷ [])) (sym at-k)
    ∙ ap (λ (y : Option Constraint). constraint_rows (0 + k) y ++ (r ∷ [])) (sym v.posted) in (
      x,
      v.posted,
      record {
        more = ap (λ (l : List Row). indexed bus_rows 0 h.buses ++ (lambda_rows h.lambda ++ (l ++ indexed run_row 0 h.runs))) (indexed_grow constraint_rows None (λ j. refl) h.constraints 0 k (Some new) (r ∷ []) long v.later entry)
            ∙ grow_middle (indexed bus_rows 0 h.buses) (lambda_rows h.lambda) (indexed constraint_rows 0 h.constraints) (r ∷ []) (indexed run_row 0 h.runs) (no_runs h v.runs);
        sized = record { buses = ok.buses; constraints = length-set h.constraints k (Some new) ∙ ok.constraints; runs = ok.runs };
        ahead = (
          k,
          m,
          refl,
          refl,
          record {
            later = from_set None (Some new) h.constraints k v.later;
            last = new;
            posted = get_or-set_same h.constraints k (Some new) None long;
            words = length-set ws (m / 64) _ ∙ v.words;
            blank = λ j l le. other j l (λ e. omega arith) ∙ v.blank j l (omega arith);
            runs = v.runs;
          },
        );
        going = refl;
      },
    )

grown_outage : (h c : Hour) (s : Option Kind) (n : ℕ) (i m : ℤ) → Sized h → Ahead s h → outage_after i m s ≡ true → enter h n (row.Outage i m) ≡ Ok c → Grown h (row.Outage i m) c
grown_outage h c s n i m ok a f e =
    let x = valued_inv 2 ConstraintOutside (up_to i 31) _ c e in
    let y = valued_inv 3 BusOutside (up_to m 255) _ c x.2 in
    let k = x.0 in
    let j = y.0 in
    let ei = up_to_is i 31 k x.1 in
    let em = up_to_is m 255 j y.1 in
    let w = core_outage h s k j ok a (up_to_low i 31 k x.1) (up_to_low m 255 j y.1) ((λ q. outage_after (sym ei q) (sym em q) s) ∙ f) in
    let o = w.0 in
    let new = with_constraint h k (Some (record { shadow_price = o.shadow_price; out = marked o.out j true })) in
    let put : ◌≡◌ {A = Result Hour Spot} (Ok new) (Ok c) = sym (valued_is 3 NotPosted (constraint_at h k) _ o w.1) ∙ y.2 in
    moved h new c (row.Outage i m) (row.Outage (pos k) (pos j)) (λ q. row.Outage (ei q) (em q)) (same_ok new c put) w.2

-- ---- runs

grow_back : (a l m r n : List Row) → a ++ (l ++ (m ++ (r ++ n))) ≡ (a ++ (l ++ (m ++ r))) ++ n
grow_back a l m r n = simp append_assoc

core_run : (h : Hour) (s : Option Kind) (k : ℕ) (x : Run) → Sized h → Ahead s h → k ≤ 15 → run_after (pos k) s ≡ true
    → Grown h (row.Run (pos k) (pos x.seconds) x.reserve_adder x.reliability_adder) (with_run h k (Some x))
core_run h s k x ok a hk f =
    let w = run_ahead k s h a f in
    let r = row.Run (pos k) (pos x.seconds) x.reserve_adder x.reliability_adder in
    let long : k < length h.runs = omega (arith, ok.runs) in
    let later = from_later None h.runs k (suc k) (omega arith) w in
    let at-k : 0 + k ≡ k = omega arith in
    let entry : run_row (0 + k) (Some x) ≡ run_row (0 + k) (get_or h.runs k None) ++ (r ∷ []) =
    ap (λ (m : ℕ). run_row m (Some x)) at-k ∙ ap (λ (y : Option Run). run_row (0 + k) y ++ (r ∷ [])) (sym (w k (omega arith))) in
    record {
      more = ap (λ (l : List Row). indexed bus_rows 0 h.buses ++ (lambda_rows h.lambda ++ (indexed constraint_rows 0 h.constraints ++ l))) (indexed_grow run_row None (λ m. refl) h.runs 0 k (Some x) (r ∷ []) long later entry)
          ∙ grow_back (indexed bus_rows 0 h.buses) (lambda_rows h.lambda) (indexed constraint_rows 0 h.constraints) (indexed run_row 0 h.runs) (r ∷ []);
      sized = record { buses = ok.buses; constraints = ok.constraints; runs = length-set h.runs k (Some x) ∙ ok.runs };
      ahead = (k, refl, from_set None (Some x) h.runs k later);
      going = refl;
    }

grown_run : (h c : Hour) (s : Option Kind) (n : ℕ) (i z p q : ℤ) → Sized h → Ahead s h → run_after i s ≡ true → enter h n (row.Run i z p q) ≡ Ok c → Grown h (row.Run i z p q) c
grown_run h c s n i z p q ok a f e =
    let x = valued_inv 2 RunOutside (up_to i 15) _ c e in
    let k = x.0 in
    let y₁ = unless_inv 3 SecondsOutside (le_z z (pos 0)) _ c x.2 in
    let y₂ = unless_inv 4 AdderOutside (not (within p most_adder)) _ c y₁.1 in
    let y₃ = unless_inv 5 AdderOutside (not (within q most_adder)) _ c y₂.1 in
    let y = valued_inv 3 SecondsOutside (up_to z (900 - other_seconds h k)) _ c y₃.1 in
    let ei = up_to_is i 15 k x.1 in
    let ez = up_to_is z (900 - other_seconds h k) y.0 y.1 in
    let new = with_run h k (Some (entered_run y.0 p q)) in
    moved h new c (row.Run i z p q) (row.Run (pos k) (pos y.0) p q) (λ j. row.Run (ei j) (ez j) p q) (same_ok new c y.2)
    (core_run h s k (entered_run y.0 p q) ok a (up_to_low i 15 k x.1) (sym (ap (λ (v : ℤ). run_after v s) ei) ∙ f))

-- ---- all the lines

-- the lines of the hour so far, with those that are left, are the lines of the hour that comes of them
abbrev Left : Hour → List Row → Hour → Type 0
Left h rs c = rows h ++ rs ≡ all_rows c

-- what holds of the lines that are left
abbrev Again : List Row → Hour → Type 0
Again rs c = (m : ℕ) (h : Hour) (t : Stage) → Sized h → Ahead t.last h → finished t ≡ false → m ≡ length (rows h) + 1 → run_rows (place t h) m rs ≡ Ok c → Left h rs c

onto : (n : ℕ) (h : Hour) (rs : List Row) (c : Hour) (q : Place) (again : Again rs c) (r : Row) → n ≡ length (rows h) + 1 → behind (kind_of r) ≡ q.stage → run_rows q (n + 1) rs ≡ Ok c → Grown h r q.hour → Left h (r ∷ rs) c
onto n h rs c q again r e b w g =
    let len : length (rows q.hour) ≡ length (rows h) + 1 = ap length g.more ∙ length_push (rows h) r in
    let z = again (n + 1) q.hour (behind (kind_of r)) g.sized g.ahead g.going (omega arith) (ap (λ (t : Stage). run_rows (place t q.hour) (n + 1) rs) b ∙ w) in
    sym (append_assoc (rows h) (r ∷ []) rs) ∙ ap (λ (l : List Row). l ++ rs) (sym g.more) ∙ z

-- nothing follows the end
past_end : (p : Place) (n : ℕ) (rs : List Row) (c : Hour) → finished p.stage ≡ true → run_rows p n rs ≡ Ok c → (rs ≡ []) × (p.hour ≡ c)
past_end p n [] c d e = (refl, same_ok p.hour c (sym (cond-true (finished p.stage) (Ok p.hour) (Err (misended n)) d) ∙ e))
past_end p n (r ∷ rs) c d e = never c (misended n) (sym (cond-true (finished p.stage) (Err (misended n)) _ d) ∙ e)

eq_z_pos : (z : ℤ) (n : ℕ) → eq_z z (pos n) ≡ true → z ≡ pos n
eq_z_pos (pos m) n e = ap pos (eqb-true m n e)
eq_z_pos (negsuc m) n e = let w : ◌≡◌ {A = ℕ} 0 1 = ap (λ (b : Bool). cond b 1 0) e in absurd (omega arith)

counted : (t : Bool) (h y : Hour) → cond t (Ok h) (Err (spot Ending 0)) ≡ Ok y → (t ≡ true) × (h ≡ y)
counted true h y e = (refl, same_ok h y e)
counted false h y e = never y (spot Ending 0) e

at_end : (n : ℕ) (h : Hour) (z : ℤ) (rs : List Row) (c : Hour) (q : Place) → n ≡ length (rows h) + 1 → behind kind.End ≡ q.stage → enter h (n - 1) (row.End z) ≡ Ok q.hour → run_rows q (n + 1) rs ≡ Ok c → Left h (row.End z ∷ rs) c
at_end n h z rs c q e b k w =
    let p = counted (eq_z z (pos (n - 1))) h q.hour k in
    let x = past_end q (n + 1) rs c (sym (ap finished b)) w in
    let same : h ≡ c = p.1 ∙ x.1 in
    let count : n - 1 ≡ length (rows h) = omega arith in
    let zz : z ≡ pos (length (rows h)) = eq_z_pos z (n - 1) p.0 ∙ ap pos count in
    (λ i. rows h ++ (row.End (zz i) ∷ x.0 i)) ∙ ap all_rows same

taken : (n : ℕ) (h : Hour) (s : Option Kind) (r : Row) (rs : List Row) (c : Hour) (q : Place) (again : Again rs c) → Sized h → Ahead s h → n ≡ length (rows h) + 1
    → blank_row r ≡ false → may_follow s (kind_of r) ≡ true → behind (kind_of r) ≡ q.stage → enter h (n - 1) r ≡ Ok q.hour → run_rows q (n + 1) rs ≡ Ok c → Left h (r ∷ rs) c
taken n h s (row.Bus b) rs c q again ok a e full f t k w = onto n h rs c q again (row.Bus b) e t w (grown_bus h q.hour s (n - 1) b ok a full f k)
taken n h s (row.Lambda z) rs c q again ok a e full f t k w = onto n h rs c q again (row.Lambda z) e t w (grown_lambda h q.hour s (n - 1) z ok a f k)
taken n h s (row.Constraint i p) rs c q again ok a e full f t k w = onto n h rs c q again (row.Constraint i p) e t w (grown_constraint h q.hour s (n - 1) i p ok a f k)
taken n h s (row.Outage i m) rs c q again ok a e full f t k w = onto n h rs c q again (row.Outage i m) e t w (grown_outage h q.hour s (n - 1) i m ok a f k)
taken n h s (row.Run i z p r) rs c q again ok a e full f t k w = onto n h rs c q again (row.Run i z p r) e t w (grown_run h q.hour s (n - 1) i z p r ok a f k)
taken n h s (row.End z) rs c q again ok a e full f t k w = at_end n h z rs c q e t k w

stepped : (n : ℕ) (h : Hour) (s : Stage) (r : Row) (rs : List Row) (c : Hour) (x : Result Place Spot) (again : Again rs c) → Sized h → Ahead s.last h → n ≡ length (rows h) + 1
    → step (place s h) (n - 1) r ≡ x → onward (in_line n x) (λ q. run_rows q (n + 1) rs) ≡ Ok c → Left h (r ∷ rs) c
stepped n h s r rs c (Ok q) again ok a e k w =
    let p = step_by_inv (next s r) (enter h (n - 1) r) q k in
    let o = next_inv (blank_row r) (may_follow s.last (kind_of r)) (kind_of r) q.stage p.0 in
    taken n h s.last r rs c q again ok a e o.0 o.1 o.2 p.1 w
stepped n h s r rs c (Err d) again ok a e k w = never c (fault d.why n d.field) w

rows_are : (rs : List Row) (c : Hour) (n : ℕ) (h : Hour) (s : Stage) → Sized h → Ahead s.last h → finished s ≡ false → n ≡ length (rows h) + 1 → run_rows (place s h) n rs ≡ Ok c → Left h rs c
rows_are [] c n h s ok a d e w = never c (misended n) (sym (cond-false (finished s) (Ok h) (Err (misended n)) d) ∙ w)
rows_are (r ∷ rs) c n h s ok a d e w =
    stepped n h s r rs c (step (place s h) (n - 1) r) (λ m x t. rows_are rs c m x t) ok a e refl
    (sym (cond-false (finished s) (Err (misended n)) (onward (in_line n (step (place s h) (n - 1) r)) (λ q. run_rows q (n + 1) rs)) d) ∙ w)

-- from an hour with nothing in it
only : (nb : List Bus) (nc : List (Option Constraint)) (nr : List (Option Run)) → length nb ≡ 256 → length nc ≡ 32 → length nr ≡ 16 → From no_bus nb 0 → From None nc 0 → From None nr 0
    → (rs : List Row) (c : Hour) → run_rows (place start (record { buses = nb; lambda = None; constraints = nc; runs = nr })) 1 rs ≡ Ok c → rs ≡ all_rows c
only nb nc nr lo lc lr fo fc fr rs c e =
    let h : Hour = record { buses = nb; lambda = None; constraints = nc; runs = nr } in
    let none : rows h ≡ [] = (λ i. indexed_none bus_rows no_bus (λ k. refl) nb 0 fo i ++ (no_constraints h fc i ++ no_runs h fr i)) in
    let first : 1 ≡ length (rows h) + 1 = sym (ap (λ (l : List Row). length l + 1) none) in
    sym (ap (λ (l : List Row). l ++ rs) none) ∙ rows_are rs c 1 h start (record { buses = lo; constraints = lc; runs = lr }) (fo, refl, (fc, fr)) refl first e

pub only_saved : OnlySaved
only_saved rs c e =
    only (replicate 256 no_bus) (replicate 32 None) (replicate 16 None) (length-replicate 256 no_bus) (length-replicate {A = Option Constraint} 32 None) (length-replicate {A = Option Run} 16 None)
    (from_replicate no_bus 256) (from_replicate {A = Option Constraint} None 32) (from_replicate {A = Option Run} None 16) rs c e
