-- The lines of a book are taken, and make that book.
use Rattle.std.proofs.Common.{◌≡◌, ℕ, zero, suc, ◌+◌, ◌-◌, ◌/◌, ◌%◌, ◌^◌, ◌<◌, ◌≤◌, Bool, true, false, cond, not, ◌&&◌, eqb, ltb, leb, List, [], ◌∷◌, ◌++◌, length, get_or, set, replicate, ℤ, pos, negsuc, Some, None, Ok, Err, sum_by, Option, Result, sym, refl, ap, ◌∙◌, subst, ⊎_elim, append-nil, add-one, arith}
use lib.Bits.{bit_or}
use lib.Pow.{pow-lt}
use lib.Signed.{lt_z}
use Rattle.std.specs.List.{remove}
use Rattle.std.proofs.lemmas.Nat.{or_lt, mod_below}
use Rattle.std.proofs.lemmas.List.{get_or-set_same, set-set, length-replicate}
use Rattle.std.proofs.lemmas.Bool.{cond-true, cond-false, cases_Bool, cases_eq, ltb-true, lt-ltb, le-ltb, eqb-true, eq-eqb, ne_eqb, and_parts, and_from, le-leb, lt-leb, leb-true, not-true}
use Rattle.std.proofs.lemmas.Bool.Decides.{nat_tests}
use Rattle.refusals.specs.declared.Refusal.TheVariants.{BusOutside, HubBusOutside, ZoneOutside, HubBusFull, LoadOutside, ConstraintOutside, ShadowPriceOutside, NotPosted, LambdaOutside, RunOutside, SecondsOutside, AdderOutside}
use Rattle.faults.specs.declared.Spot.{Spot}
use Rattle.faults.specs.declared.Why.TheVariants.{Ending}
use Rattle.faults.specs.Faults.{in_line, spot}
use Rattle.bus_set.specs.Sets.{member, marked, four_words, SetOf}
use Rattle.bus_set.proofs.Sets.{words_length, words_below, words_set, marked_more, marked_none, marked_all}
use Rattle.bounds.specs.Bounds.{up_to, within}
use Rattle.hour.specs.Limits.{most_shadow_price, most_adder}
use Rattle.hour.specs.Sound.{when_some, bus_sound, lambda_sound, constraint_sound, run_sound, FewPerHubBus, hub_bus_size, in_hub_bus, total_seconds, seconds_of}
use Rattle.hour.specs.Hour.{Hour, entries, no_bus, with_bus, with_constraint, with_run, constraint_at, out_of}
use Rattle.hour.specs.Steps.{other_seconds, entered_run}
use Rattle.hour.specs.declared.records.Bus.{Bus}
use Rattle.hour.specs.declared.records.Constraint.{Constraint}
use Rattle.hour.specs.declared.records.Run.{Run}
use Rattle.hour.specs.declared.book.Book.{Book}
use Rattle.hour.proofs.Tables.{sum_by_put}
use Rattle.saved_rows.specs.declared.row.Row.{Row}
use Rattle.saved_rows.specs.declared.row.Row.TheVariants as row
use Rattle.saved_rows.specs.declared.stage.Kind.{Kind}
use Rattle.saved_rows.specs.declared.stage.Kind.TheVariants as kind
use Rattle.saved_rows.specs.declared.stage.Stage.{Stage}
use Rattle.saved_rows.specs.Order.{bus_after, lambda_after, constraint_after, outage_after, run_after, end_after, start, behind, eq_z, blank_bus, in_order}
use Rattle.saved_rows.specs.Entering.{enter, valued, unless, bus_given, bus_put}
use Rattle.saved_rows.specs.Rows.{indexed, bus_numbers, bus_rows, lambda_rows, outage_rows, constraint_rows, run_row, rows, all_rows}
use Rattle.saved_rows.specs.Running.{Place, place, onward, run_rows, step_by}
use Rattle.saved_rows.specs.Laws.{ReadsBack}
use Rattle.saved_rows.proofs.Calls.{valued_is}
use Rattle.saved_rows.proofs.Marks.{outages_more, words_same, no_words}
use Rattle.saved_rows.proofs.Runs.{Runs, runs_none, runs_append, runs_one, runs_blank, table, no_true, going}
use Rattle.saved_rows.proofs.Tables.{From, from_replicate, set_from, set_all, sum_front}

up_is : (n m : ℕ) → n ≤ m → up_to (pos n) m ≡ Some n
up_is n m l = cond-true (leb n m) (Some n) None (le-leb n m l)

lt_z_suc : (i : ℤ) (k : ℕ) → lt_z i (pos k) ≡ true → lt_z i (pos (suc k)) ≡ true
lt_z_suc (pos j) k e = lt-ltb j (suc k) (omega (arith, ltb-true j k e))
lt_z_suc (negsuc j) k e = refl

eq_then_lt : (i : ℤ) (k : ℕ) → eq_z i (pos k) ≡ true → lt_z i (pos (suc k)) ≡ true
eq_then_lt (pos j) k e = lt-ltb j (suc k) (omega (arith, eqb-true j k e))
eq_then_lt (negsuc j) k e = refl

-- ---- buses

bus_later : (k : ℕ) (s : Option Kind) → bus_after (pos k) s ≡ true → bus_after (pos (suc k)) s ≡ true
bus_later k None q = refl
bus_later k (Some (kind.Bus i)) q = lt_z_suc i k q
bus_later k (Some last) q = q

-- a bus all 0 is that of a fresh book
blank_is : (k : ℕ) (x : Bus) → blank_bus (bus_numbers k x) ≡ true → x ≡ no_bus
blank_is k x e =
    let a = and_parts (eqb x.hub_bus 0) _ e in
    let b = and_parts (eqb x.zone 0) _ a.1 in
    let c = and_parts (not x.day_ahead.live && eqb x.day_ahead.load 0) (not x.real_time.live && eqb x.real_time.load 0) b.1 in
    let d = and_parts (not x.day_ahead.live) (eqb x.day_ahead.load 0) c.0 in
    let r = and_parts (not x.real_time.live) (eqb x.real_time.load 0) c.1 in
    λ i. record {
      hub_bus = eqb-true x.hub_bus 0 a.0 i;
      zone = eqb-true x.zone 0 b.0 i;
      day_ahead = record { live = not-true x.day_ahead.live d.0 i; load = eqb-true x.day_ahead.load 0 d.1 i };
      real_time = record { live = not-true x.real_time.live r.0 i; load = eqb-true x.real_time.load 0 r.1 i };
    }

-- a bus that may stand in the table has room in its hub bus
room : (t : List Bus) (k : ℕ) (x : Bus) → k < length t → FewPerHubBus (set t k x) → (ltb 0 x.hub_bus && leb 8 (hub_bus_size x.hub_bus (remove t k))) ≡ false
room t k x l few = ⊎_elim
    (λ (some : ltb 0 x.hub_bus ≡ true).
    let f : Bus → ℕ = λ y. cond (in_hub_bus x.hub_bus y) 1 0 in
    let one : f x ≡ 1 = cond-true (in_hub_bus x.hub_bus x) 1 0 (eq-eqb x.hub_bus x.hub_bus refl) in
    let put = sum_by_put f t k x no_bus l in
    let most = few x.hub_bus (ltb-true 0 x.hub_bus some) in
    let under : sum_by f (remove t k) < 8 = omega (arith, one, put, most) in
    (λ i. some i && lt-leb 8 (hub_bus_size x.hub_bus (remove t k)) under i))
    (λ (none : ltb 0 x.hub_bus ≡ false). ap (λ (b : Bool). b && leb 8 (hub_bus_size x.hub_bus (remove t k))) none)
    (cases_Bool (ltb 0 x.hub_bus))

enter_bus : (h : Hour) (n k : ℕ) (x : Bus) → k < 256 → k < length h.buses → bus_sound x ≡ true → FewPerHubBus (set h.buses k x) → enter h n (row.Bus (bus_numbers k x)) ≡ Ok (with_bus h k x)
enter_bus h n k x hk l g few =
    let a = and_parts (leb x.hub_bus 155) _ g in
    let b = and_parts (leb x.zone 16) _ a.1 in
    let c = and_parts (leb x.day_ahead.load 10000) (leb x.real_time.load 10000) b.1 in
    let given : bus_given (bus_numbers k x) ≡ Ok (record { bus = k; entry = x }) =
    valued_is 2 BusOutside (up_to (pos k) 255) _ k (up_is k 255 (omega arith))
    ∙ valued_is 3 HubBusOutside (up_to (pos x.hub_bus) 155) _ x.hub_bus (up_is _ 155 (leb-true _ 155 a.0))
    ∙ valued_is 4 ZoneOutside (up_to (pos x.zone) 16) _ x.zone (up_is _ 16 (leb-true _ 16 b.0))
    ∙ valued_is 6 LoadOutside (up_to (pos x.day_ahead.load) 10000) _ x.day_ahead.load (up_is _ 10000 (leb-true _ 10000 c.0))
    ∙ valued_is 8 LoadOutside (up_to (pos x.real_time.load) 10000) _ x.real_time.load (up_is _ 10000 (leb-true _ 10000 c.1)) in
    ap (bus_put h) given ∙ ap (λ (b : Bool). unless 3 HubBusFull b (Ok (with_bus h k x))) (room h.buses k x l few)

few_front : (xs t : List Bus) (k : ℕ) → length t ≡ k + length xs → From no_bus t k → FewPerHubBus (set_from t k xs) → FewPerHubBus t
few_front xs t k e h few hub p =
    let f : Bus → ℕ = λ y. cond (in_hub_bus hub y) 1 0 in
    let none : f no_bus ≡ 0 = cond-false (eqb 0 hub) 1 0 (ne_eqb 0 hub (λ z. omega arith)) in
    omega (arith, sum_front f no_bus none xs t k e h, few hub p)

bus_entry : (l : Option ℤ) (c : List (Option Constraint)) (rs : List (Option Run)) (t : List Bus) (k : ℕ) (x : Bus) (s : Stage) → k < 256 → length t ≡ 256 → bus_sound x ≡ true → FewPerHubBus (set t k x) → (bus_after (pos k) s.last ≡ true) → From no_bus t k
    → (u : Stage) × (bus_after (pos (suc k)) u.last ≡ true) × Runs (place s (record { buses = t; lambda = l; constraints = c; runs = rs })) (bus_rows k x) (place u (record { buses = set t k x; lambda = l; constraints = c; runs = rs }))
bus_entry l c rs t k x s hk hl g few q h = ⊎_elim
    (λ (e : blank_bus (bus_numbers k x) ≡ true).
    (s, bus_later k s.last q, runs_blank (λ y. record { buses = y; lambda = l; constraints = c; runs = rs }) no_bus x t k s (bus_rows k x) (cond-true _ _ _ e) (blank_is k x e) h))
    (λ (e : blank_bus (bus_numbers k x) ≡ false).
    let b : Hour = record { buses = t; lambda = l; constraints = c; runs = rs } in (
      behind (kind.Bus (pos k)),
      lt-ltb k (suc k) (omega arith),
      subst (λ (rs : List Row). Runs (place s b) rs (place (behind (kind.Bus (pos k))) (with_bus b k x))) (sym (cond-false _ _ _ e))
          (runs_one s b (with_bus b k x) (row.Bus (bus_numbers k x)) e q (λ n. enter_bus b n k x hk (omega arith) g few)),
    ))
    (cases_Bool (blank_bus (bus_numbers k x)))

-- ---- lambda

lambda_runs : (bs : List Bus) (c : List (Option Constraint)) (rs : List (Option Run)) (l : Option ℤ) (s : Stage) → when_some lambda_sound l ≡ true → (bus_after (pos 256) s.last ≡ true)
    → (u : Stage) × (constraint_after (pos 0) u.last ≡ true) × Runs (place s (record { buses = bs; lambda = None; constraints = c; runs = rs })) (lambda_rows l) (place u (record { buses = bs; lambda = l; constraints = c; runs = rs }))
lambda_runs bs c rs None s g q = (s, after s.last q, runs_none _)
  where
    after : (s : Option Kind) → bus_after (pos 256) s ≡ true → constraint_after (pos 0) s ≡ true
    after None q = refl
    after (Some (kind.Bus i)) q = refl
    after (Some last) q = no_true q
lambda_runs bs c rs (Some z) s g q =
    let b : Hour = record { buses = bs; lambda = None; constraints = c; runs = rs } in
    let b' : Hour = record { buses = bs; lambda = Some z; constraints = c; runs = rs } in
    (behind kind.Lambda, refl, runs_one s b b' (row.Lambda z) refl (next s.last q) (λ n. ap (λ (t : Bool). unless 2 LambdaOutside (not t) (Ok b')) g))
  where
    next : (s : Option Kind) → bus_after (pos 256) s ≡ true → lambda_after s ≡ true
    next None q = refl
    next (Some (kind.Bus i)) q = refl
    next (Some last) q = no_true q

-- ---- outages

mark_later : (k j : ℕ) (s : Option Kind) → outage_after (pos k) (pos j) s ≡ true → outage_after (pos k) (pos (suc j)) s ≡ true
mark_later k j (Some (kind.Constraint c)) q = q
mark_later k j (Some (kind.Outage c m)) q =
    let p = and_parts (eq_z c (pos k)) (lt_z m (pos j)) q in
    and_from (eq_z c (pos k)) (lt_z m (pos (suc j))) p.0 (lt_z_suc m j p.1)
mark_later k j s q = no_true q

pub words_marked : (ws : List ℕ) (j : ℕ) → j < 256 → four_words ws ≡ true → four_words (marked ws j true) ≡ true
words_marked ws j l h =
    let w = get_or ws (j / 64) 0 in
    words_set ws (j / 64) (bit_or w (2 ^ (j % 64))) (omega arith) (or_lt 64 w (2 ^ (j % 64)) (words_below ws h (j / 64) (omega arith)) (pow-lt (mod_below j 64 (omega arith)))) h

module _ (bs : List Bus) (l : Option ℤ) (t : List (Option Constraint)) (rs : List (Option Run)) (k : ℕ) (p : ℤ) (hk : k < 32) (ht : length t ≡ 32) where
  -- the hour with these outages under constraint k
  abbrev marks : List ℕ → Hour
  marks ws = record { buses = bs; lambda = l; constraints = set t k (Some (record { shadow_price = p; out = ws })); runs = rs }

  enter_mark : (ws : List ℕ) (n j : ℕ) → j < 256 → enter (marks ws) n (row.Outage (pos k) (pos j)) ≡ Ok (marks (marked ws j true))
  enter_mark ws n j hj =
      let x : Constraint = record { shadow_price = p; out = ws } in
      let y : Constraint = record { shadow_price = p; out = marked ws j true } in
      valued_is 2 ConstraintOutside (up_to (pos k) 31) _ k (up_is k 31 (omega arith))
      ∙ valued_is 3 BusOutside (up_to (pos j) 255) _ j (up_is j 255 (omega arith))
      ∙ valued_is 3 NotPosted (get_or (set t k (Some x)) k None) _ x (get_or-set_same t k (Some x) None (omega arith))
      ∙ ap (λ (cs : List (Option Constraint)). Ok (record { buses = bs; lambda = l; constraints = cs; runs = rs })) (set-set t k (Some x) (Some y))

  -- the buses below n that are out, marked one by one
  abbrev Marked : List ℕ → ℕ → Type 0
  Marked target n = (u : Stage) × (ws : List ℕ) × (outage_after (pos k) (pos n) u.last ≡ true) × (four_words ws ≡ true) × SetOf (λ j. ltb j n && member target j) ws
      × Runs (place (behind (kind.Constraint (pos k))) (marks no_words)) (outage_rows k (member target) n) (place u (marks ws))

  marks_more : (target : List ℕ) (n : ℕ) (b : Bool) → n < 256 → member target n ≡ b → Marked target n → Marked target (suc n)
  marks_more target n true l e (u, ws, q, four, is, runs) =
      let one : Runs (place u (marks ws)) (cond (member target n) (row.Outage (pos k) (pos n) ∷ []) []) (place (behind (kind.Outage (pos k) (pos n))) (marks (marked ws n true))) =
      subst (λ (b : Bool). Runs (place u (marks ws)) (cond b (row.Outage (pos k) (pos n) ∷ []) []) (place (behind (kind.Outage (pos k) (pos n))) (marks (marked ws n true)))) (sym e)
      (runs_one u (marks ws) (marks (marked ws n true)) (row.Outage (pos k) (pos n)) refl q (λ m. enter_mark ws m n l)) in (
        behind (kind.Outage (pos k) (pos n)),
        marked ws n true,
        and_from (eqb k k) (ltb n (suc n)) (eq-eqb k k refl) (lt-ltb n (suc n) (omega arith)),
        words_marked ws n l four,
        subst (λ (m : ℕ). SetOf (λ j. ltb j m && member target j) (marked ws n true)) (add-one n) (marked_more (member target) ws n true (words_length ws four) l (sym e) is),
        subst (λ (rs : List Row). Runs (place (behind (kind.Constraint (pos k))) (marks no_words)) rs (place (behind (kind.Outage (pos k) (pos n))) (marks (marked ws n true)))) (sym (outages_more k (member target) n))
            (runs_append (place (behind (kind.Constraint (pos k))) (marks no_words)) (place u (marks ws)) (place (behind (kind.Outage (pos k) (pos n))) (marks (marked ws n true))) (outage_rows k (member target) n) _ runs one),
      )
  marks_more target n false l e (u, ws, q, four, is, runs) =
      let none : cond (member target n) (row.Outage (pos k) (pos n) ∷ []) [] ≡ [] = cond-false (member target n) _ [] e in (
        u,
        ws,
        mark_later k n u.last q,
        four,
        (λ j lj. is j lj ∙ below j),
        subst (λ (rs : List Row). Runs (place (behind (kind.Constraint (pos k))) (marks no_words)) rs (place u (marks ws))) (sym (outages_more k (member target) n ∙ ap (λ (r : List Row). outage_rows k (member target) n ++ r) none ∙ append-nil (outage_rows k (member target) n))) runs,
      )
    where
      below : (j : ℕ) → (ltb j n && member target j) ≡ (ltb j (suc n) && member target j)
      below j = ⊎_elim
          (λ (same : j ≡ n). ap (λ (b : Bool). b && member target j) (le-ltb j n (omega arith)) ∙ sym (λ i. lt-ltb j (suc n) (omega arith) i && (ap (member target) same ∙ e) i))
          (λ (other : j ≡ n → ⊥). let t : ltb j n ≡ ltb j (suc n) = grind (arith, nat_tests) in ap (λ (b : Bool). b && member target j) t)
          (cases_eq j n)

  marks_below : (target : List ℕ) (n : ℕ) → n ≤ 256 → Marked target n
  unfolding outage_rows
  marks_below target zero l = (behind (kind.Constraint (pos k)), no_words, eq-eqb k k refl, refl, marked_none (member target), runs_none (place (behind (kind.Constraint (pos k))) (marks no_words)))
  marks_below target (suc n) l = marks_more target n (member target n) (omega arith) refl (marks_below target n (omega arith))

  all_marks : (target : List ℕ) → four_words target ≡ true → (u : Stage) × (outage_after (pos k) (pos 256) u.last ≡ true) × Runs (place (behind (kind.Constraint (pos k))) (marks no_words)) (outage_rows k (member target) 256) (place u (marks target))
  all_marks target h =
      let m = marks_below target 256 (omega arith) in
      let same : m.1 ≡ target = words_same m.1 target m.3 h (marked_all (member target) m.1 256 (omega arith) m.4) in
      (m.0, m.2, subst (λ (ws : List ℕ). Runs (place (behind (kind.Constraint (pos k))) (marks no_words)) (outage_rows k (member target) 256) (place m.0 (marks ws))) same m.5)

-- ---- constraints

constraint_later : (k : ℕ) (s : Option Kind) → constraint_after (pos k) s ≡ true → constraint_after (pos (suc k)) s ≡ true
constraint_later k (Some (kind.Constraint c)) q = lt_z_suc c k q
constraint_later k (Some (kind.Outage c m)) q = lt_z_suc c k q
constraint_later k None q = q
constraint_later k (Some last) q = q

marked_constraint : (k : ℕ) (s : Option Kind) → outage_after (pos k) (pos 256) s ≡ true → constraint_after (pos (suc k)) s ≡ true
marked_constraint k (Some (kind.Constraint c)) q = eq_then_lt c k q
marked_constraint k (Some (kind.Outage c m)) q = eq_then_lt c k (and_parts (eq_z c (pos k)) (lt_z m (pos 256)) q).0
marked_constraint k s q = no_true q

abbrev NoRule : {A : Type 0} → List A → Type 0
NoRule xs = Unit {0}

-- a constraint that was not posted has no bus out
enter_constraint : (h : Hour) (n k : ℕ) (p : ℤ) → k < 32 → within p most_shadow_price ≡ true → constraint_at h k ≡ None
    → enter h n (row.Constraint (pos k) p) ≡ Ok (with_constraint h k (Some (record { shadow_price = p; out = no_words })))
enter_constraint h n k p hk g none =
    valued_is 2 ConstraintOutside (up_to (pos k) 31) _ k (up_is k 31 (omega arith))
    ∙ ap (λ (t : Bool). unless 3 ShadowPriceOutside (not t) (Ok (with_constraint h k (Some (record { shadow_price = p; out = out_of (constraint_at h k) }))))) g
    ∙ ap (λ (c : Option Constraint). Ok (with_constraint h k (Some (record { shadow_price = p; out = out_of c })))) none

constraint_entry : (bs : List Bus) (l : Option ℤ) (rs : List (Option Run)) (t : List (Option Constraint)) (k : ℕ) (x : Option Constraint) (s : Stage) → k < 32 → length t ≡ 32 → when_some constraint_sound x ≡ true → NoRule (set t k x) → (constraint_after (pos k) s.last ≡ true) → From None t k
    → (u : Stage) × (constraint_after (pos (suc k)) u.last ≡ true) × Runs (place s (record { buses = bs; lambda = l; constraints = t; runs = rs })) (constraint_rows k x) (place u (record { buses = bs; lambda = l; constraints = set t k x; runs = rs }))
constraint_entry bs l rs t k None s hk ht g rule q h = (s, constraint_later k s.last q, runs_blank (λ y. record { buses = bs; lambda = l; constraints = y; runs = rs }) None None t k s [] refl refl h)
constraint_entry bs l rs t k (Some x) s hk ht g rule q h =
    let p = and_parts (within x.shadow_price most_shadow_price) (four_words x.out) g in
    let b : Hour = record { buses = bs; lambda = l; constraints = t; runs = rs } in
    let c = marks bs l t rs k x.shadow_price hk ht no_words in
    let m = all_marks bs l t rs k x.shadow_price hk ht x.out p.1 in (
      m.0,
      marked_constraint k m.0.last m.1,
      runs_append (place s b) (place (behind (kind.Constraint (pos k))) c) (place m.0 (with_constraint b k (Some x))) (row.Constraint (pos k) x.shadow_price ∷ []) (outage_rows k (member x.out) 256)
          (runs_one s b c (row.Constraint (pos k) x.shadow_price) refl q (λ n. enter_constraint b n k x.shadow_price hk p.0 (h k (omega arith))))
          m.2,
    )

-- ---- runs

run_later : (k : ℕ) (s : Option Kind) → run_after (pos k) s ≡ true → run_after (pos (suc k)) s ≡ true
run_later k (Some (kind.Run i)) q = lt_z_suc i k q
run_later k (Some last) q = q
run_later k None q = q

constraints_done : (s : Option Kind) → constraint_after (pos 32) s ≡ true → run_after (pos 0) s ≡ true
constraints_done (Some (kind.Run i)) q = no_true q
constraints_done (Some kind.End) q = no_true q
constraints_done s q = refl

-- the runs together stay within 900 seconds
abbrev InTime : List (Option Run) → Type 0
InTime rs = total_seconds rs ≤ 900

enter_run : (h : Hour) (n k : ℕ) (x : Run) → k < 16 → k < length h.runs → run_sound x ≡ true → InTime (set h.runs k (Some x))
    → enter h n (row.Run (pos k) (pos x.seconds) x.reserve_adder x.reliability_adder) ≡ Ok (with_run h k (Some x))
enter_run h n k x hk l g time =
    let a = and_parts (leb 1 x.seconds) _ g in
    let b = and_parts (within x.reserve_adder most_adder) (within x.reliability_adder most_adder) a.1 in
    let put = sum_by_put seconds_of h.runs k (Some x) None l in
    let left : x.seconds ≤ 900 - other_seconds h k = omega (arith, put, time) in
    let last = valued {A = ℕ} {B = Hour} 3 SecondsOutside (up_to (pos x.seconds) (900 - other_seconds h k)) (λ s. Ok (with_run h k (Some (entered_run s x.reserve_adder x.reliability_adder)))) in
    valued_is 2 RunOutside (up_to (pos k) 15) _ k (up_is k 15 (omega arith))
    ∙ ap (λ (t : Bool). unless 3 SecondsOutside t (unless 4 AdderOutside (not (within x.reserve_adder most_adder)) (unless 5 AdderOutside (not (within x.reliability_adder most_adder)) last))) (lt-leb x.seconds 0 (leb-true 1 x.seconds a.0))
    ∙ ap (λ (t : Bool). unless 4 AdderOutside (not t) (unless 5 AdderOutside (not (within x.reliability_adder most_adder)) last)) b.0
    ∙ ap (λ (t : Bool). unless 5 AdderOutside (not t) last) b.1
    ∙ valued_is 3 SecondsOutside (up_to (pos x.seconds) (900 - other_seconds h k)) _ x.seconds (up_is x.seconds (900 - other_seconds h k) left)

time_front : (xs t : List (Option Run)) (k : ℕ) → length t ≡ k + length xs → From None t k → InTime (set_from t k xs) → InTime t
time_front xs t k e h time = omega (arith, sum_front seconds_of None refl xs t k e h, time)

run_entry : (bs : List Bus) (l : Option ℤ) (c : List (Option Constraint)) (t : List (Option Run)) (k : ℕ) (x : Option Run) (s : Stage) → k < 16 → length t ≡ 16 → when_some run_sound x ≡ true → InTime (set t k x) → (run_after (pos k) s.last ≡ true) → From None t k
    → (u : Stage) × (run_after (pos (suc k)) u.last ≡ true) × Runs (place s (record { buses = bs; lambda = l; constraints = c; runs = t })) (run_row k x) (place u (record { buses = bs; lambda = l; constraints = c; runs = set t k x }))
run_entry bs l c t k None s hk ht g time q h = (s, run_later k s.last q, runs_blank (λ y. record { buses = bs; lambda = l; constraints = c; runs = y }) None None t k s [] refl refl h)
run_entry bs l c t k (Some x) s hk ht g time q h =
    let b : Hour = record { buses = bs; lambda = l; constraints = c; runs = t } in (
      behind (kind.Run (pos k)),
      lt-ltb k (suc k) (omega arith),
      runs_one s b (with_run b k (Some x)) (row.Run (pos k) (pos x.seconds) x.reserve_adder x.reliability_adder) refl q (λ n. enter_run b n k x hk (omega arith) g time),
    )

-- ---- the whole book

ended : (k : ℕ) (s : Option Kind) → run_after (pos k) s ≡ true → end_after s ≡ true
ended k (Some kind.End) q = no_true q
ended k s q = refl

-- the last line
end_runs : (s : Stage) (h : Hour) (n m : ℕ) → end_after s.last ≡ true → eq_z (pos n) (pos (m - 1)) ≡ true → run_rows (place s h) m (row.End (pos n) ∷ []) ≡ Ok h
end_runs s h n m after count =
    cond-false _ _ _ (going s.last kind.End after)
    ∙ ap (λ (x : Result Place Spot). onward (in_line m x) (λ q. run_rows q (m + 1) [])) (λ i. step_by (in_order (cond (after i) (Some (behind kind.End)) None)) (cond (count i) (Ok h) (Err (spot Ending 0))))

-- all the lines of a book but the last
module _ (book : Book) (no : List Bus) (nc : List (Option Constraint)) (nr : List (Option Run))
    (lo : length no ≡ 256) (lc : length nc ≡ 32) (lr : length nr ≡ 16) (fo : From no_bus no 0) (fc : From None nc 0) (fr : From None nr 0) where
  abbrev hour : List Bus → Option ℤ → List (Option Constraint) → List (Option Run) → Hour
  hour bs l cs rs = record { buses = bs; lambda = l; constraints = cs; runs = rs }

  buses_run : (u : Stage) × (bus_after (pos 256) u.last ≡ true) × Runs (place start (hour no None nc nr)) (indexed bus_rows 0 book.buses) (place u (hour book.buses None nc nr))
  buses_run =
      let all = set_all book.buses no (lo ∙ sym book.size) in
      let r = table bus_rows no_bus bus_sound (λ y. hour y None nc nr) (λ k s. bus_after (pos k) s ≡ true) 256 FewPerHubBus few_front (bus_entry None nc nr) book.buses no 0 start (omega (arith, book.size)) lo book.sound (subst FewPerHubBus (sym all) book.few) refl fo in
      (r.0, r.1, subst (λ (y : List Bus). Runs (place start (hour no None nc nr)) (indexed bus_rows 0 book.buses) (place r.0 (hour y None nc nr))) all r.2)

  constraints_run : (s : Stage) → (constraint_after (pos 0) s.last ≡ true) → (u : Stage) × (constraint_after (pos 32) u.last ≡ true) × Runs (place s (hour book.buses book.lambda nc nr)) (indexed constraint_rows 0 book.constraints) (place u (hour book.buses book.lambda book.constraints nr))
  constraints_run s q =
      let all = set_all book.constraints nc (lc ∙ sym book.columns.0) in
      let r = table constraint_rows None (when_some constraint_sound) (λ y. hour book.buses book.lambda y nr) (λ k s. constraint_after (pos k) s ≡ true) 32 NoRule (λ _ _ _ _ _ _. tt) (constraint_entry book.buses book.lambda nr) book.constraints nc 0 s (omega (arith, book.columns.0)) lc book.posted tt q fc in
      (r.0, r.1, subst (λ (y : List (Option Constraint)). Runs (place s (hour book.buses book.lambda nc nr)) (indexed constraint_rows 0 book.constraints) (place r.0 (hour book.buses book.lambda y nr))) all r.2)

  runs_run : (s : Stage) → (run_after (pos 0) s.last ≡ true) → (u : Stage) × (run_after (pos 16) u.last ≡ true) × Runs (place s (hour book.buses book.lambda book.constraints nr)) (indexed run_row 0 book.runs) (place u (entries book))
  runs_run s q =
      let all = set_all book.runs nr (lr ∙ sym book.columns.1) in
      let r = table run_row None (when_some run_sound) (λ y. hour book.buses book.lambda book.constraints y) (λ k s. run_after (pos k) s ≡ true) 16 InTime time_front (run_entry book.buses book.lambda book.constraints) book.runs nr 0 s (omega (arith, book.columns.1)) lr book.entered (subst InTime (sym all) book.seconds) q fr in
      (r.0, r.1, subst (λ (y : List (Option Run)). Runs (place s (hour book.buses book.lambda book.constraints nr)) (indexed run_row 0 book.runs) (place r.0 (hour book.buses book.lambda book.constraints y))) all r.2)

  whole : (u : Stage) × (run_after (pos 16) u.last ≡ true) × Runs (place start (hour no None nc nr)) (rows (entries book)) (place u (entries book))
  whole =
      let a = buses_run in
      let b = lambda_runs book.buses nc nr book.lambda a.0 book.price a.1 in
      let c = constraints_run b.0 b.1 in
      let d = runs_run c.0 (constraints_done c.0.last c.1) in
      let p₀ = place start (hour no None nc nr) in
      let p₁ = place a.0 (hour book.buses None nc nr) in
      let p₂ = place b.0 (hour book.buses book.lambda nc nr) in
      let p₃ = place c.0 (hour book.buses book.lambda book.constraints nr) in
      let p₄ = place d.0 (entries book) in (
        d.0,
        d.1,
        runs_append p₀ p₁ p₄ (indexed bus_rows 0 book.buses) (lambda_rows book.lambda ++ (indexed constraint_rows 0 book.constraints ++ indexed run_row 0 book.runs)) a.2
            (runs_append p₁ p₂ p₄ (lambda_rows book.lambda) (indexed constraint_rows 0 book.constraints ++ indexed run_row 0 book.runs) b.2
            (runs_append p₂ p₃ p₄ (indexed constraint_rows 0 book.constraints) (indexed run_row 0 book.runs) c.2 d.2)),
      )

  read_back : run_rows (place start (hour no None nc nr)) 1 (all_rows (entries book)) ≡ Ok (entries book)
  read_back =
      let h = entries book in
      let w = whole in
      let e = ended 16 w.0.last w.1 in
      let n = length (rows h) in
      let count : eq_z (pos n) (pos (1 + n - 1)) ≡ true = eq-eqb n (1 + n - 1) (omega arith) in
      w.2 1 (row.End (pos n) ∷ []) ∙ end_runs w.0 h n (1 + n) e count

pub reads_back : ReadsBack
reads_back book =
    read_back book (replicate 256 no_bus) (replicate 32 None) (replicate 16 None) (length-replicate 256 no_bus) (length-replicate {A = Option Constraint} 32 None) (length-replicate {A = Option Run} 16 None)
    (from_replicate no_bus 256) (from_replicate {A = Option Constraint} None 32) (from_replicate {A = Option Run} None 16)
