-- Outage marks, and the seconds of the runs, after the calls that change them.
use Rattle.std.proofs.Common.{◌≡◌, ℕ, ◌+◌, ◌-◌, ◌<◌, ◌≤◌, Bool, true, false, cond, not, ◌&&◌, eqb, List, length, get_or, set, ℤ, pos, Some, None, Option, sym, refl, ap, ◌∙◌, subst, ap₂, ⊎_elim, arith}
use lib.Signed.{le_z}
use Rattle.std.proofs.lemmas.List.{get_or-set_same, get_or-set_other, get_or_past, set_past}
use Rattle.std.proofs.lemmas.Bool.{cases_eq, cases_lt, eq-eqb, ne_eqb}
use Rattle.bus_set.specs.Sets.{member, marked, four_words}
use Rattle.bus_set.proofs.Sets.{no_members, member_with, words_length}
use Rattle.bounds.specs.Bounds.{up_to, within}
use Rattle.hour.specs.Limits.{last_bus, last_constraint, most_shadow_price, last_run, most_adder, most_seconds}
use Rattle.hour.specs.Sound.{when_some, constraint_sound, total_seconds, seconds_of}
use Rattle.hour.specs.Hour.{Hour, entries, constraint_at, out_of}
use Rattle.hour.specs.Steps.{other_seconds}
use Rattle.hour.specs.Replays.{after}
use Rattle.hour.specs.Live.{is_out}
use Rattle.hour.specs.Laws.{Granted}
use Rattle.hour.specs.declared.records.Constraint.{Constraint}
use Rattle.hour.specs.declared.book.Book.{Book}
use Rattle.hour.specs.declared.calls.Call.TheVariants.{Post, Strike, Outage, EnterRun}
use Rattle.hour.proofs.Outcomes.{given_left, refuse_left, granted_left, unrefused_left}
use Rattle.hour.proofs.Tables.{up_to_is, up_to_low, all_by_get_d, out_words, sum_by_put}

-- one constraint written anew with the same buses out
same_out : (cs : List (Option Constraint)) (i k : ℕ) (new : Option Constraint) → out_of new ≡ out_of (get_or cs i None) → out_of (get_or (set cs i new) k None) ≡ out_of (get_or cs k None)
same_out cs i k new e = ⊎_elim
    (λ (same : k ≡ i). ⊎_elim
    (λ (inside : i < length cs).
    ap (λ (n : ℕ). out_of (get_or (set cs i new) n None)) same ∙ ap out_of (get_or-set_same cs i new None inside) ∙ e ∙ ap (λ (n : ℕ). out_of (get_or cs n None)) (sym same))
    (λ (past : length cs ≤ i). ap (λ (xs : List (Option Constraint)). out_of (get_or xs k None)) (set_past cs i new past))
    (cases_lt i (length cs)))
    (λ (other : k ≡ i → ⊥). ap out_of (get_or-set_other cs i k new None other))
    (cases_eq k i)

pub posting_keeps_marks : (h : Hour) (constraint price : ℤ) (k b : ℕ) → is_out (after h (Post constraint price)) k b ≡ is_out h k b
posting_keeps_marks h constraint price k b =
    ap (λ (ws : List ℕ). member ws b)
    (given_left P (up_to constraint last_constraint) _ _ h refl (λ i is. refuse_left P (not (within price most_shadow_price)) _ _ h refl
    (same_out h.constraints i k _ refl)))
  where
    P : Hour → Type 0
    P x = out_of (constraint_at x k) ≡ out_of (constraint_at h k)

same_pos : (m n : ℕ) → pos m ≡ pos n → m ≡ n
same_pos m n e = cc

-- the number that an argument names
names : (k m i : ℕ) → up_to (pos k) m ≡ Some i → k ≡ i
names k m i is = same_pos k i (up_to_is (pos k) m i is)

taken_out : (cs : List (Option Constraint)) (i : ℕ) → get_or (set cs i None) i None ≡ None
taken_out cs i = ⊎_elim
    (λ (inside : i < length cs). get_or-set_same cs i None None inside)
    (λ (past : length cs ≤ i). ap (λ (xs : List (Option Constraint)). get_or xs i None) (set_past cs i None past) ∙ get_or_past cs i None past)
    (cases_lt i (length cs))

pub struck_then_posted_is_unmarked : (h : Hour) (k : ℕ) (price : ℤ) (b : ℕ) → b < 256
    → Granted h (Strike (pos k)) → is_out (after (after h (Strike (pos k))) (Post (pos k) price)) k b ≡ false
struck_then_posted_is_unmarked h k price b low granted =
    posting_keeps_marks (after h (Strike (pos k))) (pos k) price k b
    ∙ ap (λ (c : Option Constraint). member (out_of c) b)
    (granted_left P (up_to (pos k) last_constraint) _ _ h granted (λ i is rest. granted_left P (constraint_at h i) _ _ h rest (λ _ _ _.
    ap (λ (n : ℕ). get_or (set h.constraints i None) n None) (names k last_constraint i is) ∙ taken_out h.constraints i)))
    ∙ no_members b low
  where
    P : Hour → Type 0
    P x = constraint_at x k ≡ None

pub outage_sets_one_mark : (book : Book) (k b : ℕ) (on : Bool) → Granted (entries book) (Outage (pos k) (pos b) on)
    → (k' b' : ℕ) → b' < 256 → is_out (after (entries book) (Outage (pos k) (pos b) on)) k' b' ≡ cond (eqb k' k && eqb b' b) on (is_out (entries book) k' b')
outage_sets_one_mark book k b on granted k' b' low =
    let h = entries book in
    let cs = book.constraints in
    let size = book.columns.0 in
    let P : Hour → Type 0 = λ x. is_out x k' b' ≡ cond (eqb k' k && eqb b' b) on (is_out h k' b') in
    granted_left P (up_to (pos k) last_constraint) _ _ h granted (λ i is rest. granted_left P (up_to (pos b) last_bus) _ _ h rest (λ j js more. granted_left P (constraint_at h i) _ _ h more (λ c was _.
    let new : Constraint = record { shadow_price = c.shadow_price; out = marked c.out j on } in
    let inside : i < length cs = omega (arith, up_to_low (pos k) last_constraint i is) in
    let jlow : j < 256 = omega (arith, up_to_low (pos b) last_bus j js) in
    let sound = all_by_get_d (when_some constraint_sound) cs i None inside book.posted in
    let four : length c.out ≡ 4 = words_length c.out (subst (λ (o : Option Constraint). four_words (out_of o) ≡ true) was (out_words (get_or cs i None) sound)) in
    ⊎_elim
    (λ (same : k' ≡ i).
    let here : eqb k' k ≡ true = eq-eqb k' k (same ∙ sym (names k last_constraint i is)) in
    ap (λ (n : ℕ). member (out_of (get_or (set cs i (Some new)) n None)) b') same
    ∙ ap (λ (o : Option Constraint). member (out_of o) b') (get_or-set_same cs i (Some new) None inside)
    ∙ member_with c.out j b' on four jlow low
    ∙ ap₂ (λ (n : ℕ) (o : Option Constraint). cond (eqb b' n) on (member (out_of o) b')) (sym (names b last_bus j js)) (sym was)
    ∙ ap (λ (n : ℕ). cond (eqb b' b) on (member (out_of (get_or cs n None)) b')) (sym same)
    ∙ ap (λ (t : Bool). cond (t && eqb b' b) on (is_out h k' b')) (sym here))
    (λ (other : k' ≡ i → ⊥).
    let away : eqb k' k ≡ false = ne_eqb k' k (λ e. other (e ∙ names k last_constraint i is)) in
    ap (λ (o : Option Constraint). member (out_of o) b') (get_or-set_other cs i k' (Some new) None other)
    ∙ ap (λ (t : Bool). cond (t && eqb b' b) on (is_out h k' b')) (sym away))
    (cases_eq k' i))))

pub run_replaces_its_seconds : (book : Book) (k s : ℕ) (reserve reliability : ℤ) → Granted (entries book) (EnterRun (pos k) (pos s) reserve reliability)
    → total_seconds (after (entries book) (EnterRun (pos k) (pos s) reserve reliability)).runs ≡ other_seconds (entries book) k + s
run_replaces_its_seconds book k s reserve reliability granted =
    let h = entries book in
    let size = book.columns.1 in
    let P : Hour → Type 0 = λ x. total_seconds x.runs ≡ other_seconds h k + s in
    granted_left P (up_to (pos k) last_run) _ _ h granted (λ i is r₀.
    unrefused_left P (le_z (pos s) (pos 0)) _ _ h r₀ (λ r₁. unrefused_left P (not (within reserve most_adder)) _ _ h r₁ (λ r₂. unrefused_left P (not (within reliability most_adder)) _ _ h r₂ (λ r₃.
    granted_left P (up_to (pos s) (most_seconds - other_seconds h i)) _ _ h r₃ (λ n ns _.
    let inside : i < length book.runs = omega (arith, up_to_low (pos k) last_run i is) in
    sum_by_put seconds_of book.runs i (Some (record { seconds = n; reserve_adder = reserve; reliability_adder = reliability })) None inside
    ∙ ap₂ (λ (x y : ℕ). other_seconds h x + y) (sym (names k last_run i is)) (sym (names s (most_seconds - other_seconds h i) n ns)))))))
