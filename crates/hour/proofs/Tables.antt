-- Lists of records: tests that pass at each element, and counts.
use Rattle.std.proofs.Common.{◌≡◌, ℕ, zero, suc, ◌+◌, ◌<◌, ◌≤◌, Bool, true, false, cond, eqb, leb, List, [], ◌∷◌, ◌++◌, length, get_or, take, drop, set, ℤ, pos, negsuc, Some, None, sum_by, Option, sym, refl, ap, ◌∙◌, subst, ⊎_elim, le_of_suc-le-suc, not-suc-le-zero, arith}
use Rattle.bus_set.specs.Sets.{four_words}
use Rattle.std.specs.List.{remove}
use Rattle.std.proofs.lemmas.Bool.{and_parts, and_from, eqb-true, eq-eqb, le-leb, leb-true, cond-true, cond-false, cases_Bool}
use Rattle.std.proofs.lemmas.Bool.Decides.{nat_tests}
use Rattle.std.proofs.lemmas.List.Sums.{sum_by-append, sum_by-cons, sum_by-set}
use Rattle.std.proofs.lemmas.List.{set_split, set-get_or}
use Rattle.hour.specs.Sound.{all_by, when_some, constraint_sound, in_hub_bus, hub_bus_size, FewPerHubBus, bus_sound, run_sound}
use Rattle.bounds.specs.Bounds.{up_to, within}
use Rattle.hour.specs.Hour.{Hour, out_of}
use Rattle.hour.specs.Steps.{is_full, other_buses, placed_in, with_status, with_load}
use Rattle.hour.specs.declared.records.Market.{Market}
use Rattle.hour.specs.declared.records.Market.TheVariants.{DayAhead, RealTime}
use Rattle.hour.specs.declared.records.Bus.{Bus}
use Rattle.hour.specs.declared.records.Constraint.{Constraint}

pub all_by_set : {A : Type 0} (p : A → Bool) (xs : List A) (i : ℕ) (a : A) → p a ≡ true → all_by p xs ≡ true → all_by p (set xs i a) ≡ true
all_by_set p [] i a pa h = refl
all_by_set p (x ∷ xs) zero a pa h = and_from (p a) (all_by p xs) pa (and_parts (p x) (all_by p xs) h).1
all_by_set p (x ∷ xs) (suc i) a pa h =
    let both = and_parts (p x) (all_by p xs) h in
    and_from (p x) (all_by p (set xs i a)) both.0 (all_by_set p xs i a pa both.1)

pub all_by_get_d : {A : Type 0} (p : A → Bool) (xs : List A) (i : ℕ) (d : A) → i < length xs → all_by p xs ≡ true → p (get_or xs i d) ≡ true
all_by_get_d p [] i d l h = absurd (not-suc-le-zero l)
all_by_get_d p (x ∷ xs) zero d l h = (and_parts (p x) (all_by p xs) h).0
all_by_get_d p (x ∷ xs) (suc i) d l h = all_by_get_d p xs i d (le_of_suc-le-suc l) (and_parts (p x) (all_by p xs) h).1

-- at a place past the list there is nothing to test
pub all_by_get_or : {A : Type 0} (p : A → Bool) (xs : List (Option A)) (i : ℕ) → all_by (when_some p) xs ≡ true → when_some p (get_or xs i None) ≡ true
all_by_get_or p [] i h = refl
all_by_get_or p (x ∷ xs) zero h = (and_parts (when_some p x) (all_by (when_some p) xs) h).0
all_by_get_or p (x ∷ xs) (suc i) h = all_by_get_or p xs i (and_parts (when_some p x) (all_by (when_some p) xs) h).1

-- a count over a list is the count over the others and of the one at i
pub sum_by_removed : {A : Type 0} (f : A → ℕ) (xs : List A) (i : ℕ) (d : A) → i < length xs → sum_by f xs ≡ sum_by f (remove xs i) + f (get_or xs i d)
sum_by_removed f xs i d l =
    let e : sum_by f xs ≡ sum_by f (take i xs ++ get_or xs i d ∷ drop (suc i) xs) =
    ap (sum_by f) (sym (set-get_or xs i d) ∙ set_split xs i (get_or xs i d) l)
    in
    omega (arith, e, sum_by-append f (take i xs) (get_or xs i d ∷ drop (suc i) xs), sum_by-cons f (get_or xs i d) (drop (suc i) xs), sum_by-append f (take i xs) (drop (suc i) xs))

pub sum_by_put : {A : Type 0} (f : A → ℕ) (xs : List A) (i : ℕ) (y d : A) → i < length xs → sum_by f (set xs i y) ≡ sum_by f (remove xs i) + f y
sum_by_put f xs i y d l = omega (arith, sum_by_removed f xs i d l, sum_by-set f xs i y d l)

-- a bus put in a hub bus with at most seven others
pub few_put : (bs : List Bus) (i : ℕ) (b : Bus) → i < length bs → FewPerHubBus bs → (0 < b.hub_bus → hub_bus_size b.hub_bus (remove bs i) < 8) → FewPerHubBus (set bs i b)
few_put bs i b l few room h p =
    let f : Bus → ℕ = λ x. cond (in_hub_bus h x) 1 0 in
    let old = sum_by_removed f bs i b l in
    let new = sum_by_put f bs i b b l in
    let was = few h p in
    ⊎_elim
    (λ (same : eqb b.hub_bus h ≡ true).
    let e : b.hub_bus ≡ h = eqb-true b.hub_bus h same in
    let r : hub_bus_size h (remove bs i) < 8 = subst (λ (k : ℕ). hub_bus_size k (remove bs i) < 8) e (room (omega arith)) in
    let one : f b ≡ 1 = cond-true (in_hub_bus h b) 1 0 same in
    omega (arith, new, one, r))
    (λ (other : eqb b.hub_bus h ≡ false).
    let none : f b ≡ 0 = cond-false (in_hub_bus h b) 1 0 other in
    omega (arith, old, new, none, was))
    (cases_Bool (eqb b.hub_bus h))

-- a sound bus stays sound where it is placed within the limits
pub placed_sound : (b : Bus) (k z : ℕ) → bus_sound b ≡ true → k ≤ 155 → z ≤ 16 → bus_sound (placed_in b k z) ≡ true
placed_sound b k z h hk hz = grind (arith, nat_tests)

-- a bus that stays in its hub bus
pub few_kept : (bs : List Bus) (i : ℕ) (b d : Bus) → i < length bs → FewPerHubBus bs → b.hub_bus ≡ (get_or bs i d).hub_bus → FewPerHubBus (set bs i b)
few_kept bs i b d l few e =
    few_put bs i b l few (λ p.
    let k = b.hub_bus in
    let f : Bus → ℕ = λ x. cond (in_hub_bus k x) 1 0 in
    let one : f (get_or bs i d) ≡ 1 = cond-true (in_hub_bus k (get_or bs i d)) 1 0 (eq-eqb _ _ (sym e)) in
    omega (arith, sum_by_removed f bs i d l, few k p, one))

-- a sound bus stays sound with any status
pub status_sound : (b : Bus) (m : Market) (v : Bool) → bus_sound b ≡ true → bus_sound (with_status b m v) ≡ true
status_sound b DayAhead v h = h
status_sound b RealTime v h = h

pub status_hub : (b : Bus) (m : Market) (v : Bool) → (with_status b m v).hub_bus ≡ b.hub_bus
status_hub b DayAhead v = refl
status_hub b RealTime v = refl

-- and with a load within its limit
pub load_sound : (b : Bus) (m : Market) (v : ℕ) → v ≤ 10000 → bus_sound b ≡ true → bus_sound (with_load b m v) ≡ true
load_sound b DayAhead v l h = grind (arith, nat_tests)
load_sound b RealTime v l h = grind (arith, nat_tests)

pub load_hub : (b : Bus) (m : Market) (v : ℕ) → (with_load b m v).hub_bus ≡ b.hub_bus
load_hub b DayAhead v = refl
load_hub b RealTime v = refl

-- a number from 0 to m is the argument itself
pub up_to_is : (z : ℤ) (m n : ℕ) → up_to z m ≡ Some n → z ≡ pos n
up_to_is (pos k) m n h = ⊎_elim
    (λ (e : leb k m ≡ true). let s : Some k ≡ Some n = sym (cond-true (leb k m) (Some k) None e) ∙ h in cc)
    (λ (e : leb k m ≡ false). let s : None ≡ Some n = sym (cond-false (leb k m) (Some k) None e) ∙ h in cc)
    (cases_Bool (leb k m))
up_to_is (negsuc k) m n h = cc

pub up_to_low : (z : ℤ) (m n : ℕ) → up_to z m ≡ Some n → n ≤ m
up_to_low (pos k) m n h = ⊎_elim
    (λ (e : leb k m ≡ true). let s : Some k ≡ Some n = sym (cond-true (leb k m) (Some k) None e) ∙ h in let same : k ≡ n = cc in omega (arith, leb-true k m e))
    (λ (e : leb k m ≡ false). let s : None ≡ Some n = sym (cond-false (leb k m) (Some k) None e) ∙ h in let z : ◌≡◌ {A = ℕ} 0 1 = cc in absurd (omega arith))
    (cases_Bool (leb k m))
up_to_low (negsuc k) m n h = let z : ◌≡◌ {A = ℕ} 0 1 = cc in absurd (omega arith)

-- a run of a second or more, with both adders within their limit, is sound
pub run_sound_from : (n : ℕ) (a r : ℤ) → 1 ≤ n → within a 1000000 ≡ true → within r 1000000 ≡ true → run_sound (record { seconds = n; reserve_adder = a; reliability_adder = r }) ≡ true
run_sound_from n a r hn ha hr = and_from _ _ (le-leb 1 n hn) (and_from _ _ ha hr)

pub full_room : (h : Hour) (i k : ℕ) → is_full h i k ≡ false → 0 < k → other_buses h i k < 8
full_room h i k e p = grind (arith, nat_tests)

-- a posted constraint is sound, and an unposted one has no bus out
pub out_words : (c : Option Constraint) → when_some constraint_sound c ≡ true → four_words (out_of c) ≡ true
out_words None h = refl
out_words (Some c) h = (and_parts _ _ h).1
