-- The members of every hub bus, sorted bus by bus.
use Rattle.std.proofs.Common.{◌≡◌, ℕ, ◌+◌, ◌<◌, ◌≤◌, Bool, true, false, ◌&&◌, eqb, ltb, leb, List, [], ◌∷◌, length, get_or, set, replicate, Iter, Bor, Some, Option, sym, refl, ap, ap₂, ◌∙◌, subst, length-set, ⊎_elim, arith, get_or-set_other, get_or-set_same}
use lib.ListN.{get_or-replicate}
use Rattle.std.proofs.lemmas.Bool.{and_right, cases_eq, cases_lt, eq-eqb, ne_eqb, lt-ltb, le-ltb, leb-true, and_parts}
use Rattle.hour.specs.Limits.{last_hub_bus, last_zone, most_load}
use Rattle.hour.specs.Sound.{bus_sound}
use Rattle.hour.specs.Hour.{entries, bus_at, no_bus}
use Rattle.hour.specs.declared.book.Book.{Book}
use Rattle.hour.specs.declared.records.Bus.{Bus}
use Rattle.hour.proofs.Tables.{all_by_get_d}
use Rattle.std.specs.declared.iter.Enumerate.{Enumerate}
use Rattle.std.specs.Iterator.{Yields}
use Rattle.std.proofs.lemmas.Fn.{fronts}
use Rattle.std.specs.Iterator.Adapters.{enumerate_source, enumerate_count, enumerate_steps}
use Rattle.std.specs.Slice.Iter.{iter_rest}
use Rattle.std.proofs.lemmas.Iterator.{YieldsList-from_slice}
use Rattle.std.proofs.lemmas.Iterator.Consumers.{YieldsList-turn, YieldsList-from_enumerate}
use Rattle.std.proofs.lemmas.List.{get_or_default}
use Rattle.std.proofs.lemmas.List.FromFn.{length-enumerate_from, get_or-enumerate_from}
use Rattle.bus_set.specs.Sets.{SetOf, marked}
use Rattle.bus_set.proofs.Sets.{marked_none, marked_turn, marked_all}

-- rows that hold the buses below b, each in the row that `of` gives it
abbrev pub SortedTo : (ℕ → ℕ) → List (List ℕ) → ℕ → Type 0
SortedTo of rows b = (k : ℕ) → k < 156 → (length (get_or rows k []) ≡ 4) × SetOf (λ i. ltb i b && eqb (of i) k) (get_or rows k [])

-- a bus that is not in the row changes nothing there
passed : (p : ℕ → Bool) (ws : List ℕ) (b : ℕ) → p b ≡ false → SetOf (λ i. ltb i b && p i) ws → SetOf (λ i. ltb i (b + 1) && p i) ws
passed p ws b not_in h i low = ⊎_elim
    (λ (same : i ≡ b).
    let off : p i ≡ false = ap p same ∙ not_in in
    h i low ∙ and_right (ltb i b) (p i) off ∙ sym (and_right (ltb i (b + 1)) (p i) off))
    (λ (other : i ≡ b → ⊥). h i low ∙ ap (λ (t : Bool). t && p i) (same_test i b other))
    (cases_eq i b)
  where
    above : (i b : ℕ) → (i ≡ b → ⊥) → b ≤ i → b + 1 ≤ i
    above i b other past = ⊎_elim (λ (l : b < i). omega arith) (λ (l : i ≤ b). absurd (other (omega arith))) (cases_lt b i)

    same_test : (i b : ℕ) → (i ≡ b → ⊥) → ltb i b ≡ ltb i (b + 1)
    same_test i b other = ⊎_elim
        (λ (below : i < b). lt-ltb i b below ∙ sym (lt-ltb i (b + 1) (omega arith)))
        (λ (past : b ≤ i). le-ltb i b past ∙ sym (le-ltb i (b + 1) (above i b other past)))
        (cases_lt i b)

pub sorted_more : (of : ℕ → ℕ) (rows : List (List ℕ)) (b : ℕ) (new : List ℕ) → length rows ≡ 156 → b < 256 → of b < 156
    → SortedTo of rows b → new ≡ marked (get_or rows (of b) []) b true → SortedTo of (set rows (of b) new) (b + 1)
sorted_more of rows b new size low row sorted is k lk = ⊎_elim
    (λ (same : k ≡ of b).
    let lt : of b < length rows = omega arith in
    let here : get_or (set rows (of b) new) k [] ≡ new = ap (λ (n : ℕ). get_or (set rows (of b) new) n []) same ∙ get_or-set_same rows (of b) new [] lt in
    let old = subst (λ (n : ℕ). (length (get_or rows n []) ≡ 4) × SetOf (λ i. ltb i b && eqb (of i) n) (get_or rows n [])) refl (sorted (of b) row) in
    let turn = marked_turn (λ i. eqb (of i) (of b)) (get_or rows (of b) []) new b true old low (sym (eq-eqb (of b) (of b) refl)) is in
    let P : List ℕ → Type 0 = λ ws. (length ws ≡ 4) × SetOf (λ i. ltb i (b + 1) && eqb (of i) k) ws in
    subst P (sym here) (subst (λ (n : ℕ). (length new ≡ 4) × SetOf (λ i. ltb i (b + 1) && eqb (of i) n) new) (sym same) turn))
    (λ (other : k ≡ of b → ⊥).
    let stays : get_or (set rows (of b) new) k [] ≡ get_or rows k [] = get_or-set_other rows (of b) k new [] other in
    let P : List ℕ → Type 0 = λ ws. (length ws ≡ 4) × SetOf (λ i. ltb i (b + 1) && eqb (of i) k) ws in
    let old = sorted k lk in
    subst P (sym stays) (old.0, passed (λ i. eqb (of i) k) (get_or rows k []) b (ne_eqb (of b) k (λ e. other (sym e))) old.1))
    (cases_eq k (of b))

pub sorted_all : (of : ℕ → ℕ) (rows : List (List ℕ)) (b : ℕ) → b ≡ 256 → SortedTo of rows b → (k : ℕ) → k < 156 → SetOf (λ i. eqb (of i) k) (get_or rows k [])
sorted_all of rows b end sorted k lk = marked_all (λ i. eqb (of i) k) (get_or rows k []) b (omega arith) (sorted k lk).1

pub sorted_none : (of : ℕ → ℕ) → SortedTo of (replicate 156 (0 ∷ 0 ∷ 0 ∷ 0 ∷ [])) 0
sorted_none of k lk =
    let e : get_or (replicate 156 (0 ∷ 0 ∷ 0 ∷ 0 ∷ [])) k [] ≡ 0 ∷ 0 ∷ 0 ∷ 0 ∷ [] = get_or-replicate 156 k (0 ∷ 0 ∷ 0 ∷ 0 ∷ []) [] lk in
    let P : List ℕ → Type 0 = λ ws. (length ws ≡ 4) × SetOf (λ i. ltb i 0 && eqb (of i) k) ws in
    subst P (sym e) (refl, marked_none (λ i. eqb (of i) k))

-- the hub bus of a bus within its limits has a row
pub hub_bus_low : (b : Bus) → bus_sound b ≡ true → b.hub_bus < 156
hub_bus_low b sound =
    let hub = leb b.hub_bus last_hub_bus in
    let rest = leb b.zone last_zone && (leb b.day_ahead.load most_load && leb b.real_time.load most_load) in
    omega (arith, leb-true b.hub_bus last_hub_bus (and_parts hub rest sound).0)

-- the bus whose turn it is among all, from bus 0 on
pub record Turn (book : Book) (n bus : ℕ) (x : Bus) : Type 0 where
  pub low : n < 256
  pub number : bus ≡ n
  pub hub_bus : x.hub_bus ≡ (bus_at (entries book) n).hub_bus
  pub row : (bus_at (entries book) n).hub_bus < 156

pub its_turn : (book : Book) (s : Enumerate (Iter Bus)) → iter_rest (enumerate_source s) ≡ book.buses → enumerate_count s ≡ 0
    → (so_far : List (ℕ × Bor Bus)) (t : Enumerate (Iter Bus)) → Yields (enumerate_steps fronts) s so_far t
    → (r : Option (ℕ × Bor Bus)) (u : Enumerate (Iter Bus)) (bus : ℕ) (x : Bor Bus) → r ≡ Some (bus, x) → enumerate_steps fronts t r u → Turn book (length so_far) bus x.now
its_turn book s all none so_far t by r u bus x is step =
    let n = length so_far in
    let turn = YieldsList-turn (YieldsList-from_enumerate (YieldsList-from_slice book.buses all) none) so_far t by r u (bus, x) is step in
    let inside : n < length book.buses = omega (arith, turn.0, length-enumerate_from 0 book.buses) in
    let e = turn.1 ∙ get_or-enumerate_from 0 book.buses n (bus, x.now) inside in
    let at : x.now ≡ bus_at (entries book) n = ap (λ (p : ℕ × Bus). p.1) e ∙ get_or_default book.buses n x.now no_bus inside in
    record {
      low = omega (arith, inside, book.size);
      number = omega (arith, ap (λ (p : ℕ × Bus). p.0) e);
      hub_bus = ap (λ (y : Bus). y.hub_bus) at;
      row = hub_bus_low (bus_at (entries book) n) (all_by_get_d bus_sound book.buses n no_bus inside book.sound);
    }

-- the bus whose turn it is, marked in its row
pub sorted_next : (of : ℕ → ℕ) (rows : List (List ℕ)) (n m k bus : ℕ) (new : List ℕ) → length rows ≡ 156 → n < 256 → of n < 156 → SortedTo of rows n → k ≡ of n → bus ≡ n → m ≡ n + 1
    → new ≡ marked (get_or rows k []) bus true → (length (set rows k new) ≡ 156) × SortedTo of (set rows k new) m
sorted_next of rows n m k bus new size low row sorted own number next is =
    let here : new ≡ marked (get_or rows (of n) []) n true = is ∙ ap₂ (λ (j i : ℕ). marked (get_or rows j []) i true) own number in
    subst (λ (j : ℕ). (length (set rows j new) ≡ 156) × SortedTo of (set rows j new) m) (sym own)
    (length-set rows (of n) new ∙ size, subst (SortedTo of (set rows (of n) new)) (sym next) (sorted_more of rows n new size low row sorted here))
