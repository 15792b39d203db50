-- Sets of four words: the words of each operation hold the buses that its contract says.
use Rattle.std.proofs.Common.{◌≡◌, ℕ, zero, suc, ◌+◌, ◌-◌, ◌*◌, ◌/◌, ◌%◌, ◌^◌, ◌<◌, ◌≤◌, Bool, true, false, cond, not, ◌&&◌, ◌||◌, eqb, ltb, List, [], ◌∷◌, length, get_or, set, sym, refl, ap, ◌∙◌, subst, ap₂, ⊎_elim, arith, length-set}
use lib.Bits.{bit_and}
use lib.Count.{ones}
use lib.Pow.{pow-lt}
use Rattle.std.proofs.lemmas.Nat.{div-mul-add, mod-mul-add, mod_below, and_mask}
use Rattle.std.proofs.lemmas.List.{get_or-set_same, get_or-set_other}
use Rattle.std.proofs.lemmas.Bool.{cases_eq, eq-eqb, ne_eqb, eqb-true, lt-ltb, le-ltb, ltb-true, cond-true, cond-false, and_from, and_parts}
use Rattle.std.proofs.lemmas.Bool.Decides.{nat_tests}
use Rattle.bus_set.specs.Sets.{bit, member, count_below, SetOf, with_bit, marked, four_words, is_word}
use Rattle.bus_set.proofs.Counts.{count_same, count_add}
use Rattle.bus_set.proofs.Words.{bit_of_and, bit_of_or, bit_none, bit_pow, bit_not, ones_count, count_none}

pub at_word : (ws : List ℕ) (j i : ℕ) → i < 64 → member ws (j * 64 + i) ≡ bit (get_or ws j 0) i
at_word ws j i l = ap₂ (λ (a b : ℕ). bit (get_or ws a 0) b) (div-mul-add j 64 i l) (mod-mul-add j 64 i l)

word_count : (ws : List ℕ) (j : ℕ) → get_or ws j 0 < 2 ^ 64 → count_below (λ i. member ws (j * 64 + i)) 64 ≡ ones (get_or ws j 0)
word_count ws j h = count_same (λ i. member ws (j * 64 + i)) (bit (get_or ws j 0)) 64 (λ i l. at_word ws j i l) ∙ sym (ones_count 64 (get_or ws j 0) h)

-- the ones of the four words are the members of the set
pub set_count : (ws : List ℕ) → get_or ws 0 0 < 2 ^ 64 → get_or ws 1 0 < 2 ^ 64 → get_or ws 2 0 < 2 ^ 64 → get_or ws 3 0 < 2 ^ 64
    → ones (get_or ws 0 0) + ones (get_or ws 1 0) + ones (get_or ws 2 0) + ones (get_or ws 3 0) ≡ count_below (member ws) 256
set_count ws h0 h1 h2 h3 =
    omega (
      arith,
      count_add (member ws) 192 64,
      count_add (member ws) 128 64,
      count_add (member ws) 64 64,
      count_add (member ws) 0 64,
      word_count ws 0 h0,
      word_count ws 1 h1,
      word_count ws 2 h2,
      word_count ws 3 h3,
      count_none (member ws),
    )

or_cond : (a b : Bool) → (a || b) ≡ cond b true a
or_cond true true = refl
or_cond true false = refl
or_cond false true = refl
or_cond false false = refl

and_not_cond : (a b : Bool) → (a && not b) ≡ cond b false a
and_not_cond true true = refl
and_not_cond true false = refl
and_not_cond false true = refl
and_not_cond false false = refl

pub bit_with : (w j k : ℕ) (v : Bool) → j < 64 → k < 64 → bit (with_bit w j v) k ≡ cond (eqb k j) v (bit w k)
bit_with w j k true hj hk = bit_of_or w (2 ^ j) k ∙ ap (λ (b : Bool). bit w k || b) (bit_pow k j) ∙ or_cond (bit w k) (eqb k j)
bit_with w j k false hj hk =
    bit_of_and w (2 ^ 64 - 1 - 2 ^ j) k
    ∙ ap (λ (b : Bool). bit w k && b) (bit_not 64 k (2 ^ j) (pow-lt hj) hk ∙ ap not (bit_pow k j))
    ∙ and_not_cond (bit w k) (eqb k j)

-- one mark changes, and the others stay
pub member_with : (ws : List ℕ) (j k : ℕ) (v : Bool) → length ws ≡ 4 → j < 256 → k < 256 → member (marked ws j v) k ≡ cond (eqb k j) v (member ws k)
member_with ws j k v size hj hk = ⊎_elim
    (λ (same : k / 64 ≡ j / 64).
    let lt : j / 64 < length ws = omega arith in
    let w = get_or ws (j / 64) 0 in
    let here : get_or (marked ws j v) (k / 64) 0 ≡ with_bit w (j % 64) v =
    ap (λ (n : ℕ). get_or (marked ws j v) n 0) same ∙ get_or-set_same ws (j / 64) (with_bit w (j % 64) v) 0 lt
    in
    let places : eqb (k % 64) (j % 64) ≡ eqb k j = ⊎_elim
    (λ (e : k ≡ j). eq-eqb (k % 64) (j % 64) (omega arith) ∙ sym (eq-eqb k j e))
    (λ (ne : k ≡ j → ⊥). ne_eqb (k % 64) (j % 64) (λ r. ne (omega arith)) ∙ sym (ne_eqb k j ne))
    (cases_eq k j)
    in
    ap (λ (n : ℕ). bit n (k % 64)) here
    ∙ bit_with w (j % 64) (k % 64) v (mod_below j 64 (omega arith)) (mod_below k 64 (omega arith))
    ∙ ap₂ (λ (b : Bool) (n : ℕ). cond b v (bit (get_or ws n 0) (k % 64))) places (sym same))
    (λ (other : k / 64 ≡ j / 64 → ⊥).
    ap (λ (n : ℕ). bit n (k % 64)) (get_or-set_other ws (j / 64) (k / 64) (with_bit (get_or ws (j / 64) 0) (j % 64) v) 0 other)
    ∙ sym (cond-false (eqb k j) v (member ws k) (ne_eqb k j (λ e. other (ap (λ (n : ℕ). n / 64) e)))))
    (cases_eq (k / 64) (j / 64))

pub by_four : (P : ℕ → Type 0) → P 0 → P 1 → P 2 → P 3 → (j : ℕ) → j < 4 → P j
by_four P p0 p1 p2 p3 zero l = p0
by_four P p0 p1 p2 p3 (suc zero) l = p1
by_four P p0 p1 p2 p3 (suc (suc zero)) l = p2
by_four P p0 p1 p2 p3 (suc (suc (suc zero))) l = p3
by_four P p0 p1 p2 p3 (suc (suc (suc (suc j)))) l = absurd (omega arith)

four : (f : ℕ → ℕ) (j : ℕ) → j < 4 → get_or (f 0 ∷ f 1 ∷ f 2 ∷ f 3 ∷ []) j 0 ≡ f j
four f j l = by_four (λ j. get_or (f 0 ∷ f 1 ∷ f 2 ∷ f 3 ∷ []) j 0 ≡ f j) refl refl refl refl j l

-- four words of 64 bits, word by word
pub words_from : (ws : List ℕ) → length ws ≡ 4 → ((i : ℕ) → i < 4 → get_or ws i 0 < 2 ^ 64) → four_words ws ≡ true
words_from ws size low =
    let at : (i : ℕ) → i < 4 → is_word ws i ≡ true = λ i l. lt-ltb (get_or ws i 0) (2 ^ 64) (low i l) in
    and_from _ _ (eq-eqb (length ws) 4 size) (
    and_from _ _ (at 0 (omega arith)) (and_from _ _ (at 1 (omega arith)) (and_from _ _ (at 2 (omega arith)) (at 3 (omega arith))))
    )

pub words_length : (ws : List ℕ) → four_words ws ≡ true → length ws ≡ 4
words_length ws h = eqb-true (length ws) 4 (and_parts _ _ h).0

pub words_below : (ws : List ℕ) → four_words ws ≡ true → (i : ℕ) → i < 4 → get_or ws i 0 < 2 ^ 64
words_below ws h =
    let p = and_parts _ _ (and_parts _ _ h).1 in
    let q = and_parts _ _ p.1 in
    let r = and_parts _ _ q.1 in
    by_four (λ i. get_or ws i 0 < 2 ^ 64) (ltb-true _ _ p.0) (ltb-true _ _ q.0) (ltb-true _ _ r.0) (ltb-true _ _ r.1)

pub words_set : (ws : List ℕ) (j v : ℕ) → j < 4 → v < 2 ^ 64 → four_words ws ≡ true → four_words (set ws j v) ≡ true
words_set ws j v lj lv h =
    let size = words_length ws h in
    words_from (set ws j v) (length-set ws j v ∙ size) (λ i l. ⊎_elim
    (λ (same : i ≡ j).
    let lt : j < length ws = omega arith in
    subst (λ (n : ℕ). n < 2 ^ 64) (sym (ap (λ (k : ℕ). get_or (set ws j v) k 0) same ∙ get_or-set_same ws j v 0 lt)) lv)
    (λ (other : i ≡ j → ⊥). subst (λ (n : ℕ). n < 2 ^ 64) (sym (get_or-set_other ws j i v 0 other)) (words_below ws h i l))
    (cases_eq i j))

pub both_members : (a b : List ℕ) → SetOf (λ i. member a i && member b i)
    (bit_and (get_or a 0 0) (get_or b 0 0) ∷ bit_and (get_or a 1 0) (get_or b 1 0) ∷ bit_and (get_or a 2 0) (get_or b 2 0) ∷ bit_and (get_or a 3 0) (get_or b 3 0) ∷ [])
both_members a b i l =
    ap (λ (n : ℕ). bit n (i % 64)) (four (λ j. bit_and (get_or a j 0) (get_or b j 0)) (i / 64) (omega arith))
    ∙ bit_of_and (get_or a (i / 64) 0) (get_or b (i / 64) 0) (i % 64)

pub without_members : (a b : List ℕ) → get_or b 0 0 < 2 ^ 64 → get_or b 1 0 < 2 ^ 64 → get_or b 2 0 < 2 ^ 64 → get_or b 3 0 < 2 ^ 64 → SetOf (λ i. member a i && not (member b i))
    (bit_and (get_or a 0 0) (2 ^ 64 - 1 - get_or b 0 0) ∷ bit_and (get_or a 1 0) (2 ^ 64 - 1 - get_or b 1 0) ∷ bit_and (get_or a 2 0) (2 ^ 64 - 1 - get_or b 2 0) ∷ bit_and (get_or a 3 0) (2 ^ 64 - 1 - get_or b 3 0) ∷ [])
without_members a b h0 h1 h2 h3 i l =
    let j = i / 64 in
    let lt : j < 4 = omega arith in
    let fits = by_four (λ j. get_or b j 0 < 2 ^ 64) h0 h1 h2 h3 j lt in
    ap (λ (n : ℕ). bit n (i % 64)) (four (λ j. bit_and (get_or a j 0) (2 ^ 64 - 1 - get_or b j 0)) j lt)
    ∙ bit_of_and (get_or a j 0) (2 ^ 64 - 1 - get_or b j 0) (i % 64)
    ∙ ap (λ (x : Bool). bit (get_or a j 0) (i % 64) && x) (bit_not 64 (i % 64) (get_or b j 0) fits (mod_below i 64 (omega arith)))

pub has_member : (w k : ℕ) → eqb (bit_and (w / 2 ^ k) 1) 1 ≡ bit w k
unfolding bit
has_member w k = ap (λ (n : ℕ). eqb n 1) (and_mask (w / 2 ^ k) 1)

-- a loop that marks bus after bus
pub marked_more : (p : ℕ → Bool) (ws : List ℕ) (i : ℕ) (v : Bool) → length ws ≡ 4 → i < 256 → v ≡ p i
    → SetOf (λ k. ltb k i && p k) ws → SetOf (λ k. ltb k (i + 1) && p k) (marked ws i v)
marked_more p ws i v size l e h k lk = ⊎_elim
    (λ (same : k ≡ i).
    member_with ws i k v size l lk ∙ cond-true (eqb k i) v (member ws k) (eq-eqb k i same) ∙ e ∙ ap p (sym same)
    ∙ sym (ap (λ (b : Bool). b && p k) (lt-ltb k (i + 1) (omega arith))))
    (λ (ne : k ≡ i → ⊥).
    let t : ltb k i ≡ ltb k (i + 1) = grind (arith, nat_tests) in
    member_with ws i k v size l lk ∙ cond-false (eqb k i) v (member ws k) (ne_eqb k i ne) ∙ h k lk ∙ ap (λ (b : Bool). b && p k) t)
    (cases_eq k i)

pub marked_all : (p : ℕ → Bool) (ws : List ℕ) (i : ℕ) → 256 ≤ i → SetOf (λ k. ltb k i && p k) ws → SetOf p ws
marked_all p ws i l h k lk = h k lk ∙ ap (λ (b : Bool). b && p k) (lt-ltb k i (omega arith))

-- the empty set
pub no_members : SetOf (λ _. false) (0 ∷ 0 ∷ 0 ∷ 0 ∷ [])
no_members k lk = ap (λ (n : ℕ). bit n (k % 64)) (four (λ _. 0) (k / 64) (omega arith)) ∙ bit_none (k % 64)

pub marked_none : (p : ℕ → Bool) → SetOf (λ k. ltb k 0 && p k) (0 ∷ 0 ∷ 0 ∷ 0 ∷ [])
marked_none p k lk = no_members k lk ∙ sym (ap (λ (b : Bool). b && p k) (le-ltb k 0 (omega arith)))

pub marked_turn : (p : ℕ → Bool) (ws new : List ℕ) (i : ℕ) (v : Bool) → (length ws ≡ 4) × SetOf (λ k. ltb k i && p k) ws → i < 256 → v ≡ p i → new ≡ marked ws i v
    → (length new ≡ 4) × SetOf (λ k. ltb k (i + 1) && p k) new
marked_turn p ws new i v h l e is = (
  ap length is ∙ length-set ws (i / 64) (with_bit (get_or ws (i / 64) 0) (i % 64) v) ∙ h.0,
  subst (SetOf (λ k. ltb k (i + 1) && p k)) (sym is) (marked_more p ws i v h.0 l e h.1),
)
