-- Outage marks: the lines of the buses out under a constraint, and words that hold the same buses.
use Rattle.std.proofs.Common.{◌≡◌, ℕ, zero, suc, ◌+◌, ◌*◌, ◌/◌, ◌%◌, ◌^◌, ◌<◌, ◌≤◌, Bool, true, false, cond, eqb, List, [], ◌∷◌, ◌++◌, get_or, pos, sym, refl, ap, ◌∙◌, ⊎_elim, append-nil, pow-suc, arith}
use Rattle.std.proofs.lemmas.Nat.{mod_below}
use Rattle.std.proofs.lemmas.List.{ext_get_or}
use Rattle.std.proofs.lemmas.Bool.{cases_eq}
use Rattle.std.proofs.lemmas.Bool.Decides.{nat_tests}
use Rattle.bus_set.specs.Sets.{bit, member, four_words}
use Rattle.bus_set.proofs.Words.{bit_low, bit_up}
use Rattle.bus_set.proofs.Sets.{words_length, words_below, at_word}
use Rattle.saved_rows.specs.declared.row.Row.{Row}
use Rattle.saved_rows.specs.declared.row.Row.TheVariants as row
use Rattle.saved_rows.specs.Rows.{outage_rows}

pub outages_none : (k : ℕ) (out : ℕ → Bool) (n : ℕ) → ((j : ℕ) → j < n → out j ≡ false) → outage_rows k out n ≡ []
unfolding outage_rows
outages_none k out zero h = refl
outages_none k out (suc n) h =
    (λ i. outages_none k out n (λ j l. h j (omega arith)) i ++ cond (h n (omega arith) i) (row.Outage (pos k) (pos n) ∷ []) [])

pub outages_same : (k : ℕ) (p q : ℕ → Bool) (n : ℕ) → ((j : ℕ) → j < n → p j ≡ q j) → outage_rows k p n ≡ outage_rows k q n
unfolding outage_rows
outages_same k p q zero h = refl
outages_same k p q (suc n) h =
    (λ i. outages_same k p q n (λ j l. h j (omega arith)) i ++ cond (h n (omega arith) i) (row.Outage (pos k) (pos n) ∷ []) [])

-- one mark behind all others
pub outages_grow : (k : ℕ) (p q : ℕ → Bool) (m n : ℕ) → m < n → ((j : ℕ) → j < n → m ≤ j → p j ≡ false) → ((j : ℕ) → j < n → (j ≡ m → ⊥) → q j ≡ p j) → q m ≡ true
    → outage_rows k q n ≡ outage_rows k p n ++ (row.Outage (pos k) (pos m) ∷ [])
unfolding outage_rows
outages_grow k p q m zero l none other here = absurd (omega arith)
outages_grow k p q m (suc n) l none other here = ⊎_elim
    (λ (same : m ≡ n).
    let last : cond (q n) (row.Outage (pos k) (pos n) ∷ []) [] ≡ row.Outage (pos k) (pos m) ∷ [] =
    ap (λ (b : Bool). cond b (row.Outage (pos k) (pos n) ∷ []) []) (ap q (sym same) ∙ here) ∙ ap (λ (j : ℕ). row.Outage (pos k) (pos j) ∷ []) (sym same) in
    let was : cond (p n) (row.Outage (pos k) (pos n) ∷ []) [] ≡ [] = ap (λ (b : Bool). cond b (row.Outage (pos k) (pos n) ∷ []) []) (none n (omega arith) (omega arith)) in
    (λ i. outages_same k q p n (λ j lt. other j (omega arith) (λ e. omega arith)) i ++ last i)
    ∙ ap (λ (l : List Row). l ++ (row.Outage (pos k) (pos m) ∷ [])) (sym (append-nil (outage_rows k p n)) ∙ ap (λ (l : List Row). outage_rows k p n ++ l) (sym was)))
    (λ (ne : m ≡ n → ⊥).
    let gone : p n ≡ false = none n (omega arith) (omega arith) in
    let gone' : q n ≡ false = other n (omega arith) (λ e. ne (sym e)) ∙ gone in
    let more = outages_grow k p q m n (omega arith) (λ j a b. none j (omega arith) b) (λ j a b. other j (omega arith) b) here in
    (λ i. more i ++ cond (gone' i) (row.Outage (pos k) (pos n) ∷ []) [])
    ∙ append-nil (outage_rows k p n ++ (row.Outage (pos k) (pos m) ∷ []))
    ∙ ap (λ (l : List Row). l ++ (row.Outage (pos k) (pos m) ∷ [])) (sym (append-nil (outage_rows k p n)) ∙ ap (λ (b : Bool). outage_rows k p n ++ cond b (row.Outage (pos k) (pos n) ∷ []) []) (sym gone)))
    (cases_eq m n)

-- the lines of one bus more
pub outages_more : (k : ℕ) (out : ℕ → Bool) (n : ℕ) → outage_rows k out (suc n) ≡ outage_rows k out n ++ cond (out n) (row.Outage (pos k) (pos n) ∷ []) []
unfolding outage_rows
outages_more k out n = refl

low_same : (x y : ℕ) → x < 2 → y < 2 → eqb x 1 ≡ eqb y 1 → x ≡ y
low_same x y p q e = grind (arith, nat_tests)

-- a word is its bits
word_same : (n w v : ℕ) → w < 2 ^ n → v < 2 ^ n → ((k : ℕ) → k < n → bit w k ≡ bit v k) → w ≡ v
word_same zero w v p q h = omega arith
word_same (suc n) w v p q h =
    let e = pow-suc 2 n in
    let high : w / 2 ≡ v / 2 = word_same n (w / 2) (v / 2) (omega arith) (omega arith) (λ k l. sym (bit_up w k) ∙ h (suc k) (omega arith) ∙ bit_up v k) in
    let low : w % 2 ≡ v % 2 = low_same (w % 2) (v % 2) (mod_below w 2 (omega arith)) (mod_below v 2 (omega arith)) (sym (bit_low w) ∙ h 0 (omega arith) ∙ bit_low v) in
    omega (arith, high, low)

-- four words are their buses
pub words_same : (a b : List ℕ) → four_words a ≡ true → four_words b ≡ true → ((j : ℕ) → j < 256 → member a j ≡ member b j) → a ≡ b
words_same a b ha hb h =
    let la = words_length a ha in
    let lb = words_length b hb in
    let at : (i : ℕ) → i < 4 → get_or a i 0 ≡ get_or b i 0 =
    λ i l. word_same 64 (get_or a i 0) (get_or b i 0) (words_below a ha i l) (words_below b hb i l) (λ k lk. sym (at_word a i k lk) ∙ h (i * 64 + k) (omega arith) ∙ at_word b i k lk) in
    ext_get_or 0 a b (la ∙ sym lb) (λ i l. at i (omega arith))

-- the words of no bus
abbrev pub no_words : List ℕ
no_words = 0 ∷ 0 ∷ 0 ∷ 0 ∷ []
