-- The lines of a table, and a table written entry by entry.
use Rattle.std.proofs.Common.{◌≡◌, ℕ, zero, suc, ◌+◌, ◌<◌, ◌≤◌, List, [], ◌∷◌, ◌++◌, length, get_or, take, set, replicate, sum_by, sym, refl, ap, ◌∙◌, subst, append_assoc, append-nil, add-zero, add-one, arith}
use Rattle.std.proofs.lemmas.List.{take_all, length-set, take_more_set, set-get_or, get_or-set_other}
use Rattle.std.proofs.lemmas.List.Sums.{sum_by-set}
use Rattle.saved_rows.specs.declared.row.Row.{Row}
use Rattle.saved_rows.specs.Rows.{indexed}

-- blank from k on
abbrev pub From : {A : Type 0} → A → List A → ℕ → Type 0
From d xs k = (j : ℕ) → k ≤ j → get_or xs j d ≡ d

pub from_later : {A : Type 0} (d : A) (xs : List A) (k m : ℕ) → k ≤ m → From d xs k → From d xs m
from_later d xs k m l h j e = h j (omega arith)

pub from_set : {A : Type 0} (d x : A) (xs : List A) (i : ℕ) → From d xs (suc i) → From d (set xs i x) (suc i)
from_set d x xs i h j l = get_or-set_other xs i j x d (λ e. omega arith) ∙ h j l

pub from_replicate : {A : Type 0} (d : A) (n : ℕ) → From d (replicate n d) 0
from_replicate d zero j l = refl
from_replicate d (suc n) zero l = refl
from_replicate d (suc n) (suc j) l = from_replicate d n j (omega arith)

module _ {A : Type 0} (f : ℕ → A → List Row) (d : A) (none : (k : ℕ) → f k d ≡ []) where
  pub indexed_none : (xs : List A) (k : ℕ) → From d xs 0 → indexed f k xs ≡ []
  indexed_none [] k h = refl
  indexed_none (x ∷ xs) k h = (λ i. f k (h 0 (omega arith) i) ++ indexed_none xs (suc k) (λ j l. h (suc j) (omega arith)) i) ∙ ap (λ l. l ++ []) (none k)

  -- one entry more, or more of the last one
  pub indexed_grow : (xs : List A) (k i : ℕ) (x : A) (new : List Row) → i < length xs → From d xs (suc i) → f (k + i) x ≡ f (k + i) (get_or xs i d) ++ new → indexed f k (set xs i x) ≡ indexed f k xs ++ new
  indexed_grow [] k i x new l h e = absurd (omega arith)
  indexed_grow (y ∷ ys) k zero x new l h e =
      let gone = indexed_none ys (suc k) (λ j l. h (suc j) (omega arith)) in
      let here : f k x ≡ f k y ++ new = subst (λ m. f m x ≡ f m y ++ new) (add-zero k) e in
      ap (λ t. f k x ++ t) gone ∙ append-nil (f k x) ∙ here ∙ ap (λ t. t ++ new) (sym (append-nil (f k y)) ∙ ap (λ t. f k y ++ t) (sym gone))
  indexed_grow (y ∷ ys) k (suc i) x new l h e =
      let q : k + suc i ≡ suc k + i = omega arith in
      ap (λ t. f k y ++ t) (indexed_grow ys (suc k) i x new (omega arith) (λ j l. h (suc j) (omega arith)) (subst (λ m. f m x ≡ f m (get_or ys i d) ++ new) q e)) ∙ sym (append_assoc (f k y) (indexed f (suc k) ys) new)

-- the lines of one entry more
pub indexed_more : {A : Type 0} (f : ℕ → A → List Row) (xs : List A) (k i : ℕ) (d : A) → i < length xs → indexed f k (take (i + 1) xs) ≡ indexed f k (take i xs) ++ f (k + i) (get_or xs i d)
indexed_more f [] k i d l = absurd (omega arith)
indexed_more f (x ∷ xs) k zero d l = append-nil (f k x) ∙ ap (λ m. f m x) (sym (add-zero k))
indexed_more f (x ∷ xs) k (suc i) d l =
    let e : suc i + 1 ≡ suc (i + 1) = omega arith in
    let q : suc k + i ≡ k + suc i = omega arith in
    ap (λ m. indexed f k (take m (x ∷ xs))) e ∙ ap (λ t. f k x ++ t) (indexed_more f xs (suc k) i d (omega arith) ∙ ap (λ m. indexed f (suc k) (take i xs) ++ f m (get_or xs i d)) q) ∙ sym (append_assoc (f k x) (indexed f (suc k) (take i xs)) (f (k + suc i) (get_or xs i d)))

-- entries written one after another
abbrev pub set_from : {A : Type 0} → List A → ℕ → List A → List A
set_from t k [] = t
set_from t k (x ∷ xs) = set_from (set t k x) (suc k) xs

set_from_take : {A : Type 0} (xs t : List A) (k : ℕ) → length t ≡ k + length xs → set_from t k xs ≡ take k t ++ xs
set_from_take [] t k e = sym (append-nil (take k t) ∙ take_all k t (omega arith))
set_from_take (x ∷ xs) t k e =
    let l : k < length t = omega arith in
    set_from_take xs (set t k x) (suc k) (length-set t k x ∙ e ∙ omega arith) ∙ ap (λ l. l ++ xs) (ap (λ m. take m (set t k x)) (sym (add-one k)) ∙ take_more_set t k x l) ∙ append_assoc (take k t) (x ∷ []) xs

pub set_all : {A : Type 0} (xs t : List A) → length t ≡ length xs → set_from t 0 xs ≡ xs
set_all xs t e = set_from_take xs t 0 (e ∙ omega arith)

-- a sum over a table of which the rest is blank is at most the sum over the whole
pub sum_front : {A : Type 0} (g : A → ℕ) (d : A) → g d ≡ 0 → (xs t : List A) (k : ℕ) → length t ≡ k + length xs → From d t k → sum_by g t ≤ sum_by g (set_from t k xs)
sum_front g d none [] t k e h = omega arith
sum_front g d none (x ∷ xs) t k e h =
    let one = sum_by-set g t k x d (omega arith) in
    let zero' : g (get_or t k d) ≡ 0 = ap g (h k (omega arith)) ∙ none in
    let rest = sum_front g d none xs (set t k x) (suc k) (length-set t k x ∙ e ∙ omega arith) (from_set d x t k (from_later d t k (suc k) (omega arith) h)) in
    omega (arith, one, zero', rest)

-- a blank entry changes nothing
pub same_set : {A : Type 0} (d x : A) (t : List A) (k : ℕ) → x ≡ d → From d t k → set t k x ≡ t
same_set d x t k e h = ap (set t k) (e ∙ sym (h k (omega arith))) ∙ set-get_or t k d
