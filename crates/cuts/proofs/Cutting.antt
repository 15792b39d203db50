-- The laws of cutting and joining.
use Rattle.std.proofs.Common.{◌≡◌, ℕ, suc, ◌+◌, ◌<◌, Bool, true, false, cond, not, eqb, ltb, List, [], ◌∷◌, ◌++◌, length, take, drop, Some, None, Option, MatchOption, sym, refl, ap, ap₂, ◌∙◌, subst, ⊎_elim, one-add, arith}
use Rattle.std.proofs.lemmas.List.{take_all}
use Rattle.std.proofs.lemmas.Bool.Decides.{nat_tests}
use Rattle.std.specs.List.{AllByRecursion as All, position_or_len, position}
use Rattle.std.proofs.lemmas.Bool.{cond-true, cond-false, cases_Bool, eq-eqb, ne_eqb, eqb-true}
use Rattle.cuts.specs.Cuts.{front, after, on_first, split, split_rest, join}

module _ (sep : ℕ) where
  -- the first place of the separator, or the length
  abbrev first : List ℕ → ℕ
  first s = position_or_len (λ b. eqb b sep) s

  front_step : (b : Bool) (x n : ℕ) (xs : List ℕ) → take n xs ≡ front sep xs → take (cond (not b) (1 + n) 0) (x ∷ xs) ≡ cond b [] (x ∷ front sep xs)
  front_step true x n xs h = refl
  front_step false x n xs h = rw one-add (ap (λ t. x ∷ t) h)

  front_first : (s : List ℕ) → take (first s) s ≡ front sep s
  front_first [] = refl
  front_first (x ∷ xs) = front_step (eqb x sep) x (first xs) xs (front_first xs)

  -- what follows place n, where it is one of the list
  abbrev behind : ℕ → List ℕ → Option (List ℕ)
  behind n s = cond (ltb n (length s)) (Some (drop (n + 1) s)) None

  after_step : (b : Bool) (x n : ℕ) (xs : List ℕ) → behind n xs ≡ after sep xs → behind (cond (not b) (1 + n) 0) (x ∷ xs) ≡ cond b (Some xs) (after sep xs)
  after_step true x n xs h =
      let t : ltb 0 (length (x ∷ xs)) ≡ true = grind (arith, nat_tests) in
      ap (λ b. cond b (Some xs) None) t
  after_step false x n xs h =
      let t : ltb (1 + n) (length (x ∷ xs)) ≡ ltb n (length xs) = grind (arith, nat_tests) in
      let k : 1 + n + 1 ≡ suc (n + 1) = omega arith in
      let d : drop (1 + n + 1) (x ∷ xs) ≡ drop (n + 1) xs = ap (λ m. drop m (x ∷ xs)) k in
      ap₂ (λ (b : Bool) (l : List ℕ). cond b (Some l) None) t d ∙ h

  after_first : (s : List ℕ) → behind (first s) s ≡ after sep s
  after_first [] = refl
  after_first (x ∷ xs) = after_step (eqb x sep) x (first xs) xs (after_first xs)

  cut_cases : (s : List ℕ) (b : Bool) (o : Option ℕ) → ltb (first s) (length s) ≡ b → cond b (Some (first s)) None ≡ o
      → MatchOption o ((s ≡ front sep s) × (after sep s ≡ None)) (λ n. (take n s ≡ front sep s) × (after sep s ≡ Some (drop (n + 1) s)))
  cut_cases s true (Some n) t e = let q : first s ≡ n = cc in (
    ap (λ k. take k s) (sym q) ∙ front_first s,
    sym (after_first s) ∙ ap (λ b. cond b (Some (drop (first s + 1) s)) None) t ∙ ap (λ k. Some (drop (k + 1) s)) q,
  )
  cut_cases s false None t e = (
    sym (take_all (first s) s (grind (arith, nat_tests))) ∙ front_first s,
    sym (after_first s) ∙ ap (λ b. cond b (Some (drop (first s + 1) s)) None) t,
  )
  cut_cases s true None t e = absurd (cc)
  cut_cases s false (Some n) t e = absurd (cc)

  -- a text cut at the first separator, or not at all
  pub cut_at : (s : List ℕ) (o : Option ℕ) → position (λ b. eqb b sep) s ≡ o
      → MatchOption o ((s ≡ front sep s) × (after sep s ≡ None)) (λ n. (take n s ≡ front sep s) × (after sep s ≡ Some (drop (n + 1) s)))
  cut_at s o e = cut_cases s (ltb (first s) (length s)) o refl e

  -- the first piece, and the others
  pub split_front : (s : List ℕ) → split sep s ≡ front sep s ∷ split_rest sep (after sep s)
  split_front [] = refl
  split_front (x ∷ xs) = ⊎_elim
      (λ (e : eqb x sep ≡ true). cond-true _ _ _ e ∙ ap (λ b. cond b [] (x ∷ front sep xs) ∷ split_rest sep (cond b (Some xs) (after sep xs))) (sym e))
      (λ (e : eqb x sep ≡ false). cond-false _ _ _ e ∙ ap (on_first x) (split_front xs) ∙ ap (λ b. cond b [] (x ∷ front sep xs) ∷ split_rest sep (cond b (Some xs) (after sep xs))) (sym e))
      (cases_Bool (eqb x sep))

  -- a text without a separator is its own first piece
  pub front_whole : (x : ℕ) (xs : List ℕ) → after sep (x ∷ xs) ≡ None → front sep (x ∷ xs) ≡ x ∷ front sep xs
  front_whole x xs e = ⊎_elim
      (λ (d : eqb x sep ≡ true). let z : Some xs ≡ None = sym (cond-true _ _ _ d) ∙ e in let q : ◌≡◌ {A = ℕ} 0 1 = cc in absurd (omega arith))
      (λ (d : eqb x sep ≡ false). cond-false _ _ _ d)
      (cases_Bool (eqb x sep))

  -- what stands behind a separator is shorter than the text
  pub after_shorter : (s t : List ℕ) → after sep s ≡ Some t → length t < length s
  after_shorter [] t e = let q : ◌≡◌ {A = ℕ} 0 1 = cc in absurd (omega arith)
  after_shorter (x ∷ xs) t e = ⊎_elim
      (λ (d : eqb x sep ≡ true). let z : Some xs ≡ Some t = sym (cond-true _ _ _ d) ∙ e in let q : xs ≡ t = cc in omega (arith, ap length q))
      (λ (d : eqb x sep ≡ false). omega (arith, after_shorter xs t (sym (cond-false _ _ _ d) ∙ e)))
      (cases_Bool (eqb x sep))

  -- no separator among the bytes
  abbrev pub Plain : List ℕ → Type 0
  Plain s = All (λ b. b ≡ sep → ⊥) s

  pub split_plain : (s : List ℕ) → Plain s → split sep s ≡ s ∷ []
  split_plain [] h = refl
  split_plain (x ∷ xs) h = cond-false _ _ _ (ne_eqb x sep h.0) ∙ ap (on_first x) (split_plain xs h.1)

  pub split_append : (s t : List ℕ) → Plain s → split sep (s ++ (sep ∷ t)) ≡ s ∷ split sep t
  split_append [] t h = cond-true _ _ _ (eq-eqb sep sep refl)
  split_append (x ∷ xs) t h = cond-false _ _ _ (ne_eqb x sep h.0) ∙ ap (on_first x) (split_append xs t h.1)

  -- pieces that were joined come apart again
  pub split_join : (c : List ℕ) (cs : List (List ℕ)) → All Plain (c ∷ cs) → split sep (join sep (c ∷ cs)) ≡ c ∷ cs
  split_join c [] h = split_plain c h.0
  split_join c (d ∷ ds) h = split_append c (join sep (d ∷ ds)) h.0 ∙ ap (λ l. c ∷ l) (split_join d ds h.1)

  join_on_first : (x : ℕ) (l : List (List ℕ)) → join sep (on_first x l) ≡ x ∷ join sep l
  join_on_first x [] = refl
  join_on_first x (c ∷ []) = refl
  join_on_first x (c ∷ d ∷ ds) = refl

  join_nil : (l : List (List ℕ)) (c : List ℕ) (cs : List (List ℕ)) → l ≡ c ∷ cs → join sep ([] ∷ l) ≡ sep ∷ join sep l
  join_nil l c cs e = subst (λ (m : List (List ℕ)). join sep ([] ∷ m) ≡ sep ∷ join sep m) (sym e) refl

  -- and pieces of a text make it up again
  pub join_split : (s : List ℕ) → join sep (split sep s) ≡ s
  join_split [] = refl
  join_split (x ∷ xs) = ⊎_elim
      (λ (e : eqb x sep ≡ true). ap (join sep) (cond-true _ _ _ e) ∙ join_nil (split sep xs) _ _ (split_front xs) ∙ ap (λ l. sep ∷ l) (join_split xs) ∙ ap (λ y. y ∷ xs) (sym (eqb-true x sep e)))
      (λ (e : eqb x sep ≡ false). ap (join sep) (cond-false _ _ _ e) ∙ join_on_first x (split sep xs) ∙ ap (λ l. x ∷ l) (join_split xs))
      (cases_Bool (eqb x sep))
