-- A line cut at its blanks, and what `split_once` says of the first one.
use Rattle.std.proofs.Common.{◌≡◌, ℕ, ◌+◌, ◌<◌, ◌≤◌, Bool, true, false, not, eqb, List, [], ◌∷◌, ◌++◌, length, get_or, take, drop, Some, None, Option, MatchOption, Bor, sym, refl, ap, ◌∙◌, subst, ⊎_elim, arith}
use Rattle.std.specs.Char.{char_set_contains}
use Rattle.std.specs.Str.Pattern.{FindsBy, FindsPrefixBy, CutsPrefixes, IsFullyTrimmed, IsTrimStartMatches}
use Rattle.std.specs.Char.{IsScalar}
use Rattle.std.specs.Str.{NoCharPasses}
use Rattle.std.specs.List.{AllByRecursion as All}
use Rattle.std.proofs.ByRecursion.{All-from_get_or}
use Rattle.std.proofs.lemmas.List.{take-append-drop, length-append, length-drop}
use Rattle.std.proofs.lemmas.Str.Pattern.{drop_at_char}
use Rattle.std.specs.Option.{option_or}
use Rattle.std.specs.Bool.{then_some}
use Rattle.std.proofs.lemmas.Bool.{cond-true, cond-false, cases_Bool, cases_lt, both_ways, eqb-true, eqb-false}
use Rattle.std.proofs.lemmas.Str.{NoCharPasses-byte, encode_ascii}
use Rattle.std.proofs.lemmas.Bool.Decides.{nat_tests}
use Rattle.script.specs.Words.{blanks, blank, before, pieces, filled, words}

-- no blank among the bytes
abbrev pub Plain : List ℕ → Type 0
Plain s = All (λ b. blank b ≡ false) s

pieces_plain : (s : List ℕ) → Plain s → pieces s ≡ s ∷ []
pieces_plain [] h = refl
pieces_plain (x ∷ xs) h = cond-false _ _ _ h.0 ∙ ap (before x) (pieces_plain xs h.1)

pieces_append : (s : List ℕ) (b : ℕ) (t : List ℕ) → Plain s → blank b ≡ true → pieces (s ++ (b ∷ t)) ≡ s ∷ pieces t
pieces_append [] b t h e = cond-true _ _ _ e
pieces_append (x ∷ xs) b t h e = cond-false _ _ _ h.0 ∙ ap (before x) (pieces_append xs b t h.1 e)

pub words_none : words [] ≡ []
unfolding words
words_none = refl

pub words_plain : (s : List ℕ) → Plain s → 0 < length s → words s ≡ s ∷ []
unfolding words
words_plain [] h l = absurd (omega arith)
words_plain (x ∷ xs) h l = ap filled (pieces_plain (x ∷ xs) h)

pub words_append : (s : List ℕ) (b : ℕ) (t : List ℕ) → Plain s → blank b ≡ true → 0 < length s → words (s ++ (b ∷ t)) ≡ s ∷ words t
unfolding words
words_append [] b t h e l = absurd (omega arith)
words_append (x ∷ xs) b t h e l = ap filled (pieces_append (x ∷ xs) b t h e)

words_blank : (b : ℕ) (t : List ℕ) → blank b ≡ true → words (b ∷ t) ≡ words t
unfolding words
words_blank b t e = ap filled (pieces_append [] b t tt e)

-- a blank is ASCII
blank_ascii : (b : ℕ) → blank b ≡ true → b < 128
blank_ascii b e = grind (arith, nat_tests)

high_plain : (b : ℕ) → 128 ≤ b → blank b ≡ false
high_plain b h = ⊎_elim (λ (e : blank b ≡ true). absurd (omega (arith, blank_ascii b e))) (λ (e : blank b ≡ false). e) (cases_Bool (blank b))

pub plain_without : (s : List ℕ) → NoCharPasses blank s → Plain s
plain_without s h =
    All-from_get_or (λ b. blank b ≡ false) s 0 (λ i l. ⊎_elim (λ (a : get_or s i 0 < 128). NoCharPasses-byte blank s i h l a) (λ (a : 128 ≤ get_or s i 0). high_plain (get_or s i 0) a) (cases_lt (get_or s i 0) 128))

-- where the first blank was found: a piece before it, and the rest after it
pub record Parted (s w t : List ℕ) : Type 0 where
  pub by : ℕ
  pub is_blank : blank by ≡ true
  pub parts : s ≡ w ++ (by ∷ t)
  pub plain : Plain w

-- what `split_once` says at the blanks
abbrev pub Found : List ℕ → List ℕ → List ℕ → Type 0
Found s w t =
    (i : ℕ) × (j : ℕ) × ((k : ℕ → Bool) → ((c : ℕ) → char_set_contains blanks c ≡ k c) → FindsBy k s (Some (i, j))) × (w ≡ take i s) × (t ≡ drop j s)
    × (i ≤ j) × (length w ≡ i) × (length t + j ≡ length s)

pub parted : (s w t : List ℕ) → Found s w t → Parted s w t
parted s w t (i, j, finds, p, q, _, _, _) = by_first (finds blank (λ _. refl))
  where
    by_first : FindsBy blank s (Some (i, j)) → Parted s w t
    by_first (none, (c, e, at)) = record {
      by = c;
      is_blank = e;
      parts = sym (take-append-drop i s) ∙ (λ k. sym p k ++ (drop_at_char c s i j at (blank_ascii c e) ∙ ap (λ u. c ∷ u) (sym q)) k);
      plain = subst (λ (u : List ℕ). Plain u) (sym p) (plain_without (take i s) none);
    }

-- what follows the first blank is shorter than the text
pub shorter : (s w t : List ℕ) → Parted s w t → length t < length s
shorter s w t p = omega (arith, simp length-append at (ap length p.parts))

pub words_parted : (s w t : List ℕ) → Parted s w t → 0 < length w → words s ≡ w ∷ words t
words_parted s w t p l = ap words p.parts ∙ words_append w p.by t p.plain p.is_blank l

pub words_empty : (s : List ℕ) → length s ≡ 0 → words s ≡ []
words_empty [] l = words_none
words_empty (x ∷ s) l = absurd (omega arith)

-- what the blanks say of the front of a text
abbrev pub Front : List ℕ → Option ℕ → Type 0
Front s o = (k : ℕ → Bool) → ((c : ℕ) → char_set_contains blanks c ≡ k c) → FindsPrefixBy k s o

words_dropped : (s : List ℕ) (n : ℕ) → FindsPrefixBy blank s (Some n) → words (drop n s) ≡ words s
words_dropped s n (c, e, at) = sym (ap words (drop_at_char c s 0 n at (blank_ascii c e)) ∙ words_blank c (drop n s) e)

pub words_trimmed : (s r : List ℕ) (ns : List ℕ) → CutsPrefixes Front s ns r → words r ≡ words s
words_trimmed s r [] e = ap words e
words_trimmed s r (n ∷ ns) (m, h, f, e) = ap words e ∙ words_dropped m n (f blank (λ _. refl)) ∙ words_trimmed s m ns h

scalar_blank : (b : ℕ) → blank b ≡ true → IsScalar b
scalar_blank b e = grind (arith, nat_tests)

-- a trimmed text begins with no blank
no_front : (r : List ℕ) (b : ℕ) (t : List ℕ) → IsFullyTrimmed Front r → r ≡ b ∷ t → blank b ≡ true → ⊥
no_front r b t (None, f, _) e y = both_ways (blank b) (f blank (λ _. refl) b t (scalar_blank b y) (e ∙ ap (λ l. l ++ t) (sym (encode_ascii b (blank_ascii b y))))) y
no_front r b t (Some n, f, z) e y = within (f blank (λ _. refl))
  where
    within : FindsPrefixBy blank r (Some n) → ⊥
    within (c, h, at) = omega (arith, z, ap length (drop_at_char c r 0 n at (blank_ascii c h)), length-drop n r)

pub words_cut : (s r w t : List ℕ) → IsTrimStartMatches Front s r → Found r w t → words s ≡ w ∷ words t
words_cut s r w t ((ns, h), f) g = sym (words_trimmed s r ns h) ∙ by_first w (parted r w t g)
  where
    by_first : (w : List ℕ) → Parted r w t → words r ≡ w ∷ words t
    by_first [] p = absurd (no_front r p.by t f p.parts p.is_blank)
    by_first (x ∷ w) p = words_parted r (x ∷ w) t p (omega arith)

pub words_last : (s r : List ℕ) → IsTrimStartMatches Front s r → NoCharPasses blank r → 0 < length r → words s ≡ r ∷ words []
words_last s r ((ns, h), f) g l = sym (words_trimmed s r ns h) ∙ words_plain r (plain_without r g) l ∙ ap (λ ws. r ∷ ws) (sym words_none)

pub words_out : (s r : List ℕ) → IsTrimStartMatches Front s r → length r ≡ 0 → words s ≡ []
words_out s r ((ns, h), f) l = sym (words_trimmed s r ns h) ∙ words_empty r l

-- what `split_once` finds in a trimmed text, or else all of it
pub words_first : (s : List ℕ) (r e : Bor (List ℕ)) (o : Option (Bor (List ℕ) × Bor (List ℕ))) (empty : Bool) → IsTrimStartMatches Front s r.now
    → MatchOption o ((k : ℕ → Bool) → ((c : ℕ) → char_set_contains blanks c ≡ k c) → NoCharPasses k r.now) (λ p. Found r.now p.0.now p.1.now)
    → empty ≡ eqb (length r.now) 0 → e.now ≡ []
    → MatchOption (option_or o (then_some (not empty) (r, e))) (words s ≡ []) (λ p. words s ≡ p.0.now ∷ words p.1.now)
words_first s r e (Some p) empty trimmed found is none = words_cut s r.now p.0.now p.1.now trimmed found
words_first s r e None true trimmed free is none = words_out s r.now trimmed (eqb-true (length r.now) 0 (sym is))
words_first s r e None false trimmed free is none =
    words_last s r.now trimmed (free blank (λ _. refl)) (omega (arith, eqb-false (length r.now) 0 (sym is))) ∙ ap (λ t. r.now ∷ words t) (sym none)
