-- Words with a space between any two come apart again.
use Rattle.std.proofs.Common.{◌≡◌, ℕ, ◌<◌, Bool, true, not, ◌&&◌, ltb, List, [], ◌∷◌, length, refl, ap, ◌∙◌}
use Rattle.std.specs.List.{AllByRecursion as All}
use Rattle.std.proofs.lemmas.Bool.{and_parts, not-true, ltb-true}
use Rattle.script.specs.Words.{blank, words}
use Rattle.script.specs.Written.{spaced}
use Rattle.script.proofs.Cuts.{Plain, words_none, words_plain, words_append}

pub record Word (w : List ℕ) : Type 0 where
  pub plain : Plain w
  pub some : 0 < length w

-- the same as a test, for texts that are written out
abbrev unblank : List ℕ → Bool
unblank [] = true
unblank (b ∷ bs) = not (blank b) && unblank bs

plain_unblank : (w : List ℕ) → unblank w ≡ true → Plain w
plain_unblank [] e = tt
plain_unblank (b ∷ bs) e = let p = and_parts (not (blank b)) (unblank bs) e in (not-true (blank b) p.0, plain_unblank bs p.1)

pub spelt : (w : List ℕ) → (ltb 0 (length w) && unblank w) ≡ true → Word w
spelt w e = let p = and_parts (ltb 0 (length w)) (unblank w) e in record { plain = plain_unblank w p.1; some = ltb-true 0 (length w) p.0 }

pub words_spaced : (ws : List (List ℕ)) → All Word ws → words (spaced ws) ≡ ws
words_spaced [] h = words_none
words_spaced (w ∷ []) h = words_plain w h.0.plain h.0.some
words_spaced (w ∷ v ∷ vs) h = words_append w 32 (spaced (v ∷ vs)) h.0.plain refl h.0.some ∙ ap (λ l. w ∷ l) (words_spaced (v ∷ vs) h.1)
