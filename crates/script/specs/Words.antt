-- A line cut into words: the pieces between blanks that are not empty.
use Rattle.std.specs.Prelude.{ℕ, Bool, cond, List, [], ◌∷◌}
use Rattle.std.specs.Char.{char_set_contains}

-- a space, a tab and a carriage return
abbrev pub blanks : List ℕ
blanks = 32 ∷ 9 ∷ 13 ∷ []

abbrev pub blank : ℕ → Bool
blank b = char_set_contains blanks b

-- one byte more in front of the first piece
abbrev pub before : ℕ → List (List ℕ) → List (List ℕ)
before b [] = (b ∷ []) ∷ []
before b (p ∷ ps) = (b ∷ p) ∷ ps

-- what stands between the blanks: one piece more than there are of these
abbrev pub pieces : List ℕ → List (List ℕ)
pieces [] = [] ∷ []
pieces (b ∷ bs) = cond (blank b) ([] ∷ pieces bs) (before b (pieces bs))

-- those that are not empty
abbrev pub filled : List (List ℕ) → List (List ℕ)
filled [] = []
filled ([] ∷ ps) = filled ps
filled ((b ∷ p) ∷ ps) = (b ∷ p) ∷ filled ps

unfoldable pub words : List ℕ → List (List ℕ)
words line = filled (pieces line)
