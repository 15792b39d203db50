-- Bytes cut at a separator, and joined by it.
use Rattle.std.specs.Prelude.{ℕ, cond, List, [], ◌∷◌, ◌++◌, Some, None, Option, ◌==◌}

-- what stands before the first separator
abbrev pub front : ℕ → List ℕ → List ℕ
front sep [] = []
front sep (b ∷ bs) = cond (b == sep) [] (b ∷ front sep bs)

-- what stands after it, where there is one
abbrev pub after : ℕ → List ℕ → Option (List ℕ)
after sep [] = None
after sep (b ∷ bs) = cond (b == sep) (Some bs) (after sep bs)

-- a byte before the first piece
abbrev pub on_first : ℕ → List (List ℕ) → List (List ℕ)
on_first b [] = (b ∷ []) ∷ []
on_first b (p ∷ ps) = (b ∷ p) ∷ ps

-- the pieces between the separators, one more than there are separators
abbrev pub split : ℕ → List ℕ → List (List ℕ)
split sep [] = [] ∷ []
split sep (b ∷ bs) = cond (b == sep) ([] ∷ split sep bs) (on_first b (split sep bs))

-- the pieces of what stands after a separator
abbrev pub split_rest : ℕ → Option (List ℕ) → List (List ℕ)
split_rest sep None = []
split_rest sep (Some bs) = split sep bs

-- pieces with a separator between any two
abbrev pub join : ℕ → List (List ℕ) → List ℕ
join sep [] = []
join sep (p ∷ []) = p
join sep (p ∷ q ∷ ps) = p ++ (sep ∷ join sep (q ∷ ps))
