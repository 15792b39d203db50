-- Words that are read one after another.
use Rattle.std.specs.Prelude.{ℕ, Bool, true, false, cond, List, [], ◌∷◌, Some, None, Option}
use Rattle.std.specs.Str.{bytes_eq}
use Rattle.script.specs.declared.words.Words.{Words}
use Rattle.script.specs.Words.{words}

-- the words that a cursor has before it
abbrev pub left : Words → List (List ℕ)
left c = words c.rest.now

-- the first word, as `read` takes it
abbrev pub first : {X : Type 0} → (List ℕ → Option X) → List (List ℕ) → Option X
first read [] = None
first read (w ∷ ws) = read w

-- the words after the first
abbrev pub others : List (List ℕ) → List (List ℕ)
others [] = []
others (w ∷ ws) = ws

abbrev pub some : {X : Type 0} → Option X → Option (Option X)
some None = None
some (Some x) = Some (Some x)

-- the only word left, as `read` takes it; nothing where no word is left
abbrev pub last : {X : Type 0} → (List ℕ → Option X) → List (List ℕ) → Option (Option X)
last read [] = Some None
last read (w ∷ []) = some (read w)
last read (w ∷ v ∷ vs) = None

-- true at one word, false at another
abbrev pub choice_of : List ℕ → List ℕ → List ℕ → Option Bool
choice_of t f w = cond (bytes_eq w t) (Some true) (cond (bytes_eq w f) (Some false) None)

-- x, where no word is left
abbrev pub end : {X : Type 0} → X → List (List ℕ) → Option X
end x [] = Some x
end x (w ∷ ws) = None
