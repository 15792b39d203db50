-- A line by the pieces between its commas: what is read of each, in their order, until one is wrong.
use Rattle.std.specs.Prelude.{◌≡◌, ℕ, Bool, true, false, cond, List, [], ◌∷◌, ℤ, Some, None, Ok, Err, Option, Result, MatchResult, ◌==◌}
use Rattle.std.specs.Borrow.{Bor}
use Rattle.decimals.specs.Decimals.{decimal_of}
use Rattle.faults.specs.Faults.{malformed, spot}
use Rattle.faults.specs.declared.Malformed.{Malformed}
use Rattle.faults.specs.declared.Spot.{Spot}
use Rattle.faults.specs.declared.Why.TheVariants.{Form}
use Rattle.cuts.specs.declared.fields.Fields.{Fields}
use Rattle.cuts.specs.Cuts.{split}

-- byte 44
abbrev pub comma : ℕ
comma = 44

-- byte 10
abbrev pub line_end : ℕ
line_end = 10

-- a fault of form at a field
abbrev pub form_at : ℕ → Spot
form_at field = spot Form field

-- a status is the byte 48 or 49, which is 0 or 1
abbrev pub status_of : List ℕ → Result Bool Malformed
status_of [] = Err malformed
status_of (b ∷ []) = cond (b == 48) (Ok false) (cond (b == 49) (Ok true) (Err malformed))
status_of (b ∷ c ∷ bs) = Err malformed

-- the only byte of a piece
abbrev pub letter_of : List ℕ → Option ℕ
letter_of [] = None
letter_of (b ∷ []) = Some b
letter_of (b ∷ c ∷ bs) = None

-- what a field holds, and what comes of it; a fault of form where it holds nothing
abbrev pub holding : {X E R : Type 0} → ℕ → Result X E → (X → Result R Spot) → Result R Spot
holding field (Ok x) k = k x
holding field (Err e) k = Err (form_at field)

-- the next field, read by `read`
abbrev pub taking : {X E R : Type 0} → (List ℕ → Result X E) → ℕ → (X → List (List ℕ) → Result R Spot) → List (List ℕ) → Result R Spot
taking read field k [] = Err (form_at field)
taking read field k (p ∷ ps) = holding field (read p) (λ x. k x ps)

-- the next field is a number
abbrev pub number : {R : Type 0} → ℕ → (ℤ → List (List ℕ) → Result R Spot) → List (List ℕ) → Result R Spot
number = taking decimal_of

-- the next field is a status
abbrev pub status : {R : Type 0} → ℕ → (Bool → List (List ℕ) → Result R Spot) → List (List ℕ) → Result R Spot
status = taking status_of

-- there is no further field
abbrev pub end : {R : Type 0} → ℕ → R → List (List ℕ) → Result R Spot
end field row [] = Ok row
end field row (p ∷ ps) = Err (form_at field)

abbrev pub left_in : Option (Bor (List ℕ)) → List (List ℕ)
left_in None = []
left_in (Some t) = split comma t.now

-- the pieces that a cursor has before it
abbrev pub left : Fields → List (List ℕ)
left fields = left_in fields.rest

-- the next piece is well formed, and these are left behind it
abbrev pub Takes : {X E : Type 0} → (List ℕ → Result X E) → List (List ℕ) → List ℕ → List (List ℕ) → Type 0
Takes {X} read before piece behind = (before ≡ piece ∷ behind) × ((x : X) × (read piece ≡ Ok x))

-- the next piece is ill formed, or there is none
abbrev pub Stuck : {X E : Type 0} → (List ℕ → Result X E) → List (List ℕ) → Type 0
Stuck read [] = Unit {0}
Stuck {E} read (p ∷ ps) = (e : E) × (read p ≡ Err e)

-- there is no piece, or the next one is faulty
abbrev pub Faulty : List (List ℕ) → Type 0 → (List ℕ → Type 0) → Type 0
Faulty [] missing wrong = missing
Faulty (p ∷ ps) missing wrong = wrong p

-- a piece is left
abbrev pub Further : List (List ℕ) → Type 0
Further [] = ⊥
Further (p ∷ ps) = Unit {0}

-- a line of one kind, read from the pieces behind its letter: it holds these very pieces, which make a row, or the fault is theirs
abbrev pub ReadAs : {L R : Type 0} → (L → List (List ℕ)) → ℕ → (List (List ℕ) → Result R Spot) → List (List ℕ) → Result L Spot → Type 0
ReadAs {L} {R} pieces letter of ps r = MatchResult r (λ l. (pieces l ≡ (letter ∷ []) ∷ ps) × ((row : R) × (of ps ≡ Ok row))) (λ e. of ps ≡ Err e)

-- the same of a line of any kind, from all its pieces
abbrev pub ReadLine : {L R : Type 0} → (L → List (List ℕ)) → (List (List ℕ) → Result R Spot) → List (List ℕ) → Result L Spot → Type 0
ReadLine {L} {R} pieces of ps r = MatchResult r (λ l. (pieces l ≡ ps) × ((row : R) × (of ps ≡ Ok row))) (λ e. of ps ≡ Err e)
