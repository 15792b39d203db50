-- The lines of saved text: the row that the fields of a line write.
use Rattle.std.specs.Prelude.{◌≡◌, ℕ, cond, List, [], ◌∷◌, Some, None, Ok, Err, Option, Result, ℤ, MatchResult, ◌==◌}
use Rattle.std.specs.Borrow.{Bor}
use Rattle.faults.specs.declared.Spot.{Spot}
use Rattle.cuts.specs.Fields.{form_at, letter_of, number, status, end, ReadAs}
use Rattle.saved_rows.specs.declared.row.BusRow.{BusRow}
use Rattle.saved_rows.specs.declared.row.Row.{Row}
use Rattle.saved_rows.specs.declared.row.Row.TheVariants as row
use Rattle.saved.specs.declared.line.BusLine.{BusLine}
use Rattle.saved.specs.declared.line.Line.{Line}
use Rattle.saved.specs.declared.line.Line.TheVariants as line

-- bus, hub bus, zone, day-ahead status and load, real-time status and load
abbrev pub bus_of : List (List ℕ) → Result Row Spot
bus_of =
    number 2 (λ bus. number 3 (λ hub. number 4 (λ zone. status 5 (λ day_live. number 6 (λ day_load. status 7 (λ real_live. number 8 (λ real_load.
    end 9 (row.Bus (record { bus = bus; hub_bus = hub; zone = zone; day_ahead_live = day_live; day_ahead_load = day_load; real_time_live = real_live; real_time_load = real_load })))))))))

-- one number, or two, of which a row is made
abbrev pub of_one : (ℤ → Row) → List (List ℕ) → Result Row Spot
of_one make = number 2 (λ a. end 3 (make a))

abbrev pub of_two : (ℤ → ℤ → Row) → List (List ℕ) → Result Row Spot
of_two make = number 2 (λ a. number 3 (λ b. end 4 (make a b)))

abbrev pub lambda_of : List (List ℕ) → Result Row Spot
lambda_of = of_one row.Lambda

-- constraint and shadow price
abbrev pub constraint_of : List (List ℕ) → Result Row Spot
constraint_of = of_two row.Constraint

-- constraint and bus
abbrev pub outage_of : List (List ℕ) → Result Row Spot
outage_of = of_two row.Outage

-- run, seconds, reserve adder and reliability adder
abbrev pub run_of : List (List ℕ) → Result Row Spot
run_of = number 2 (λ run. number 3 (λ seconds. number 4 (λ reserve. number 5 (λ reliability. end 6 (row.Run run seconds reserve reliability)))))

-- the number of lines before it
abbrev pub end_of : List (List ℕ) → Result Row Spot
end_of = of_one row.End

-- by the letters B, L, C, O, R and Z
abbrev pub by_letter : ℕ → List (List ℕ) → Result Row Spot
by_letter b ps =
    cond (b == 66) (bus_of ps) (
    cond (b == 76) (lambda_of ps) (
    cond (b == 67) (constraint_of ps) (
    cond (b == 79) (outage_of ps) (
    cond (b == 82) (run_of ps) (
    cond (b == 90) (end_of ps) (
    Err (form_at 1)))))))

abbrev pub by_first : Option ℕ → List (List ℕ) → Result Row Spot
by_first None ps = Err (form_at 1)
by_first (Some b) ps = by_letter b ps

-- the row that pieces write
abbrev pub row_of : List (List ℕ) → Result Row Spot
row_of [] = Err (form_at 1)
row_of (p ∷ ps) = by_first (letter_of p) ps

-- the pieces that a bus line holds behind its letter
abbrev pub bus_pieces : BusLine → List (List ℕ)
bus_pieces l = l.bus.now ∷ l.hub_bus.now ∷ l.zone.now ∷ l.day_ahead_status.now ∷ l.day_ahead_load.now ∷ l.real_time_status.now ∷ l.real_time_load.now ∷ []

-- the pieces that a line holds
abbrev pub pieces : Line → List (List ℕ)
pieces (line.Bus l) = (66 ∷ []) ∷ bus_pieces l
pieces (line.Lambda a) = (76 ∷ []) ∷ a.now ∷ []
pieces (line.Constraint a b) = (67 ∷ []) ∷ a.now ∷ b.now ∷ []
pieces (line.Outage a b) = (79 ∷ []) ∷ a.now ∷ b.now ∷ []
pieces (line.Run a b c d) = (82 ∷ []) ∷ a.now ∷ b.now ∷ c.now ∷ d.now ∷ []
pieces (line.End a) = (90 ∷ []) ∷ a.now ∷ []

-- the pieces of a line of one number, or of two, behind any letter
abbrev pub OneRead : List (List ℕ) → Result (Bor (List ℕ)) Spot → Type 0
OneRead ps r = (letter : ℕ) (make : ℤ → Row) → ReadAs (λ a. (letter ∷ []) ∷ a.now ∷ []) letter (of_one make) ps r

abbrev pub TwoRead : List (List ℕ) → Result (Bor (List ℕ) × Bor (List ℕ)) Spot → Type 0
TwoRead ps r = (letter : ℕ) (make : ℤ → ℤ → Row) → ReadAs (λ ab. (letter ∷ []) ∷ ab.0.now ∷ ab.1.now ∷ []) letter (of_two make) ps r

-- the numbers of a bus line
abbrev pub BusRead : Result Row Spot → Result BusRow Spot → Type 0
BusRead said r = MatchResult r (λ b. said ≡ Ok (row.Bus b)) (λ e. said ≡ Err e)
