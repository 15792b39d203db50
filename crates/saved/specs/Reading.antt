-- The hour that a text writes, or the first fault of the text.
use Rattle.std.specs.Prelude.{ℕ, ◌+◌, ◌-◌, cond, List, [], ◌∷◌, Ok, Err, Result}
use Rattle.faults.specs.declared.Fault.{Fault}
use Rattle.faults.specs.declared.Why.TheVariants.{Form}
use Rattle.faults.specs.Faults.{fault, in_line}
use Rattle.cuts.specs.Cuts.{split}
use Rattle.cuts.specs.Fields.{comma, line_end}
use Rattle.hour.specs.Hour.{Hour}
use Rattle.saved_rows.specs.Order.{finished}
use Rattle.saved_rows.specs.Running.{Place, step, onward, misended, begin}
use Rattle.saved.specs.Lines.{row_of}

-- a line has no end
abbrev pub unended : ℕ → Fault
unended n = fault Form n 0

-- what follows the last line end, at line n: nothing where the text is in order
abbrev pub read_last : Place → ℕ → List ℕ → Result Hour Fault
read_last p n [] = cond (finished p.stage) (Ok p.hour) (Err (misended n))
read_last p n (b ∷ bs) = cond (finished p.stage) (Err (misended n)) (onward (in_line n (row_of (split comma (b ∷ bs)))) (λ _. Err (unended n)))

-- the pieces between line ends, the first of which is line n: form, then order and values
abbrev pub read_from : Place → ℕ → List (List ℕ) → Result Hour Fault
read_from p n [] = Err (misended n)
read_from p n (l ∷ []) = read_last p n l
read_from p n (l ∷ m ∷ ls) =
    cond (finished p.stage) (Err (misended n)) (
    onward (in_line n (row_of (split comma l))) (λ r. onward (in_line n (step p (n - 1) r)) (λ q. read_from q (n + 1) (m ∷ ls))))

abbrev pub reading : List ℕ → Result Hour Fault
reading t = read_from begin 1 (split line_end t)
