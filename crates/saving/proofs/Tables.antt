-- The entries of a table, numbered by a range.
use Rattle.std.proofs.Common.{◌≡◌, ℕ, suc, ◌+◌, ◌-◌, ◌≤◌, List, ◌∷◌, ◌++◌, sym, ap, ◌∙◌, append_assoc, arith}
use Rattle.saved_rows.specs.declared.row.Row.{Row}
use Rattle.saved_rows.specs.Rows.{indexed}

-- the first of the entries that are left has come
pub next_entry : {T : Type 0} (f : ℕ → T → List Row) (all done : List Row) (left next k : ℕ) (x : T) (rest later : List T)
    → all ≡ done ++ indexed f (256 - left) rest → rest ≡ x ∷ later → k ≡ 256 - left → next + 1 ≡ left → left ≤ 256
    → all ≡ (done ++ f k x) ++ indexed f (256 - next) later
next_entry f all done left next k x rest later is first number less few =
    let after : suc (256 - left) ≡ 256 - next = omega arith in
    is
    ∙ ap (λ t. done ++ indexed f (256 - left) t) first
    ∙ ap (λ n. done ++ (f n x ++ indexed f (suc (256 - left)) later)) (sym number)
    ∙ ap (λ n. done ++ (f k x ++ indexed f n later)) after
    ∙ sym (append_assoc done (f k x) (indexed f (256 - next) later))
