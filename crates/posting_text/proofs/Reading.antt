-- The fields of a posting line, read one by one.
use Rattle.std.proofs.Common.{◌≡◌, ℕ, List, [], ◌∷◌, ℤ, IfOk, Ok, Err, Result, sym}
use Rattle.faults.specs.declared.Spot.{Spot}
use Rattle.decimals.specs.Decimals.{decimal_of}
use Rattle.posting_text.specs.declared.entries.Entry.{Entry}
use Rattle.posting_text.specs.Lines.{after_letter, line_entry}
use Rattle.posting_text.specs.Written.{Right}
use Rattle.posting_text.specs.Keeping.{line_right}

-- three numbers and no more
pub three_fields : (a b c : List ℕ) (x y z : ℤ) (l₀ l₁ l₂ l₃ : List (List ℕ)) → l₀ ≡ a ∷ l₁ → l₁ ≡ b ∷ l₂ → l₂ ≡ c ∷ l₃ → l₃ ≡ []
    → decimal_of a ≡ Ok x → decimal_of b ≡ Ok y → decimal_of c ≡ Ok z
    → (l₀ ≡ a ∷ b ∷ c ∷ []) × (after_letter l₀ ≡ Ok (record { bus = x; column = y; value = z }))
three_fields a b c x y z l₀ l₁ l₂ l₃ p q r s u v w = (rw (p, q, r, s), rw (p, u, q, v, r, w, s))

-- the entry of a line is one that may be posted
pub entry_is_right : (line : List ℕ) (r : Result Entry Spot) → r ≡ line_entry line → IfOk r (λ e. Right e)
entry_is_right line (Ok e) h = line_right line e (sym h)
entry_is_right line (Err s) h = tt
