-- The last number of a bus and column is that of the last entry.
use Rattle.std.proofs.Common.{◌≡◌, ℕ, ◌&&◌, Bool, true, false, eqb, List, [], ◌∷◌, Some, None, Ok, Err, Option, Result, refl}
use Rattle.std.specs.List.{cons_option, filter, filter_map, last_or}
use Rattle.std.specs.Result.{result_ok}
use Rattle.faults.specs.declared.Spot.{Spot}
use Rattle.posting_text.specs.declared.entries.Entry.{Entry}
use Rattle.posting_text.specs.Lines.{line_entry}
use Rattle.posting_text.specs.Texts.{lines}
use Rattle.posting_text.specs.Direct.{number_after, last_number, last_entry, number_of, direct_number}

module _ (bus column : ℕ) where
  abbrev is_at : Entry → Bool
  is_at e = eqb e.bus bus && eqb e.column column

  abbrev right_lines : List (List ℕ) → List Entry
  right_lines = filter_map (λ l. result_ok (line_entry l))

  one_entry : (e : Entry) (b : Bool) → is_at e ≡ b → (o : Option Entry) (ls : List (List ℕ))
      → ((p : Option Entry) → last_number bus column (number_of p) ls ≡ number_of (last_or p (filter is_at (right_lines ls))))
      → last_number bus column (number_after bus column (number_of o) (Ok e)) ls ≡ number_of (last_or o (filter is_at (e ∷ right_lines ls)))
  one_entry e true h o ls on = rw h (on (Some e))
  one_entry e false h o ls on = rw h (on o)

  one_line : (r : Result Entry Spot) (o : Option Entry) (ls : List (List ℕ))
      → ((p : Option Entry) → last_number bus column (number_of p) ls ≡ number_of (last_or p (filter is_at (right_lines ls))))
      → last_number bus column (number_after bus column (number_of o) r) ls ≡ number_of (last_or o (filter is_at (cons_option (result_ok r) (right_lines ls))))
  one_line (Ok e) o ls on = one_entry e (is_at e) refl o ls on
  one_line (Err s) o ls on = on o

  last_from : (o : Option Entry) (ls : List (List ℕ)) → last_number bus column (number_of o) ls ≡ number_of (last_or o (filter is_at (right_lines ls)))
  last_from o [] = refl
  last_from o (l ∷ ls) = one_line (line_entry l) o ls (λ p. last_from p ls)

pub direct_last : (text : List ℕ) (bus column : ℕ) → direct_number text bus column ≡ number_of (last_entry bus column (lines text))
unfolding direct_number
direct_last text bus column = last_from bus column None (lines text)
