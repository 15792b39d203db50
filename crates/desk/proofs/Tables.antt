-- What a posting over the table reads after a factor.
use Rattle.std.proofs.Common.{◌≡◌, ℕ, ◌<◌, ◌≤◌, true, List, length, set, ℤ, pos, negsuc, Some, sym, ap, ◌∙◌, inl, ⊎_elim, arith}
use Rattle.std.proofs.lemmas.Int.{ints}
use Rattle.std.proofs.lemmas.Bool.{leb-true, cases_lt}
use Rattle.std.proofs.lemmas.Grind.{common_steps}
use Rattle.posting.specs.Grids.{Within}
use Rattle.posting.specs.Limits.{buses, most_table_number}
use Rattle.posting.specs.Meanings.{table_grid}
use Rattle.posting.proofs.TableLaws.{table_laws}
use Rattle.bounds.specs.Bounds.{up_to, within}
use Rattle.hour.specs.Limits.{last_bus, last_constraint}
use Rattle.script.specs.declared.factors.Factor.{Factor}
use Rattle.desk.specs.Factors.{place}
use Rattle.desk.specs.FactorLaws.{OnlyThere}
use Rattle.hour.proofs.Tables.{up_to_is}

-- a factor's number may stand in a table
is_within : (z : ℤ) → within z most_table_number ≡ true → Within most_table_number z
is_within (pos n) e = let h = leb-true n most_table_number e in record { low = omega (arith, ints); high = omega (arith, ints) }
is_within (negsuc n) e = let h = leb-true _ most_table_number e in record { low = omega (arith, ints); high = omega (arith, ints) }

pub only_there : (t : List ℤ) (f : Factor) (b k : ℕ) → length t ≡ 8192 → up_to f.bus last_bus ≡ Some b → b ≤ last_bus
    → up_to f.column last_constraint ≡ Some k → k ≤ last_constraint → within f.number most_table_number ≡ true → OnlyThere t (set t (place b k) f.number) f
only_there t f b k l is-bus low-bus is-column low-column small =
    let p = up_to_is f.bus last_bus b is-bus in
    let q = up_to_is f.column last_constraint k is-column in
    let laws = table_laws t in
    record {
      here = λ bus column e d.
          let i : bus ≡ b = cc in
          let j : column ≡ k = cc in
          ap (λ (x : ℕ). (table_grid (set t (place b k) f.number)).at x column) i
          ∙ ap (λ (x : ℕ). (table_grid (set t (place b k) f.number)).at b x) j
          ∙ laws.what_is_written_is_read b k f.number (omega arith) (omega arith) (omega arith) (is_within f.number small);
      others = λ bus column apart.
          ⊎_elim
          (λ (h : bus < buses). laws.other_entries_stay bus column b k f.number h (omega arith)
          (λ e d. apart (p ∙ ap pos (sym e)) (q ∙ ap pos (sym d))))
          (λ (h : buses ≤ bus). (table_grid (set t (place b k) f.number)).outside bus column (inl h) ∙ sym ((table_grid t).outside bus column (inl h)))
          (cases_lt bus buses);
    }
