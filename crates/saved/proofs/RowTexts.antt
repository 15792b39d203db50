-- A line and its row: what a row writes is read back, and nothing else is read.
use Rattle.std.proofs.Common.{◌≡◌, ℕ, ◌<◌, Bool, true, false, cond, eqb, List, [], ◌∷◌, ℤ, Ok, Result, sym, refl, ap, ◌∙◌, subst, ⊎_elim, arith}
use Rattle.std.specs.Fmt.{signed_decimal as signed}
use Rattle.std.specs.List.{AllByRecursion as All}
use Rattle.std.proofs.lemmas.Bool.{cond-true, cond-false, cases_Bool, eqb-true}
use Rattle.faults.specs.Faults.{malformed}
use Rattle.faults.specs.declared.Spot.{Spot}
use Rattle.decimals.specs.Decimals.{decimal_of}
use Rattle.decimals.specs.Canonical.{FewDigits}
use Rattle.decimals.proofs.Signs.{decimal_signed, signed_decimal}
use Rattle.cuts.specs.Cuts.{split, join}
use Rattle.cuts.specs.Fields.{comma, form_at, status_of, number, status, line_end}
use Rattle.cuts.proofs.Cutting.{Plain, split_join, join_split}
use Rattle.cuts.proofs.Plains.{signed_plain, join_plain}
use Rattle.cuts.proofs.Taking.{taken_field, ended}
use Rattle.saved_rows.specs.Laws.{Writable}
use Rattle.saved_rows.specs.declared.row.Row.{Row}
use Rattle.saved_rows.specs.declared.row.Row.TheVariants as row
use Rattle.saved_rows.proofs.OnlySaved.{never}
use Rattle.saved.specs.Lines.{row_of, by_letter, bus_of, of_one, of_two, run_of}
use Rattle.saved.specs.Texts.{status_text, fields_of}

-- neither comma nor line end stands in a field
letter_plain : (sep b : ℕ) → sep < 45 → 45 < b → Plain sep (b ∷ [])
letter_plain sep b s h = ((λ e. omega arith), tt)

status_plain : (sep : ℕ) (b : Bool) → sep < 45 → Plain sep (status_text b)
status_plain sep false s = letter_plain sep 48 s (omega arith)
status_plain sep true s = letter_plain sep 49 s (omega arith)

fields_plain : (sep : ℕ) (r : Row) → sep < 45 → Writable r → All (Plain sep) (fields_of r)
fields_plain sep (row.Bus b) s h = (
  letter_plain sep 66 s (omega arith),
  (
    signed_plain sep b.bus s h.0,
    (
      signed_plain sep b.hub_bus s h.1,
      (
        signed_plain sep b.zone s h.2,
        (
          status_plain sep b.day_ahead_live s,
          (signed_plain sep b.day_ahead_load s h.3, (status_plain sep b.real_time_live s, (signed_plain sep b.real_time_load s h.4, tt))),
        ),
      ),
    ),
  ),
)
fields_plain sep (row.Lambda z) s h = (letter_plain sep 76 s (omega arith), (signed_plain sep z s h, tt))
fields_plain sep (row.Constraint k p) s h = (letter_plain sep 67 s (omega arith), (signed_plain sep k s h.0, (signed_plain sep p s h.1, tt)))
fields_plain sep (row.Outage k b) s h = (letter_plain sep 79 s (omega arith), (signed_plain sep k s h.0, (signed_plain sep b s h.1, tt)))
fields_plain sep (row.Run k t a r) s h =
    (letter_plain sep 82 s (omega arith), (signed_plain sep k s h.0, (signed_plain sep t s h.1, (signed_plain sep a s h.2, (signed_plain sep r s h.3, tt)))))
fields_plain sep (row.End n) s h = (letter_plain sep 90 s (omega arith), (signed_plain sep n s h, tt))

pub line_plain : (r : Row) → Writable r → Plain line_end (join comma (fields_of r))
line_plain r h = join_plain line_end (fields_of r) (omega arith) (fields_plain line_end r (omega arith) h)

-- the fields of a line come apart again
rejoined : (r : Row) → Writable r → split comma (join comma (fields_of r)) ≡ fields_of r
rejoined (row.Bus b) h = split_join comma _ _ (fields_plain comma (row.Bus b) (omega arith) h)
rejoined (row.Lambda z) h = split_join comma _ _ (fields_plain comma (row.Lambda z) (omega arith) h)
rejoined (row.Constraint k p) h = split_join comma _ _ (fields_plain comma (row.Constraint k p) (omega arith) h)
rejoined (row.Outage k b) h = split_join comma _ _ (fields_plain comma (row.Outage k b) (omega arith) h)
rejoined (row.Run k s a r) h = split_join comma _ _ (fields_plain comma (row.Run k s a r) (omega arith) h)
rejoined (row.End n) h = split_join comma _ _ (fields_plain comma (row.End n) (omega arith) h)

status_text_back : (b : Bool) → status_of (status_text b) ≡ Ok b
status_text_back false = refl
status_text_back true = refl

row_fields : (r : Row) → Writable r → row_of (fields_of r) ≡ Ok r
row_fields (row.Bus b) h =
    rw (
      decimal_signed b.bus h.0,
      decimal_signed b.hub_bus h.1,
      decimal_signed b.zone h.2,
      status_text_back b.day_ahead_live,
      decimal_signed b.day_ahead_load h.3,
      status_text_back b.real_time_live,
      decimal_signed b.real_time_load h.4,
    )
row_fields (row.Lambda z) h = rw (decimal_signed z h)
row_fields (row.Constraint k p) h = rw (decimal_signed k h.0, decimal_signed p h.1)
row_fields (row.Outage k b) h = rw (decimal_signed k h.0, decimal_signed b h.1)
row_fields (row.Run k s a r) h = rw (decimal_signed k h.0, decimal_signed s h.1, decimal_signed a h.2, decimal_signed r h.3)
row_fields (row.End n) h = rw (decimal_signed n h)

-- what a row writes is read back
pub row_line : (r : Row) → Writable r → row_of (split comma (join comma (fields_of r))) ≡ Ok r
row_line r h = ap row_of (rejoined r h) ∙ row_fields r h

-- a number that was read
number_inv : (f : ℕ) (k : ℤ → List (List ℕ) → Result Row Spot) (ps : List (List ℕ)) (r : Row) → number f k ps ≡ Ok r → (z : ℤ) × (qs : List (List ℕ)) × (ps ≡ signed z ∷ qs) × FewDigits z × (k z qs ≡ Ok r)
number_inv f k ps r e =
    let t = taken_field decimal_of f k ps r e in
    let d = signed_decimal t.1 t.0 t.4 in
    (t.0, t.2, t.3 ∙ ap (λ p. p ∷ t.2) d.0, d.1, t.5)

text_status : (p : List ℕ) (b : Bool) → status_of p ≡ Ok b → p ≡ status_text b
text_status [] b e = never b malformed e
text_status (c ∷ d ∷ ds) b e = never b malformed e
text_status (c ∷ []) b e = ⊎_elim
    (λ (d : eqb c 48 ≡ true). let z : Ok false ≡ Ok b = sym (cond-true _ _ _ d) ∙ e in let q : false ≡ b = cc in ap (λ n. n ∷ []) (eqb-true c 48 d) ∙ ap status_text q)
    (λ (d : eqb c 48 ≡ false). ⊎_elim
    (λ (g : eqb c 49 ≡ true). let z : Ok true ≡ Ok b = sym (cond-true _ _ _ g) ∙ sym (cond-false _ _ _ d) ∙ e in let q : true ≡ b = cc in ap (λ n. n ∷ []) (eqb-true c 49 g) ∙ ap status_text q)
    (λ (g : eqb c 49 ≡ false). never b malformed (sym (cond-false _ _ _ g) ∙ sym (cond-false _ _ _ d) ∙ e))
    (cases_Bool (eqb c 49)))
    (cases_Bool (eqb c 48))

-- a status that was read
status_inv : (f : ℕ) (k : Bool → List (List ℕ) → Result Row Spot) (ps : List (List ℕ)) (r : Row) → status f k ps ≡ Ok r → (b : Bool) × (qs : List (List ℕ)) × (ps ≡ status_text b ∷ qs) × (k b qs ≡ Ok r)
status_inv f k ps r e =
    let t = taken_field status_of f k ps r e in
    (t.0, t.2, t.3 ∙ ap (λ p. p ∷ t.2) (text_status t.1 t.0 t.4), t.5)

-- the pieces are the fields of the row
abbrev Of : List (List ℕ) → Row → Type 0
Of ps r = (ps ≡ fields_of r) × Writable r

bus_inv : (ps : List (List ℕ)) (r : Row) → bus_of ps ≡ Ok r → Of ((66 ∷ []) ∷ ps) r
bus_inv ps r e =
    let a = number_inv 2 _ ps r e in
    let b = number_inv 3 _ a.1 r a.4 in
    let c = number_inv 4 _ b.1 r b.4 in
    let d = status_inv 5 _ c.1 r c.4 in
    let f = number_inv 6 _ d.1 r d.3 in
    let g = status_inv 7 _ f.1 r f.4 in
    let h = number_inv 8 _ g.1 r g.3 in
    let i = ended 9 _ h.1 r h.4 in
    let all = a.2 ∙ ap (λ l. signed a.0 ∷ l) (b.2 ∙ ap (λ l. signed b.0 ∷ l) (c.2 ∙ ap (λ l. signed c.0 ∷ l) (d.2 ∙ ap (λ l. status_text d.0 ∷ l) (
    f.2 ∙ ap (λ l. signed f.0 ∷ l) (g.2 ∙ ap (λ l. status_text g.0 ∷ l) (h.2 ∙ ap (λ l. signed h.0 ∷ l) i.0)))))) in
    subst (Of ((66 ∷ []) ∷ ps)) i.1 (ap (λ l. (66 ∷ []) ∷ l) all, (a.3, b.3, c.3, f.3, h.3))

module _ (letter : ℕ) (ps : List (List ℕ)) (r : Row) where
  one_inv : (make : ℤ → Row) → ((z : ℤ) → FewDigits z → Of ((letter ∷ []) ∷ signed z ∷ []) (make z)) → of_one make ps ≡ Ok r → Of ((letter ∷ []) ∷ ps) r
  one_inv make written e =
      let a = number_inv 2 _ ps r e in
      let d = ended 3 _ a.1 r a.4 in
      let all = a.2 ∙ ap (λ l. signed a.0 ∷ l) d.0 in
      subst (λ l. Of ((letter ∷ []) ∷ l) r) (sym all) (subst (Of ((letter ∷ []) ∷ signed a.0 ∷ [])) d.1 (written a.0 a.3))

  two_inv : (make : ℤ → ℤ → Row) → ((y z : ℤ) → FewDigits y → FewDigits z → Of ((letter ∷ []) ∷ signed y ∷ signed z ∷ []) (make y z)) → of_two make ps ≡ Ok r → Of ((letter ∷ []) ∷ ps) r
  two_inv make written e =
      let a = number_inv 2 _ ps r e in
      let b = number_inv 3 _ a.1 r a.4 in
      let d = ended 4 _ b.1 r b.4 in
      let all = a.2 ∙ ap (λ l. signed a.0 ∷ l) (b.2 ∙ ap (λ l. signed b.0 ∷ l) d.0) in
      subst (λ l. Of ((letter ∷ []) ∷ l) r) (sym all) (subst (Of ((letter ∷ []) ∷ signed a.0 ∷ signed b.0 ∷ [])) d.1 (written a.0 b.0 a.3 b.3))

run_inv : (ps : List (List ℕ)) (r : Row) → run_of ps ≡ Ok r → Of ((82 ∷ []) ∷ ps) r
run_inv ps r e =
    let a = number_inv 2 _ ps r e in
    let b = number_inv 3 _ a.1 r a.4 in
    let c = number_inv 4 _ b.1 r b.4 in
    let f = number_inv 5 _ c.1 r c.4 in
    let d = ended 6 _ f.1 r f.4 in
    subst (Of ((82 ∷ []) ∷ ps)) d.1 (ap (λ l. (82 ∷ []) ∷ l) (a.2 ∙ ap (λ l. signed a.0 ∷ l) (b.2 ∙ ap (λ l. signed b.0 ∷ l) (c.2 ∙ ap (λ l. signed c.0 ∷ l) (f.2 ∙ ap (λ l. signed f.0 ∷ l) d.0)))), (a.3, b.3, c.3, f.3))

-- one case of the choice by letter
by_case : (b m : ℕ) (ps : List (List ℕ)) (r : Row) (x y : Result Row Spot) → cond (eqb b m) x y ≡ Ok r → (x ≡ Ok r → Of ((m ∷ []) ∷ ps) r) → (y ≡ Ok r → Of ((b ∷ []) ∷ ps) r) → Of ((b ∷ []) ∷ ps) r
by_case b m ps r x y e hit miss = ⊎_elim
    (λ (d : eqb b m ≡ true). let p = hit (sym (cond-true _ _ _ d) ∙ e) in (ap (λ n. (n ∷ []) ∷ ps) (eqb-true b m d) ∙ p.0, p.1))
    (λ (d : eqb b m ≡ false). miss (sym (cond-false _ _ _ d) ∙ e))
    (cases_Bool (eqb b m))

letter_inv : (b : ℕ) (ps : List (List ℕ)) (r : Row) → by_letter b ps ≡ Ok r → Of ((b ∷ []) ∷ ps) r
letter_inv b ps r e =
    by_case b 66 ps r _ _ e (bus_inv ps r) (λ e. by_case b 76 ps r _ _ e (one_inv 76 ps r row.Lambda (λ z h. (refl, h))) (λ e. by_case b 67 ps r _ _ e (two_inv 67 ps r row.Constraint (λ y z g h. (refl, (g, h)))) (
    λ e. by_case b 79 ps r _ _ e (two_inv 79 ps r row.Outage (λ y z g h. (refl, (g, h)))) (λ e. by_case b 82 ps r _ _ e (run_inv ps r) (λ e. by_case b 90 ps r _ _ e (one_inv 90 ps r row.End (λ z h. (refl, h))) (λ e. never r (form_at 1) e))))))

row_inv : (ps : List (List ℕ)) (r : Row) → row_of ps ≡ Ok r → Of ps r
row_inv [] r e = never r (form_at 1) e
row_inv ([] ∷ ps) r e = never r (form_at 1) e
row_inv ((b ∷ []) ∷ ps) r e = letter_inv b ps r e
row_inv ((b ∷ c ∷ bs) ∷ ps) r e = never r (form_at 1) e

-- and nothing else is read
pub line_row : (l : List ℕ) (r : Row) → row_of (split comma l) ≡ Ok r → (l ≡ join comma (fields_of r)) × Writable r
line_row l r e = let p = row_inv (split comma l) r e in (sym (join_split comma l) ∙ ap (join comma) p.0, p.1)
