-- The laws of the direct posting.
use Rattle.std.proofs.Common.{◌≡◌, ℕ, true, false, ◌&&◌, eqb, List, [], ◌∷◌, ◌++◌, ℤ, pos, Ok, Err, Result, sym, refl, ap, ◌∙◌, subst, inl, inr, ⊎_elim, append_assoc, append-nil}
use Rattle.std.proofs.lemmas.Bool.{cond-true, cond-false, cond_both, cases_Bool, and_from, and_parts, both_ways, eqb-true, eq-eqb}
use Rattle.std.proofs.lemmas.List.Sums.{fold-append}
use Rattle.faults.specs.declared.Spot.{Spot}
use Rattle.cuts.specs.Cuts.{split, on_first}
use Rattle.cuts.proofs.Cutting.{split_front, split_plain, split_append}
use Rattle.posting_text.specs.declared.entries.Entry.{Entry}
use Rattle.posting_text.specs.Lines.{line_entry}
use Rattle.posting_text.specs.Texts.{ended, lines}
use Rattle.posting_text.specs.Written.{Right, written}
use Rattle.posting_text.specs.Direct.{number_after, last_number, direct_number}
use Rattle.posting_text.specs.Keeping.{direct_small}
use Rattle.posting_text.specs.Meanings.{direct_grid}
use Rattle.posting_text.specs.Laws.{Whole, OneLine, Wrong, with_line, DirectLaws}
use Rattle.posting_text.proofs.Canonical.{entry_written, written_entry, written_plain}
use Rattle.cuts.specs.Fields.{line_end}

-- a line end parts the pieces before it from those behind it
on_first_more : (b : ℕ) (ps qs : List (List ℕ)) (p : List ℕ) (rest : List (List ℕ)) → ps ≡ p ∷ rest → on_first b (ps ++ qs) ≡ on_first b ps ++ qs
on_first_more b ps qs p rest e = subst (λ (x : List (List ℕ)). on_first b (x ++ qs) ≡ on_first b x ++ qs) (sym e) refl

split_more : (s t : List ℕ) → split line_end (s ++ (line_end ∷ t)) ≡ split line_end s ++ split line_end t
split_more [] t = refl
split_more (b ∷ bs) t = ⊎_elim
    (λ (d : eqb b line_end ≡ true).
    cond-true _ _ _ d ∙ ap (λ l. [] ∷ l) (split_more bs t) ∙ ap (λ (l : List (List ℕ)). l ++ split line_end t) (sym (cond-true _ _ _ d)))
    (λ (d : eqb b line_end ≡ false).
    cond-false _ _ _ d ∙ ap (on_first b) (split_more bs t) ∙ on_first_more b (split line_end bs) (split line_end t) _ _ (split_front line_end bs)
    ∙ ap (λ (l : List (List ℕ)). l ++ split line_end t) (sym (cond-false _ _ _ d)))
    (cases_Bool (eqb b line_end))

ended_append : (ps : List (List ℕ)) (q : List ℕ) (qs : List (List ℕ)) → ended (ps ++ (q ∷ qs)) ≡ ps ++ ended (q ∷ qs)
ended_append [] q qs = refl
ended_append (p ∷ []) q qs = refl
ended_append (p ∷ r ∷ ps) q qs = ap (λ l. p ∷ l) (ended_append (r ∷ ps) q qs)

lines_more : (s t : List ℕ) → lines (s ++ (line_end ∷ t)) ≡ split line_end s ++ lines t
unfolding lines
lines_more s t =
    ap ended (split_more s t)
    ∙ subst (λ (x : List (List ℕ)). ended (split line_end s ++ x) ≡ split line_end s ++ ended x) (sym (split_front line_end t)) (ended_append (split line_end s) _ _)

-- the lines of a whole text stand before those of what follows it
lines_append : (s t : List ℕ) → Whole s → lines (s ++ t) ≡ lines s ++ lines t
unfolding lines
lines_append s t (inl e) = ap (λ (x : List ℕ). lines (x ++ t)) e ∙ ap (λ (x : List ℕ). lines x ++ lines t) (sym e)
lines_append s t (inr w) =
    let u = w.0 in
    ap (λ (x : List ℕ). lines (x ++ t)) w.1 ∙ ap lines (append_assoc u (line_end ∷ []) t) ∙ lines_more u t
    ∙ ap (λ (x : List (List ℕ)). x ++ lines t) (sym (ap lines w.1 ∙ lines_more u [] ∙ append-nil (split line_end u)))

lines_one : (line : List ℕ) → OneLine line → lines (line ++ (line_end ∷ [])) ≡ line ∷ []
unfolding lines
lines_one line h = ap ended (split_append line_end line [] h)

lines_unended : (line : List ℕ) → OneLine line → lines line ≡ []
unfolding lines
lines_unended line h = ap ended (split_plain line_end line h)

-- what follows a whole text goes on from its number
direct_append : (s t : List ℕ) → Whole s → (bus column : ℕ) → direct_number (s ++ t) bus column ≡ last_number bus column (direct_number s bus column) (lines t)
unfolding direct_number
direct_append s t w bus column = ap (last_number bus column (pos 0)) (lines_append s t w) ∙ fold-append (λ (z : ℤ) (l : List ℕ). number_after bus column z (line_entry l)) (pos 0) (lines s) (lines t)

direct_line : (s line : List ℕ) → Whole s → OneLine line → (bus column : ℕ)
    → direct_number (with_line s line) bus column ≡ number_after bus column (direct_number s bus column) (line_entry line)
direct_line s line w one bus column =
    direct_append s (line ++ (line_end ∷ [])) w bus column ∙ ap (last_number bus column (direct_number s bus column)) (lines_one line one)

whole_line : (s line : List ℕ) → Whole (with_line s line)
whole_line s line = inr (s ++ line, sym (append_assoc s line (line_end ∷ [])))

whole_append : (s t : List ℕ) → Whole s → Whole t → Whole (s ++ t)
whole_append s t ws (inl e) = subst (λ (x : List ℕ). Whole (s ++ x)) (sym e) (subst Whole (sym (append-nil s)) ws)
whole_append s t ws (inr w) = inr (s ++ w.0, ap (λ (x : List ℕ). s ++ x) w.1 ∙ sym (append_assoc s w.0 (line_end ∷ [])))

-- a right line at its own place, and at another
number_here : (e : Entry) (z : ℤ) → number_after e.bus e.column z (Ok e) ≡ e.number
number_here e z = cond-true _ _ _ (and_from (eqb e.bus e.bus) (eqb e.column e.column) (eq-eqb e.bus e.bus refl) (eq-eqb e.column e.column refl))

number_else : (e : Entry) (bus column : ℕ) (z : ℤ) → (bus ≡ e.bus → column ≡ e.column → ⊥) → number_after bus column z (Ok e) ≡ z
number_else e bus column z apart =
    cond_both (eqb e.bus bus && eqb e.column column) e.number z (λ x. x ≡ z)
    (λ t. let p = and_parts (eqb e.bus bus) (eqb e.column column) t in
    absurd (apart (sym (eqb-true e.bus bus p.0)) (sym (eqb-true e.column column p.1))))
    (λ _. refl)

wrong_stays : (line : List ℕ) (r : Result Entry Spot) → Wrong line → line_entry line ≡ r → (bus column : ℕ) (z : ℤ) → number_after bus column z r ≡ z
wrong_stays line (Ok e) wrong h bus column z = let w = written_entry line e h in absurd (wrong e w.1 w.0)
wrong_stays line (Err s) wrong h bus column z = refl

none_posted : (bus column : ℕ) → direct_number [] bus column ≡ pos 0
unfolding direct_number lines
none_posted bus column = refl

module _ (text : List ℕ) (whole : Whole text) where
  right_line : (e : Entry) → Right e → (bus column : ℕ) → direct_number (with_line text (written e)) bus column ≡ number_after bus column (direct_number text bus column) (Ok e)
  right_line e r bus column =
      direct_line text (written e) whole (written_plain e r) bus column ∙ ap (number_after bus column (direct_number text bus column)) (entry_written e r)

  unended : (line : List ℕ) → OneLine line → (bus column : ℕ) → direct_number (text ++ line) bus column ≡ direct_number text bus column
  unended line one bus column = direct_append text line whole bus column ∙ ap (last_number bus column (direct_number text bus column)) (lines_unended line one)

  -- two lines for one place, and lines between them
  module _ (between : List ℕ) (whole_between : Whole between) (first second : Entry) (right_first : Right first) (right_second : Right second)
      (same_bus : first.bus ≡ second.bus) (same_column : first.column ≡ second.column) (bus column : ℕ) where
    not_there : eqb second.bus bus && eqb second.column column ≡ false → bus ≡ first.bus → column ≡ first.column → ⊥
    not_there f b c =
        both_ways (eqb second.bus bus && eqb second.column column) f
        (and_from (eqb second.bus bus) (eqb second.column column) (eq-eqb second.bus bus (sym (b ∙ same_bus))) (eq-eqb second.column column (sym (c ∙ same_column))))

    before_second : eqb second.bus bus && eqb second.column column ≡ false
        → direct_number (with_line text (written first) ++ between) bus column ≡ direct_number (text ++ between) bus column
    before_second f =
        direct_append (with_line text (written first)) between (whole_line text (written first)) bus column
        ∙ ap (λ (z : ℤ). last_number bus column z (lines between))
        (right_line first right_first bus column ∙ number_else first bus column (direct_number text bus column) (not_there f))
        ∙ sym (direct_append text between whole bus column)

    with_second : (s : List ℕ) → Whole s → direct_number (with_line s (written second)) bus column ≡ number_after bus column (direct_number s bus column) (Ok second)
    with_second s w =
        direct_line s (written second) w (written_plain second right_second) bus column ∙ ap (number_after bus column (direct_number s bus column)) (entry_written second right_second)

    pub first_of_two : direct_number (with_line (with_line text (written first) ++ between) (written second)) bus column
        ≡ direct_number (with_line (text ++ between) (written second)) bus column
    first_of_two =
        with_second (with_line text (written first) ++ between) (whole_append (with_line text (written first)) between (whole_line text (written first)) whole_between)
        ∙ ⊎_elim
        (λ (t : eqb second.bus bus && eqb second.column column ≡ true). cond-true _ _ _ t ∙ sym (cond-true _ _ _ t))
        (λ (f : eqb second.bus bus && eqb second.column column ≡ false).
        ap (λ (z : ℤ). number_after bus column z (Ok second)) (before_second f))
        (cases_Bool (eqb second.bus bus && eqb second.column column))
        ∙ sym (with_second (text ++ between) (whole_append text between whole whole_between))

pub direct_laws : (text : List ℕ) → DirectLaws text (direct_grid text)
unfolding direct_grid
direct_laws text = record {
  all_are_small = λ column bus. direct_small text bus column;
  empty_reads_zero = λ e bus column. ap (λ (t : List ℕ). direct_number t bus column) e ∙ none_posted bus column;
  right_line_is_read = λ w e r. right_line text w e r e.bus e.column ∙ number_here e (direct_number text e.bus e.column);
  other_places_stay = λ w e r bus column apart. right_line text w e r bus column ∙ number_else e bus column (direct_number text bus column) apart;
  wrong_line_changes_nothing = λ w line one wrong bus column.
      direct_line text line w one bus column ∙ wrong_stays line (line_entry line) wrong refl bus column (direct_number text bus column);
  unended_line_changes_nothing = λ w line one bus column. unended text w line one bus column;
  first_of_two_does_not_matter = λ w between wb first second rf rs sb sc bus column. first_of_two text w between wb first second rf rs sb sc bus column;
}
