-- One line added to a draft after another.
use Rattle.std.proofs.Common.{◌≡◌, ℕ, ◌+◌, Bool, true, false, cond, List, [], ◌∷◌, ◌++◌, pos, sym, ap, subst, add-one, arith}
use Rattle.std.proofs.lemmas.Grind.{flat_map-append}
use Rattle.std.proofs.lemmas.List.{length-append}
use Rattle.page.specs.declared.pages.Page.{Page}
use Rattle.page.proofs.Pushing.{nothing_added}
use Rattle.saved_rows.specs.declared.row.Row.{Row}
use Rattle.saved_rows.specs.declared.row.Row.TheVariants as row
use Rattle.saved_rows.specs.Rows.{outage_rows}
use Rattle.saving.specs.declared.drafts.Draft.{Draft}
use Rattle.saved.specs.Texts.{line_text}
use Rattle.saving.specs.Adding.{Adds, longest}
use Rattle.saving.specs.Growing.{Grows}
use Rattle.saving.proofs.Adding.{add_then, add_same}

add_none : (p : Page longest) → Adds [] p p
add_none p = record { text = nothing_added p }

pub grow_none : (d : Draft) → Grows [] d d
grow_none d = record { text = add_none d.page; count = λ fits. omega arith }

pub grow_then : {a b c : Draft} {xs ys : List Row} → Grows xs a b → Grows ys b c → Grows (xs ++ ys) a c
grow_then {a} {b} {c} {xs} {ys} g h = record {
  text = add_same (add_then g.text h.text) (sym (flat_map-append line_text xs ys));
  count = λ fits. omega (arith, g.count, h.count, length-append xs ys);
}

pub grow_same : {a b : Draft} {xs ys : List Row} → Grows xs a b → xs ≡ ys → Grows ys a b
grow_same {a} {b} g e = subst (λ t. Grows t a b) e g

-- the outage lines of one bus more, with its own where it is out
module _ (k n : ℕ) (out : ℕ → Bool) {a b : Draft} (before : Grows (outage_rows k out n) a b) where
  pub grow_outage : {c : Draft} → Grows (cond (out n) (row.Outage (pos k) (pos n) ∷ []) []) b c → Grows (outage_rows k out (n + 1)) a c
  unfolding outage_rows
  grow_outage this = rw add-one (grow_then before this)

  pub bus_out : {c d : Draft} → out n ≡ true → Grows (row.Outage (pos k) (pos n) ∷ []) b c → d ≡ c → Grows (outage_rows k out (n + 1)) a d
  bus_out {c} {d} marked line is =
      subst (λ x. Grows (outage_rows k out (n + 1)) a x) (sym is) (grow_outage (grow_same line (sym (ap (λ (t : Bool). cond t (row.Outage (pos k) (pos n) ∷ []) []) marked))))

  pub bus_in : {d : Draft} → out n ≡ false → d ≡ b → Grows (outage_rows k out (n + 1)) a d
  bus_in {d} marked is =
      subst (λ x. Grows (outage_rows k out (n + 1)) a x) (sym is) (grow_outage (grow_same (grow_none b) (sym (ap (λ (t : Bool). cond t (row.Outage (pos k) (pos n) ∷ []) []) marked))))
