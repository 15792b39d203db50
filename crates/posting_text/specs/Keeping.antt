-- Why the numbers of a posting text are a grid: each is of a right line or 0, so that they keep its limit, and are 0 outside.
use Rattle.std.specs.Prelude.{◌≡◌, ℕ, ◌<◌, ◌&&◌, List, [], ◌∷◌, ℤ, pos, negsuc, ◌-ℤ◌, Ok, Err, Result, ◌==◌, int_le, nat_lt, refl}
use Rattle.std.proofs.Common.{◌∙◌, ap, subst, inl, inr, arith}
use Rattle.std.proofs.lemmas.Int.{ints}
use Rattle.std.proofs.lemmas.Bool.{cond_both, cond-false, and_parts, and_left, and_right, ltb-true, ne_eqb}
use Rattle.refusals.specs.declared.Refusal.{Refusal}
use Rattle.refusals.specs.declared.Refusal.TheVariants.{BusOutside, ConstraintOutside, PostedOutside}
use Rattle.faults.specs.declared.Spot.{Spot}
use Rattle.posting.specs.Limits.{buses, columns, most_number, most_table_number}
use Rattle.posting.specs.Grids.{Within, Outside}
use Rattle.posting.specs.Tables.{counts}
use Rattle.posting_text.specs.declared.entries.Numbers.{Numbers}
use Rattle.posting_text.specs.declared.entries.Entry.{Entry}
use Rattle.posting_text.specs.Entries.{index_below, postable, needs, entry_of}
use Rattle.posting_text.specs.Lines.{line_numbers, line_entry, and_then}
use Rattle.posting_text.specs.Texts.{lines}
use Rattle.posting_text.specs.Written.{Right}
use Rattle.posting_text.specs.Direct.{number_after, last_number, direct_number}

pub never : {X A B : Type 0} (a : A) (b : B) → ◌≡◌ {A = Result A B} (Err b) (Ok a) → X
never a b e = let z : ◌≡◌ {A = ℕ} 0 1 = cc in absurd (omega arith)

-- what was granted was held
needs_held : {X : Type 0} (field : ℕ) (r : Result X Refusal) (k : X → Result Entry Spot) (e : Entry) → needs field r k ≡ Ok e → (x : X) × (r ≡ Ok x) × (k x ≡ Ok e)
needs_held field (Ok x) k e h = (x, refl, h)
needs_held field (Err d) k e h = never e _ h

pub then_held : {X Y E : Type 0} (r : Result X E) (k : X → Result Y E) (y : Y) → and_then r k ≡ Ok y → (x : X) × (r ≡ Ok x) × (k x ≡ Ok y)
then_held (Ok x) k y h = (x, refl, h)
then_held (Err d) k y h = never y d h

index_held : (count : ℕ) (refusal : Refusal) (z : ℤ) (i : ℕ) → index_below count refusal z ≡ Ok i → (i < count) × (z ≡ pos i)
index_held count refusal (pos n) i h =
    cond_both (nat_lt n count) (Ok n) (Err refusal) (λ r. r ≡ Ok i → (i < count) × (pos n ≡ pos i))
    (λ e q. let w : n ≡ i = cc in (omega (arith, ltb-true n count e), ap pos w))
    (λ _ q. never i refusal q)
    h
index_held count refusal (negsuc n) i h = never i refusal h

number_held : (z w : ℤ) → postable z ≡ Ok w → Within most_table_number w × (z ≡ w)
number_held z w h =
    cond_both (counts z) (Ok z) (Err PostedOutside) (λ r. r ≡ Ok w → Within most_table_number w × (z ≡ w))
    (λ e q.
    let p = and_parts (int_le (pos 0 -ℤ pos most_table_number) z) (int_le z (pos most_table_number)) e in
    let v : z ≡ w = cc in
    (subst (Within most_table_number) v (record { low = omega (arith, ints); high = omega (arith, ints) }), v))
    (λ _ q. never w PostedOutside q)
    h

-- the numbers that make an entry are the entry's own
abbrev pub numbers_in : Entry → Numbers
numbers_in e = record { bus = pos e.bus; column = pos e.column; value = e.number }

from_parts : (n : Numbers) (bus column : ℕ) (number : ℤ) (e : Entry) → (bus < buses) × (n.bus ≡ pos bus) → (column < columns) × (n.column ≡ pos column)
    → Within most_table_number number × (n.value ≡ number) → record { bus = bus; column = column; number = number } ≡ e → Right e × (n ≡ numbers_in e)
from_parts n bus column number e b c v made =
    subst (λ (x : Entry). Right x × (n ≡ numbers_in x)) made
    (record { bus_inside = b.0; column_inside = c.0; number_small = v.0 }, λ i. record { bus = b.1 i; column = c.1 i; value = v.1 i })

ok_same : {X E : Type 0} (x y : X) → ◌≡◌ {A = Result X E} (Ok x) (Ok y) → x ≡ y
ok_same x y e = cc

pub entry_held : (n : Numbers) (e : Entry) → entry_of n ≡ Ok e → Right e × (n ≡ numbers_in e)
entry_held n e h =
    let b = needs_held 2 (index_below buses BusOutside n.bus) _ e h in
    let c = needs_held 3 (index_below columns ConstraintOutside n.column) _ e b.2 in
    let v = needs_held 4 (postable n.value) _ e c.2 in
    from_parts n b.0 c.0 v.0 e
    (index_held buses BusOutside n.bus b.0 b.1) (index_held columns ConstraintOutside n.column c.0 c.1) (number_held n.value v.0 v.1)
    (ok_same _ e v.2)

pub line_right : (line : List ℕ) (e : Entry) → line_entry line ≡ Ok e → Right e
unfolding line_entry
line_right line e h = let n = then_held (line_numbers line) entry_of e h in (entry_held n.0 e n.2).0

-- one line more
after_small : (bus column : ℕ) (z : ℤ) (r : Result Entry Spot) → Within most_table_number z → ((e : Entry) → r ≡ Ok e → Right e) → Within most_table_number (number_after bus column z r)
after_small bus column z (Ok e) w right =
    cond_both (e.bus == bus && e.column == column) e.number z (Within most_table_number) (λ _. (right e refl).number_small) (λ _. w)
after_small bus column z (Err s) w right = w

after_outside : (bus column : ℕ) (z : ℤ) (r : Result Entry Spot) → Outside bus column → ((e : Entry) → r ≡ Ok e → Right e) → number_after bus column z r ≡ z
after_outside bus column z (Ok e) (inl past) right =
    let inside = (right e refl).bus_inside in
    cond-false _ _ _ (and_left (e.bus == bus) (e.column == column) (ne_eqb e.bus bus (λ same. omega arith)))
after_outside bus column z (Ok e) (inr past) right =
    let inside = (right e refl).column_inside in
    cond-false _ _ _ (and_right (e.bus == bus) (e.column == column) (ne_eqb e.column column (λ same. omega arith)))
after_outside bus column z (Err s) past right = refl

last_small : (bus column : ℕ) (z : ℤ) (ls : List (List ℕ)) → Within most_table_number z → Within most_table_number (last_number bus column z ls)
last_small bus column z [] w = w
last_small bus column z (l ∷ ls) w =
    last_small bus column (number_after bus column z (line_entry l)) ls (after_small bus column z (line_entry l) w (line_right l))

last_outside : (bus column : ℕ) (z : ℤ) (ls : List (List ℕ)) → Outside bus column → last_number bus column z ls ≡ z
last_outside bus column z [] past = refl
last_outside bus column z (l ∷ ls) past =
    last_outside bus column (number_after bus column z (line_entry l)) ls past ∙ after_outside bus column z (line_entry l) past (line_right l)

pub direct_small : (text : List ℕ) (bus column : ℕ) → Within most_table_number (direct_number text bus column)
unfolding direct_number
direct_small text bus column = last_small bus column (pos 0) (lines text) (record { low = omega (arith, ints); high = omega (arith, ints) })

pub direct_within : (text : List ℕ) (bus column : ℕ) → Within most_number (direct_number text bus column)
direct_within text bus column = let small = direct_small text bus column in record { low = omega (arith, ints); high = omega (arith, ints) }

pub direct_outside : (text : List ℕ) (bus column : ℕ) → Outside bus column → direct_number text bus column ≡ pos 0
unfolding direct_number
direct_outside text bus column past = last_outside bus column (pos 0) (lines text) past
