-- Any saved text fits its page.
use Rattle.std.proofs.Common.{◌≡◌, ℕ, zero, suc, ◌+◌, ◌*◌, ◌^◌, ◌<◌, ◌≤◌, Bool, true, false, cond, leb, List, [], ◌∷◌, ◌++◌, length, ℤ, pos, negsuc, Some, None, Option, refl, mul-suc, arith}
use Rattle.std.specs.List.{flat_map}
use Rattle.std.specs.Fmt.{signed_decimal}
use Rattle.std.proofs.lemmas.Fmt.{length-decimal-le, length_signed_le}
use Rattle.std.proofs.lemmas.Grind.{flat_map-append}
use Rattle.std.proofs.lemmas.List.{length-append}
use Rattle.std.proofs.lemmas.Bool.{and_parts, leb-true}
use Rattle.bus_set.specs.Sets.{member, four_words}
use Rattle.bounds.specs.Bounds.{within}
use Rattle.hour.specs.Limits.{most_lambda, most_shadow_price, most_adder}
use Rattle.hour.specs.Sound.{all_by, when_some, bus_sound, lambda_sound, constraint_sound, run_sound}
use Rattle.hour.specs.Hour.{entries}
use Rattle.hour.specs.declared.records.Bus.{Bus}
use Rattle.hour.specs.declared.records.Constraint.{Constraint}
use Rattle.hour.specs.declared.records.Run.{Run}
use Rattle.hour.specs.declared.book.Book.{Book}
use Rattle.saved_rows.specs.declared.row.Row.{Row}
use Rattle.saved_rows.specs.declared.row.Row.TheVariants as row
use Rattle.saved_rows.specs.Order.{blank_bus}
use Rattle.saved_rows.specs.Rows.{indexed, bus_numbers, bus_rows, lambda_rows, outage_rows, constraint_rows, run_row, rows}
use Rattle.saved_rows.proofs.Writable.{short_run, all_short, all_writable}
use Rattle.saved.specs.Texts.{status_text, line_text, saved_text}
use Rattle.saving.specs.Laws.{Fits}

-- the text of lines has at most m bytes
abbrev Short : List Row → ℕ → Type 0
Short rs m = length (flat_map line_text rs) ≤ m

short_append : (xs ys : List Row) (m n : ℕ) → Short xs m → Short ys n → Short (xs ++ ys) (m + n)
short_append xs ys m n a b = rw flat_map-append (omega (arith, a, b, length-append (flat_map line_text xs) (flat_map line_text ys)))

short_one : (r : Row) (m : ℕ) → length (line_text r) ≤ m → Short (r ∷ []) m
short_one r m h = omega (arith, h, length-append (line_text r) [])

-- a table whose entries take at most m bytes each
module _ {A : Type 0} (f : ℕ → A → List Row) (good : A → Bool) (N m : ℕ) (short : (k : ℕ) (x : A) → k < N → good x ≡ true → Short (f k x) m) where
  short_indexed : (xs : List A) (k : ℕ) → k + length xs ≤ N → all_by good xs ≡ true → Short (indexed f k xs) (m * length xs)
  short_indexed [] k l g = omega arith
  short_indexed (x ∷ xs) k l g =
      let p = and_parts (good x) (all_by good xs) g in
      let both = short_append (f k x) (indexed f (suc k) xs) m (m * length xs) (short k x (omega arith) p.0) (short_indexed xs (suc k) (omega arith) p.1) in
      omega (arith, both, mul-suc m (length xs))

digits : (k n : ℕ) → 0 < k → n < 10 ^ k → n < 2 ^ 64 → length (signed_decimal (pos n)) ≤ k
digits k n some few small = length-decimal-le k n some few small

signed_digits : (k m : ℕ) (z : ℤ) → m + 1 < 10 ^ k → m < 2 ^ 63 → within z m ≡ true → length (signed_decimal z) ≤ k + 1
signed_digits k m (pos n) few small w = let l = leb-true n m w in length_signed_le k (pos n) (omega arith) (omega arith)
signed_digits k m (negsuc n) few small w = let l = leb-true (suc n) m w in length_signed_le k (negsuc n) (omega arith) (omega arith)

one_byte : (b : Bool) → length (status_text b) ≡ 1
one_byte true = refl
one_byte false = refl

-- B,255,155,16,1,10000,1,10000
short_bus : (k : ℕ) (x : Bus) → k < 256 → bus_sound x ≡ true → Short (bus_rows k x) 29
short_bus k x hk g =
    let a = and_parts (leb x.hub_bus 155) _ g in
    let b = and_parts (leb x.zone 16) _ a.1 in
    let c = and_parts (leb x.day_ahead.load 10000) (leb x.real_time.load 10000) b.1 in
    let h₁ = leb-true x.hub_bus 155 a.0 in
    let h₂ = leb-true x.zone 16 b.0 in
    let h₃ = leb-true x.day_ahead.load 10000 c.0 in
    let h₄ = leb-true x.real_time.load 10000 c.1 in
    let line : length (line_text (row.Bus (bus_numbers k x))) ≤ 29 = simp length-append
    (omega (
      arith,
      digits 3 k (omega arith) (omega arith) (omega arith),
      digits 3 x.hub_bus (omega arith) (omega arith) (omega arith),
      digits 2 x.zone (omega arith) (omega arith) (omega arith),
      digits 5 x.day_ahead.load (omega arith) (omega arith) (omega arith),
      digits 5 x.real_time.load (omega arith) (omega arith) (omega arith),
      one_byte x.day_ahead.live,
      one_byte x.real_time.live,
    )) in
    elim (blank_bus (bus_numbers k x)) as (λ t. Short (cond t [] (row.Bus (bus_numbers k x) ∷ [])) 29) [ true ↦ omega arith | false ↦ short_one (row.Bus (bus_numbers k x)) 29 line ]

-- L,-100000000000000
short_lambda : (l : Option ℤ) → when_some lambda_sound l ≡ true → Short (lambda_rows l) 19
short_lambda None g = omega arith
short_lambda (Some z) g = short_one (row.Lambda z) 19 (simp length-append (omega (arith, signed_digits 15 most_lambda z (omega arith) (omega arith) g)))

-- O,31,255
short_outages : (k : ℕ) (out : ℕ → Bool) (n : ℕ) → k < 32 → n ≤ 256 → Short (outage_rows k out n) (9 * n)
unfolding outage_rows
short_outages k out zero hk l = omega arith
short_outages k out (suc n) hk l =
    let line : length (line_text (row.Outage (pos k) (pos n))) ≤ 9 =
    simp length-append (omega (arith, digits 2 k (omega arith) (omega arith) (omega arith), digits 3 n (omega arith) (omega arith) (omega arith))) in
    let last : Short (cond (out n) (row.Outage (pos k) (pos n) ∷ []) []) 9 =
    elim (out n) as (λ t. Short (cond t (row.Outage (pos k) (pos n) ∷ []) []) 9) [ true ↦ short_one (row.Outage (pos k) (pos n)) 9 line | false ↦ omega arith ] in
    let both = short_append (outage_rows k out n) (cond (out n) (row.Outage (pos k) (pos n) ∷ []) []) (9 * n) 9 (short_outages k out n hk (omega arith)) last in
    omega (arith, both)

-- C,31,-1000000
short_constraint : (k : ℕ) (x : Option Constraint) → k < 32 → when_some constraint_sound x ≡ true → Short (constraint_rows k x) 2318
short_constraint k None hk g = omega arith
short_constraint k (Some x) hk g =
    let p = and_parts (within x.shadow_price most_shadow_price) (four_words x.out) g in
    let line : length (line_text (row.Constraint (pos k) x.shadow_price)) ≤ 14 = simp length-append
    (omega (arith, digits 2 k (omega arith) (omega arith) (omega arith), signed_digits 7 most_shadow_price x.shadow_price (omega arith) (omega arith) p.0)) in
    let first = short_one (row.Constraint (pos k) x.shadow_price) 14 line in
    let both = short_append (row.Constraint (pos k) x.shadow_price ∷ []) (outage_rows k (member x.out) 256) 14 (9 * 256) first (short_outages k (member x.out) 256 hk (omega arith)) in
    omega (arith, both)

-- R,15,900,-1000000,-1000000
short_run_row : (k : ℕ) (x : Option Run) → k < 16 → short_run x ≡ true → Short (run_row k x) 27
short_run_row k None hk g = omega arith
short_run_row k (Some x) hk g =
    let p = and_parts (run_sound x) (leb x.seconds 900) g in
    let a = and_parts (leb 1 x.seconds) _ p.0 in
    let b = and_parts (within x.reserve_adder most_adder) (within x.reliability_adder most_adder) a.1 in
    let s = leb-true x.seconds 900 p.1 in
    let line : length (line_text (row.Run (pos k) (pos x.seconds) x.reserve_adder x.reliability_adder)) ≤ 27 = simp length-append
    (omega (
      arith,
      digits 2 k (omega arith) (omega arith) (omega arith),
      digits 3 x.seconds (omega arith) (omega arith) (omega arith),
      signed_digits 7 most_adder x.reserve_adder (omega arith) (omega arith) b.0,
      signed_digits 7 most_adder x.reliability_adder (omega arith) (omega arith) b.1,
    )) in
    short_one (row.Run (pos k) (pos x.seconds) x.reserve_adder x.reliability_adder) 27 line

-- Z,8497
short_end : (n : ℕ) → n ≤ 8497 → Short (row.End (pos n) ∷ []) 7
short_end n l = short_one (row.End (pos n)) 7 (simp length-append (omega (arith, digits 4 n (omega arith) (omega arith) (omega arith))))

pub saved_fits : (book : Book) → Fits (entries book)
unfolding saved_text
saved_fits book =
    let a = short_indexed bus_rows bus_sound 256 29 short_bus book.buses 0 (omega (arith, book.size)) book.sound in
    let b = short_lambda book.lambda book.price in
    let c = short_indexed constraint_rows (when_some constraint_sound) 32 2318 short_constraint book.constraints 0 (omega (arith, book.columns.0)) book.posted in
    let d = short_indexed run_row short_run 16 27 short_run_row book.runs 0 (omega (arith, book.columns.1)) (all_short book.runs book.seconds book.entered) in
    let e = short_end (length (rows (entries book))) (all_writable book).0 in
    let cd = short_append (indexed constraint_rows 0 book.constraints) (indexed run_row 0 book.runs) _ _ c d in
    let bcd = short_append (lambda_rows book.lambda) (indexed constraint_rows 0 book.constraints ++ indexed run_row 0 book.runs) _ _ b cd in
    let abcd = short_append (indexed bus_rows 0 book.buses) (lambda_rows book.lambda ++ (indexed constraint_rows 0 book.constraints ++ indexed run_row 0 book.runs)) _ _ a bcd in
    let all = short_append (rows (entries book)) (row.End (pos (length (rows (entries book)))) ∷ []) _ _ abcd e in
    omega (arith, all, book.size, book.columns.0, book.columns.1)
