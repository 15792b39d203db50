-- The lines of a book are few enough, and their numbers have at most fifteen digits.
use Rattle.std.proofs.Common.{◌≡◌, ℕ, zero, suc, ◌+◌, ◌*◌, ◌^◌, ◌<◌, ◌≤◌, Bool, true, false, cond, ◌&&◌, leb, List, [], ◌∷◌, ◌++◌, length, ℤ, pos, negsuc, Some, None, Option, refl, mul-suc, arith}
use Rattle.std.specs.List.{AllByRecursion as All}
use Rattle.std.proofs.ByRecursion.{All-append}
use Rattle.std.proofs.lemmas.List.{length-append}
use Rattle.std.proofs.lemmas.List.Sums.{sum_by-cons}
use Rattle.std.proofs.lemmas.Bool.{and_parts, and_from, leb-true, le-leb}
use Rattle.bus_set.specs.Sets.{member, four_words}
use Rattle.bounds.specs.Bounds.{within}
use Rattle.hour.specs.Limits.{most_lambda, most_shadow_price, most_adder}
use Rattle.hour.specs.Sound.{all_by, when_some, bus_sound, lambda_sound, constraint_sound, run_sound, seconds_of, total_seconds}
use Rattle.hour.specs.Hour.{entries}
use Rattle.hour.specs.declared.records.Bus.{Bus}
use Rattle.hour.specs.declared.records.Constraint.{Constraint}
use Rattle.hour.specs.declared.records.Run.{Run}
use Rattle.saved_rows.specs.declared.row.Row.{Row}
use Rattle.saved_rows.specs.declared.row.Row.TheVariants as row
use Rattle.saved_rows.specs.Order.{blank_bus}
use Rattle.saved_rows.specs.Rows.{indexed, bus_numbers, bus_rows, lambda_rows, outage_rows, constraint_rows, run_row, rows}
use Rattle.saved_rows.specs.Laws.{FewDigits, Writable, AllWritable, most_rows}

-- lines that can be written, and at most so many
abbrev Fit : List Row → ℕ → Type 0
Fit rs m = All Writable rs × (length rs ≤ m)

fit_append : (xs ys : List Row) (m n : ℕ) → Fit xs m → Fit ys n → Fit (xs ++ ys) (m + n)
fit_append xs ys m n a b = (All-append Writable xs ys a.0 b.0, omega (arith, a.1, b.1, length-append xs ys))

module _ {A : Type 0} (f : ℕ → A → List Row) (good : A → Bool) (N m : ℕ) (fit : (k : ℕ) (x : A) → k < N → good x ≡ true → Fit (f k x) m) where
  fit_indexed : (xs : List A) (k : ℕ) → k + length xs ≤ N → all_by good xs ≡ true → Fit (indexed f k xs) (m * length xs)
  fit_indexed [] k l g = (tt, omega arith)
  fit_indexed (x ∷ xs) k l g =
      let p = and_parts (good x) (all_by good xs) g in
      let a = fit k x (omega arith) p.0 in
      let b = fit_indexed xs (suc k) (omega arith) p.1 in
      (All-append Writable (f k x) (indexed f (suc k) xs) a.0 b.0, omega (arith, a.1, b.1, length-append (f k x) (indexed f (suc k) xs), mul-suc m (length xs)))

few_within : (z : ℤ) (m : ℕ) → m < 10 ^ 15 → within z m ≡ true → FewDigits z
few_within (pos n) m h e = omega (arith, leb-true n m e)
few_within (negsuc n) m h e = omega (arith, leb-true (suc n) m e)

fit_bus : (k : ℕ) (x : Bus) → k < 256 → bus_sound x ≡ true → Fit (bus_rows k x) 1
fit_bus k x hk g =
    let a = and_parts (leb x.hub_bus 155) _ g in
    let b = and_parts (leb x.zone 16) _ a.1 in
    let c = and_parts (leb x.day_ahead.load 10000) (leb x.real_time.load 10000) b.1 in
    let h₁ = leb-true x.hub_bus 155 a.0 in
    let h₂ = leb-true x.zone 16 b.0 in
    let h₃ = leb-true x.day_ahead.load 10000 c.0 in
    let h₄ = leb-true x.real_time.load 10000 c.1 in
    elim (blank_bus (bus_numbers k x)) as (λ t. Fit (cond t [] (row.Bus (bus_numbers k x) ∷ [])) 1)
    [ true ↦ (tt, omega arith) | false ↦ (((omega arith, omega arith, omega arith, omega arith, omega arith), tt), omega arith) ]

fit_lambda : (l : Option ℤ) → when_some lambda_sound l ≡ true → Fit (lambda_rows l) 1
fit_lambda None g = (tt, omega arith)
fit_lambda (Some z) g = ((few_within z most_lambda (omega arith) g, tt), omega arith)

fit_outages : (k : ℕ) (out : ℕ → Bool) (n : ℕ) → k < 32 → n ≤ 256 → Fit (outage_rows k out n) n
unfolding outage_rows
fit_outages k out zero hk l = (tt, omega arith)
fit_outages k out (suc n) hk l =
    let a = fit_outages k out n hk (omega arith) in
    let b : Fit (cond (out n) (row.Outage (pos k) (pos n) ∷ []) []) 1 =
    elim (out n) as (λ t. Fit (cond t (row.Outage (pos k) (pos n) ∷ []) []) 1) [ true ↦ (((omega arith, omega arith), tt), omega arith) | false ↦ (tt, omega arith) ] in
    let c = fit_append (outage_rows k out n) (cond (out n) (row.Outage (pos k) (pos n) ∷ []) []) n 1 a b in
    (c.0, omega (arith, c.1))

fit_constraint : (k : ℕ) (x : Option Constraint) → k < 32 → when_some constraint_sound x ≡ true → Fit (constraint_rows k x) 257
fit_constraint k None hk g = (tt, omega arith)
fit_constraint k (Some x) hk g =
    let p = and_parts (within x.shadow_price most_shadow_price) (four_words x.out) g in
    let o = fit_outages k (member x.out) 256 hk (omega arith) in
    (((omega arith, few_within x.shadow_price most_shadow_price (omega arith) p.0), o.0), omega (arith, o.1))

-- a run that is in its limits, and no longer than the hour's runs together
abbrev pub short_run : Option Run → Bool
short_run x = when_some run_sound x && leb (seconds_of x) 900

pub all_short : (xs : List (Option Run)) → total_seconds xs ≤ 900 → all_by (when_some run_sound) xs ≡ true → all_by short_run xs ≡ true
all_short [] l g = refl
all_short (x ∷ xs) l g =
    let p = and_parts (when_some run_sound x) (all_by (when_some run_sound) xs) g in
    let s = sum_by-cons seconds_of x xs in
    and_from (short_run x) (all_by short_run xs) (and_from (when_some run_sound x) (leb (seconds_of x) 900) p.0 (le-leb (seconds_of x) 900 (omega (arith, s, l)))) (all_short xs (omega (arith, s, l)) p.1)

fit_run : (k : ℕ) (x : Option Run) → k < 16 → short_run x ≡ true → Fit (run_row k x) 1
fit_run k None hk g = (tt, omega arith)
fit_run k (Some x) hk g =
    let p = and_parts (run_sound x) (leb x.seconds 900) g in
    let a = and_parts (leb 1 x.seconds) _ p.0 in
    let b = and_parts (within x.reserve_adder most_adder) (within x.reliability_adder most_adder) a.1 in
    let s = leb-true x.seconds 900 p.1 in
    (((omega arith, omega arith, few_within x.reserve_adder most_adder (omega arith) b.0, few_within x.reliability_adder most_adder (omega arith) b.1), tt), omega arith)

pub all_writable : AllWritable
all_writable book =
    let a = fit_indexed bus_rows bus_sound 256 1 fit_bus book.buses 0 (omega (arith, book.size)) book.sound in
    let b = fit_lambda book.lambda book.price in
    let c = fit_indexed constraint_rows (when_some constraint_sound) 32 257 fit_constraint book.constraints 0 (omega (arith, book.columns.0)) book.posted in
    let d = fit_indexed run_row short_run 16 1 fit_run book.runs 0 (omega (arith, book.columns.1)) (all_short book.runs book.seconds book.entered) in
    let cd = fit_append (indexed constraint_rows 0 book.constraints) (indexed run_row 0 book.runs) _ _ c d in
    let bcd = fit_append (lambda_rows book.lambda) (indexed constraint_rows 0 book.constraints ++ indexed run_row 0 book.runs) _ _ b cd in
    let all = fit_append (indexed bus_rows 0 book.buses) (lambda_rows book.lambda ++ (indexed constraint_rows 0 book.constraints ++ indexed run_row 0 book.runs)) _ _ a bcd in
    let most : length (rows (entries book)) ≤ most_rows = omega (arith, all.1, book.size, book.columns.0, book.columns.1) in
    (most, All-append Writable (rows (entries book)) (row.End (pos (length (rows (entries book)))) ∷ []) all.0 (omega (arith, most), tt))
