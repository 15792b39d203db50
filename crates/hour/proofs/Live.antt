-- The live buses of a hub bus are 1 to 8 where it has one.
use Rattle.std.proofs.Common.{◌≡◌, ℕ, ◌<◌, ◌≤◌, Bool, true, ◌&&◌, arith}
use Rattle.std.proofs.lemmas.Bool.{and_parts, and_from, eq-eqb}
use Rattle.bus_set.proofs.Counts.{count_le, count_some, count_list}
use Rattle.hour.specs.Sound.{in_hub_bus}
use Rattle.hour.specs.Hour.{entries, bus_at, no_bus}
use Rattle.hour.specs.Live.{belongs, live_count, Divides}
use Rattle.hour.specs.declared.book.Book.{Book}

pub few_live : (b : Book) (live : ℕ → Bool) (k : ℕ) → 0 < k → live_count (entries b) live k ≤ 8
few_live b live k p =
    omega (
      arith,
      count_le (λ i. live i && belongs (entries b) k i) (belongs (entries b) k) 256 (λ i l e. (and_parts (live i) (belongs (entries b) k i) e).1),
      count_list (in_hub_bus k) b.buses no_bus 256 b.size,
      b.few k p,
    )

pub some_live : (b : Book) (live : ℕ → Bool) (k i : ℕ) → i < 256 → live i ≡ true → (bus_at (entries b) i).hub_bus ≡ k → 1 ≤ live_count (entries b) live k
some_live b live k i l e same =
    count_some (λ j. live j && belongs (entries b) k j) 256 i l (and_from (live i) (belongs (entries b) k i) e (eq-eqb _ _ same))

pub divides : (b : Book) (live : ℕ → Bool) (k n : ℕ) → n ≡ live_count (entries b) live k → Divides (entries b) live k n
divides b live k n e = record {
  most = λ p. omega (arith, few_live b live k p);
  least = λ i l v same. omega (arith, some_live b live k i l v same);
}
