-- Laws of sums and products of whole numbers.
use Rattle.std.proofs.Common.{◌≡◌, ℕ, ◌+◌, ◌*◌, ℤ, pos, ◌+ℤ◌, ◌-ℤ◌, ◌*ℤ◌, neg_ℤ, sym, ap, ◌∙◌, arith}
use lib.IntN.{zero-*ℤ, *ℤ_comm, +ℤ_invr}
use borrow.Author.Differences.{up, down, product_is}
use Rattle.std.proofs.lemmas.Int.{ints}

pub add_mul : (a b k : ℤ) → (a +ℤ b) *ℤ k ≡ (a *ℤ k) +ℤ (b *ℤ k)
add_mul a b k =
    let times : (n : ℕ) → up (a +ℤ b) * n + down a * n + down b * n ≡ down (a +ℤ b) * n + up a * n + up b * n =
    λ n. let e : up (a +ℤ b) + down a + down b ≡ down (a +ℤ b) + up a + up b = omega (arith, ints) in omega (arith, ap (λ (x : ℕ). x * n) e) in
    omega (arith, ints, product_is (a +ℤ b) k, product_is a k, product_is b k, times (up k), times (down k))

pub mul_add : (k a b : ℤ) → k *ℤ (a +ℤ b) ≡ (k *ℤ a) +ℤ (k *ℤ b)
mul_add k a b = omega (arith, ints, *ℤ_comm k (a +ℤ b), add_mul a b k, *ℤ_comm k a, *ℤ_comm k b)

from_sum : (x y : ℤ) → x +ℤ y ≡ pos 0 → y ≡ neg_ℤ x
from_sum x y e = omega (arith, ints)

-- the product of the negative is the negative of the product
pub neg_mul : (a k : ℤ) → neg_ℤ a *ℤ k ≡ neg_ℤ (a *ℤ k)
neg_mul a k = from_sum (a *ℤ k) (neg_ℤ a *ℤ k) (sym (add_mul a (neg_ℤ a) k) ∙ ap (λ (x : ℤ). x *ℤ k) (+ℤ_invr a) ∙ zero-*ℤ k)

pub sub_mul : (a b k : ℤ) → (a -ℤ b) *ℤ k ≡ (a *ℤ k) -ℤ (b *ℤ k)
sub_mul a b k = let e : (a -ℤ b) +ℤ b ≡ a = omega (arith, ints) in omega (arith, ints, add_mul (a -ℤ b) b k, ap (λ (x : ℤ). x *ℤ k) e)

pub mul_sub : (k a b : ℤ) → k *ℤ (a -ℤ b) ≡ (k *ℤ a) -ℤ (k *ℤ b)
mul_sub k a b = omega (arith, ints, *ℤ_comm k (a -ℤ b), sub_mul a b k, *ℤ_comm k a, *ℤ_comm k b)

pub mul_assoc : (a b k : ℤ) → (a *ℤ b) *ℤ k ≡ a *ℤ (b *ℤ k)
mul_assoc a b k =
    let left : (n : ℕ) → (up (a *ℤ b) * n ≡ (up a * up b + down a * down b) * n) × (down (a *ℤ b) * n ≡ (up a * down b + down a * up b) * n) =
    λ n. (ap (λ (x : ℕ). x * n) (product_is a b).0, ap (λ (x : ℕ). x * n) (product_is a b).1) in
    let right : (n : ℕ) → (n * up (b *ℤ k) ≡ n * (up b * up k + down b * down k)) × (n * down (b *ℤ k) ≡ n * (up b * down k + down b * up k)) =
    λ n. (ap (λ (x : ℕ). n * x) (product_is b k).0, ap (λ (x : ℕ). n * x) (product_is b k).1) in
    omega (arith, ints, product_is (a *ℤ b) k, product_is a (b *ℤ k), left (up k), left (down k), right (up a), right (down a))
