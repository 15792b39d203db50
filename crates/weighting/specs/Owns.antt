-- Weightings by the bus's own hub bus, load zone and load: one argument gives all of them the laws.
use Rattle.std.specs.Prelude.{◌≡◌, ℕ, ◌<◌, ◌≤◌, Bool, true, false, cond, refl}
use Rattle.std.proofs.Common.{sym, ◌∙◌, ⊎_elim, arith}
use Rattle.std.proofs.lemmas.Bool.{cases_Bool, cond-true, cond-false}
use Rattle.weighting.specs.Sums.{sum_below}
use Rattle.weighting.specs.SumLaws.{sum_most}
use Rattle.weighting.specs.Views.{View, Alike}
use Rattle.weighting.specs.Meanings.{Meaning}

-- a live bus weighs what its own record gives, and a dead one nothing
abbrev pub when_live : (View → ℕ → ℕ) → View → ℕ → ℕ
when_live own v b = cond (v.live b) (own v b) 0

-- own weights of at most 10,000 that hang on the bus's own hub bus, load zone and load
pub record Own (own : View → ℕ → ℕ) : Type 0 where
  pub most : (v : View) (b : ℕ) → own v b ≤ 10000
  pub same : (v u : View) (b : ℕ) → v.hub_bus b ≡ u.hub_bus b → v.zone b ≡ u.zone b → v.load b ≡ u.load b → own v b ≡ own u b

pub cond_most : (t : Bool) (x m : ℕ) → x ≤ m → cond t x 0 ≤ m
cond_most true x m h = h
cond_most false x m h = omega arith

pub own_alike : (own : View → ℕ → ℕ) → Own own → (v u : View) → Alike v u → (b : ℕ) → b < 256 → when_live own v b ≡ when_live own u b
own_alike own laws v u like b low = ⊎_elim
    (λ (live : v.live b ≡ true).
    cond-true (v.live b) (own v b) 0 live
    ∙ laws.same v u b (like.hub_bus b low live) (like.zone b low live) (like.load b low live)
    ∙ sym (cond-true (u.live b) (own u b) 0 (sym (like.live b low) ∙ live)))
    (λ (dead : v.live b ≡ false).
    cond-false (v.live b) (own v b) 0 dead ∙ sym (cond-false (u.live b) (own u b) 0 (sym (like.live b low) ∙ dead)))
    (cases_Bool (v.live b))

abbrev pub own_meaning : (own : View → ℕ → ℕ) → Own own → Meaning
own_meaning own laws = record {
  weight = when_live own;
  total = λ v. sum_below (when_live own v) 256;
  dead_weighs_nothing = λ v b low dead. cond-false (v.live b) (own v b) 0 dead;
  total_is_the_sum = λ v. refl;
  total_is_bounded = λ v. sum_most (when_live own v) 10000 256 (λ b low. cond_most (v.live b) (own v b) 10000 (laws.most v b));
  alike_weigh_the_same = own_alike own laws;
}
