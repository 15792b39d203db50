-- A line by its first word.
use Rattle.std.proofs.Common.{◌≡◌, ℕ, Bool, true, false, List, [], ◌∷◌, Some, None, Option, MatchOption, sym, refl, ap, ◌∙◌, subst}
use Rattle.std.specs.Bool.{then_some}
use Rattle.std.proofs.lemmas.Option.{none-some}
use lib.Utf8.{encode}
use Rattle.std.specs.Str.Pattern.{FindsCharPrefix}
use Rattle.std.proofs.lemmas.Bool.{ne_eqb, cond-false}
use Rattle.script.specs.Commands.{by_verb, remark, command}
use Rattle.script.specs.Verbs.{verb_of}

no_remark : (w : List ℕ) → FindsCharPrefix 35 w None → remark w ≡ false
unfolding encode
no_remark [] h = refl
no_remark (b ∷ bs) h = ne_eqb b 35 (λ e. h bs (ap (λ x. x ∷ bs) e))

-- an item that a filter kept is the first, and the test passed it
pub kept : {A : Type 0} (o : Option A) (w : A) (N : Type 0) (S : A → Type 0) (P : A → Bool → Type 0) → MatchOption o N S
    → MatchOption o (Some w ≡ None) (λ x. (b : Bool) × P x b × (Some w ≡ then_some b x)) → S w × P w true
kept None w N S P s e = absurd (none-some w (sym e))
kept (Some x) w N S P s (true, p, e) = let i : x ≡ w = cc in (subst S i s, subst (λ v. P v true) i p)
kept (Some x) w N S P s (false, p, e) = absurd (none-some w (sym e))

-- a first word that is no remark is looked up
pub looked_up : (l : List (List ℕ)) (w : List ℕ) (ws : List (List ℕ)) → l ≡ w ∷ ws → FindsCharPrefix 35 w None → command l ≡ by_verb (verb_of w) ws
looked_up l w ws e h = ap command e ∙ cond-false _ _ _ (no_remark w h)
