-- What stands on a page after more was written to it.
use Rattle.std.proofs.Common.{◌≡◌, ℕ, zero, suc, List, [], ◌∷◌, ◌++◌, take, sym, refl, ap, ◌∙◌}
use Rattle.std.proofs.lemmas.List.{take_all, append_assoc, append-nil}
use Rattle.page.specs.Pages.{written}
use Rattle.page.specs.declared.pages.Page.{Page}

-- one text after another
pub take_take_append : (n : ℕ) (a b : List ℕ) → take n (take n a ++ b) ≡ take n (a ++ b)
take_take_append zero a b = refl
take_take_append (suc n) [] b = refl
take_take_append (suc n) (x ∷ a) b = ap (λ (t : List ℕ). x ∷ t) (take_take_append n a b)

pub and_then : (n : ℕ) (was mid is a b : List ℕ) → mid ≡ take n (was ++ a) → is ≡ take n (mid ++ b) → is ≡ take n (was ++ (a ++ b))
and_then n was mid is a b first second =
    second
    ∙ ap (λ (t : List ℕ). take n (t ++ b)) first
    ∙ take_take_append n (was ++ a) b
    ∙ ap (take n) (append_assoc was a b)

pub nothing_added : {n : ℕ} (page : Page n) → written page ≡ take n (written page ++ [])
nothing_added {n} page = rw append-nil (sym (take_all n (written page) page.within))
