-- What stands on a page.
use Rattle.std.specs.Prelude.{◌≡◌, ℕ, List, ◌++◌, take}
use Rattle.page.specs.declared.pages.Page.{Page}

abbrev pub written : {n : ℕ} → Page n → List ℕ
written page = page.text.items

-- a text follows what stood on the page, as far as there is room
abbrev pub Follows : {n : ℕ} → List ℕ → Page n → Page n → Type 0
Follows {n} text before after = written after ≡ take n (written before ++ text)
