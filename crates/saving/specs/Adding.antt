-- What is added to a page.
use Rattle.std.specs.Prelude.{ℕ, List, [], ◌∷◌, ◌++◌, ℤ}
use Rattle.std.specs.List.{flat_map}
use Rattle.std.specs.Fmt.{signed_decimal}
use Rattle.cuts.specs.Fields.{comma, line_end}
use Rattle.page.specs.Pages.{Follows}
use Rattle.page.specs.declared.pages.Page.{Page}

-- more bytes than any saved text has
abbrev pub longest : ℕ
longest = 90000

-- the bytes are added to the page, as far as there is room
pub record Adds (bytes : List ℕ) (before after : Page longest) : Type 0 where
  pub text : Follows bytes before after

-- a letter and numbers, with commas between them, and a line end
abbrev pub numbers_text : ℕ → List ℤ → List ℕ
numbers_text letter numbers = letter ∷ (flat_map (λ z. comma ∷ signed_decimal z) numbers ++ (line_end ∷ []))
