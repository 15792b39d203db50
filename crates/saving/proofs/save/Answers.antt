use Rattle.std.proofs.Common.{List, ℕ, subst}
use Rattle.page.specs.Copies.{Copies}
use Rattle.saving.proofs.save.Goals as goal

pub returns-clause-saved : goal.returns-clause-saved
returns-clause-saved c =
    subst (λ (t : List ℕ). Copies t c.args.out.now c.copy_to.new.out c.copy_to.result) (c.push_book.ensures.text c.empty-draft.ensures.text) c.copy_to.ensures
