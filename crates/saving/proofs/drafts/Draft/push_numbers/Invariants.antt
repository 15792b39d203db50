use Rattle.std.proofs.Common.{◌≡◌, ◌∷◌, take}
use Rattle.std.specs.List.{flat_map}
use Rattle.std.specs.Fmt.{signed_decimal}
use Rattle.saving.specs.Adding.{Adds}
use Rattle.saving.proofs.drafts.Draft.push_numbers.Given as goal

-- the numbers so far follow the letter, and the line is not counted yet
abbrev pub invariant-loop-z : goal.invariant-loop-z
invariant-loop-z l = record {
  text : Adds (l.letter ∷ flat_map (λ z. 44 ∷ signed_decimal z) (take l.z-index l.numbers)) l.fn.self.page l.self.page;
  count : l.self.lines ≡ l.fn.self.lines;
}
