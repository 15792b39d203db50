use Rattle.std.proofs.Common.{ℕ, List, None, sym, ap, ◌∙◌, rules, tests, Bor}
use Rattle.std.specs.List.{last_or}
use Rattle.std.proofs.lemmas.List.{map-id}
use Rattle.std.proofs.lemmas.Iterator.{items_from_drains}
use Rattle.std.proofs.lemmas.Iterator.Consumers.{YieldsList-from_first, YieldsList-from_filter, YieldsList-from_filter_map, YieldsList-at}
use Rattle.posting_text.specs.Texts.{lines}
use Rattle.posting_text.proofs.direct.last_entry.Goals as goal

pub returns : goal.returns
returns c =
    let all = YieldsList-from_first (λ (x : Bor (List ℕ)). x.now) (λ l. lines l.rest.now) (lines c.args.text.now) c.of.ensures in
    let right = YieldsList-from_filter_map _ _ (YieldsList-at c.filter_map.ensures.source all) c.filter_map.ensures.closure (λ x r q k. search (rules, tests)) in
    let own = YieldsList-from_filter _ _ (YieldsList-at c.filter.ensures.source right) c.filter.ensures.closure (λ x r q k. search (rules, tests)) in
    let ran = c.last.ensures.ran in
    ran.2 ∙ ap (last_or None) (sym (map-id ran.0) ∙ items_from_drains ran.0 (ran.1.1.0, ran.1.1.1, λ _. (ran.1.0, ran.1.1.2)) own)
