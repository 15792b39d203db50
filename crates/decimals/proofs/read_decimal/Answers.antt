use Rattle.std.proofs.Common.{◌≡◌, sym, ap, ◌∙◌, rules}
use Rattle.decimals.specs.Decimals.{natural_of, negative, positive, decimal_of}
use Rattle.decimals.proofs.Naturals.{positive_map, decimal_minus, decimal_plain, minus_test}
use Rattle.decimals.proofs.Signs.{accepted, only_canonical}
use Rattle.decimals.proofs.read_decimal.Goals as goal

pub returns-in-Some : goal.returns-in-Some
returns-in-Some c =
    let s = c.args.field.now in
    let h = c.in-Some.ensures.cases in
    let e : c.read_negative.result ≡ decimal_of s = c.read_negative.ensures ∙ ap (λ l. negative (natural_of l)) h.1 ∙ sym (decimal_minus s (sym (minus_test s) ∙ h.0)) in
    record { value = e; accepts = accepted _ _ e; canonical = only_canonical _ _ e }

pub returns-in-None : goal.returns-in-None
returns-in-None c =
    let s = c.args.field.now in
    let p : c.map.result ≡ positive (natural_of s) = positive_map _ _ c.read_natural.ensures.few (search rules) ∙ ap positive c.read_natural.ensures.value in
    let e : c.map.result ≡ decimal_of s = p ∙ sym (decimal_plain s (sym (minus_test s) ∙ c.in-None.ensures.cases)) in
    record { value = e; accepts = accepted _ _ e; canonical = only_canonical _ _ e }
