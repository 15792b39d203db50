use Rattle.std.proofs.Common.{◌≡◌, ℕ, ◌+◌, ◌-◌, List, subst, arith}
use Rattle.std.specs.List.{flat_map}
use Rattle.hour.specs.Hour.{entries}
use Rattle.price_lines.specs.Lines.{zones_to, zone_line, zone_text}
use Rattle.price_lines.specs.Adding.{Adds}
use Rattle.price_lines.proofs.Adding.{adds_none, adds_more, zones_step}
use Rattle.price_lines.proofs.lines.Lines.push_zones.Goals as goal

pub loop-zone-init : goal.loop-zone-init
unfolding zones_to
loop-zone-init g c = adds_none c.args.self.now.page

pub loop-zone-preserved : goal.loop-zone-preserved
loop-zone-preserved g c =
    let price = g.M.Market.price c.args.market.now in
    let h = entries c.args.book.now in
    let zone = c.loop-zone.zone in
    let P : ℕ → List ℕ → Type 0 = λ k t. Adds {n = g.row.N} k t c.args.self.now.page c.push_zone.new.self.page in
    let count : zone - 1 + 1 ≡ zone + 1 - 1 = omega arith in
    subst (λ (k : ℕ). P k (flat_map (zone_line price) (zones_to h (zone + 1 - 1)))) count
    (subst (P (zone - 1 + 1)) (zones_step price h zone (omega arith))
    (adds_more (zone - 1) (flat_map (zone_line price) (zones_to h (zone - 1))) (zone_text price h zone) c.args.self.now.page c.loop-zone.self.page c.push_zone.new.self.page c.loop-zone.invariant c.push_zone.ensures))
