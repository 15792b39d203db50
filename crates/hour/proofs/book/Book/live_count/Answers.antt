use Rattle.std.proofs.Common.{◌≡◌, Bool, ◌&&◌, ap, ◌∙◌}
use Rattle.bus_set.specs.Sets.{member}
use Rattle.bus_set.proofs.Counts.{count_same}
use Rattle.hour.specs.Hour.{entries}
use Rattle.hour.specs.Live.{belongs, live_count}
use Rattle.hour.proofs.Live.{divides}
use Rattle.hour.proofs.book.Book.live_count.Goals as goal

pub returns : goal.returns
returns c =
    let live = c.args.live in
    let h = entries c.args.self.now in
    let k = c.args.hub_bus in
    let value : c.count.result ≡ live_count h (member live) k =
    c.count.ensures
    ∙ count_same (member c.both.result) (λ i. member live i && belongs h k i) 256
    (λ i l. c.both.ensures i l ∙ ap (λ (b : Bool). member live i && b) (c.members.ensures i l))
    in
    record { value = value; divides = divides c.args.self.now (member live) k c.count.result value }
