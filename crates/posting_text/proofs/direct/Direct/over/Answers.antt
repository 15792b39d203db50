-- The laws hold of every text.
use Rattle.std.proofs.Common.{refl}
use Rattle.posting_text.proofs.DirectLaws.{direct_laws}
use Rattle.posting_text.proofs.direct.Direct.over.Goals as goal

pub returns : goal.returns
returns c = record { made = refl; laws = direct_laws c.args.text.now }
