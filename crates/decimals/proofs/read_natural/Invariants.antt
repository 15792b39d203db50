use Rattle.std.proofs.Common.{◌≡◌, ◌^◌, ◌<◌, drop}
use Rattle.decimals.specs.Decimals.{digits_on}
use Rattle.decimals.proofs.read_natural.Given as goal

-- what is left gives the number, which has no more digits than were read
abbrev pub invariant-loop-byte : goal.invariant-loop-byte
invariant-loop-byte l = (digits_on l.n (drop l.byte-index l.digits) ≡ digits_on 0 l.digits) × (l.n < 10 ^ l.byte-index)
