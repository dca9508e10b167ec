use Rattle.std.proofs.Common.{◌≡◌, take}
use Rattle.jc_link.proofs.body.bytes_of.Given as goal

abbrev pub invariant-loop-at : goal.invariant-loop-at
invariant-loop-at l = l.values.items ≡ take l.at l.bytes
