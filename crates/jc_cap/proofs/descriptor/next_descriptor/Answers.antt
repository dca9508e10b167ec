use Rattle.std.proofs.Common.{arith}
use Rattle.jc_cap.proofs.Signatures.{few_nibbles}
use Rattle.jc_cap.proofs.descriptor.next_descriptor.Goals as goal

pub signature-requires : goal.signature-requires
signature-requires c = few_nibbles c.in_ok-count.count _ _ (omega arith) c.in_ok-nibbles.ensures
