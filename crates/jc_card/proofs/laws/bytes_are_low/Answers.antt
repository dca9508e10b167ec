use Rattle.std.proofs.Common.{arith}
use Rattle.jc_card.proofs.Keeping.{bytes_are}
use Rattle.jc_card.proofs.laws.bytes_are_low.Goals as goal

pub returns : goal.returns
returns c = bytes_are c.args.bytes.now (λ n. omega (arith, c.type_inv.bytes n))
