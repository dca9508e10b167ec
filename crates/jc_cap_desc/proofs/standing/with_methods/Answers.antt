use Rattle.std.proofs.Common.{arith}
use Rattle.jc_cap_desc.proofs.Testing.{none_more, one_more}
use Rattle.jc_cap_desc.proofs.standing.with_methods.Goals as goal

pub loop-row-preserved : goal.loop-row-preserved
loop-row-preserved c = grind (arith, one_more)

pub returns : goal.returns
returns c = grind (arith, none_more)
