use Rattle.std.proofs.Common.{arith}
use Rattle.jc_cap_desc.proofs.Indexing.{pool_front}
use Rattle.jc_cap_desc.proofs.types.pool_is_typed.Goals as goal

pub returns-then-not-is_entry_typed : goal.returns-then-not-is_entry_typed
returns-then-not-is_entry_typed c types is = grind (arith, pool_front)

pub loop-at-preserved : goal.loop-at-preserved
loop-at-preserved c types is = grind (arith, pool_front)
