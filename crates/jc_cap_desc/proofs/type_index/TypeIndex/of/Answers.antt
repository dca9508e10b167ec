use Rattle.jc_cap_desc.proofs.type_index.TypeIndex.of.Goals as goal

pub loop-placed-preserved : goal.loop-placed-preserved
loop-placed-preserved c = c.add.ensures _ _ (rw c.in-Some.ensures.some at c.loop-placed.invariant)
