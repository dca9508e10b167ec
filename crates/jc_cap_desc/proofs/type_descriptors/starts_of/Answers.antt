use Rattle.jc_cap_desc.proofs.type_descriptors.starts_of.Goals as goal

pub loop-placed-preserved : goal.loop-placed-preserved
loop-placed-preserved c = c.add_start.ensures _ _ (rw c.in-Some.ensures.some at c.loop-placed.invariant)
