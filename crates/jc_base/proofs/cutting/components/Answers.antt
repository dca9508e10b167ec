use Rattle.std.proofs.Common.{◌∷◌, [], ◌++◌}
use Rattle.jc_base.proofs.Steps.{found, one_more}
use Rattle.jc_base.proofs.cutting.components.Goals as goal

pub loop-component-preserved : goal.loop-component-preserved
loop-component-preserved c =
    let i = c.loop-component.invariant in
    let p = found c.loop-component.cursor c.in-Some.component.tag c.in-Some.component.info.now c.next_component.new.cursor (rw c.in-Some.is at c.in_ok-component.ensures.next) in
    (i.0 ++ p.0 ∷ [], one_more _ _ _ _ _ _ _ i.1 p.1, c.put.ensures.holds i.0 p.0 p.1.tags p.1.infos i.2, c.put.ensures.short (rw c.in-Some.is at c.in_ok-component.ensures.short) i.3)
