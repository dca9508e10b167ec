use Rattle.std.proofs.Common.{◌≡◌, length, sym, ap, ◌∙◌, subst, arith}
use Rattle.jc_classes.specs.Growth.{grown}
use Rattle.jc_link.proofs.GrownHeirs.{length_more}
use Rattle.jc_link.proofs.Resolved.{world_added}
use Rattle.jc_link.specs.Linked.{IsWorld, Linked, World}
use Rattle.jc_link.proofs.world.World.add_for_now.Goals as goal

pub invariant_of-self-2 : goal.invariant_of-self-2
invariant_of-self-2 c =
    let w : World = record { shapes = c.self.inside.table; bodies = c.self.inside.bodies.items } in
    let l : Linked = record { world = c.linked.inside.table; body = c.linked.inside.body } in
    let old = c.self.invariant in
    let shape = c.requires.bound.0 in
    let grows : l.world ≡ grown w.shapes shape
    = ap (λ (l : Linked). l.world) c.linked.view_is ∙ c.requires.bound.1 ∙ ap (λ (w : World). grown w.shapes shape) (sym c.self.view_is) in
    let one = ap (λ s. length s) grows ∙ length_more w.shapes shape in
    let same = ap (λ (w : World). length w.shapes) c.self.view_is in
    let room = c.requires.room in
    let two = old.0 in
    let added = world_added c.adding_keeps_linking.ensures w l old.2 c.linked.invariant (shape, grows) in
    let after = c.replace.ensures.after in
    let size = ap (λ s. length s) after in (
      omega (arith, one, two, size),
      omega (arith, one, same, room, size),
      subst (λ shapes. IsWorld (record { shapes = shapes; bodies = c.push.new.self.items })) (sym after)
          (subst (λ bodies. IsWorld (record { shapes = l.world; bodies = bodies })) (sym c.in_ok-push.ensures.items) added),
    )
