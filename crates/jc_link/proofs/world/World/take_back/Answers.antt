use Rattle.std.proofs.Common.{◌≡◌, ◌-◌, [], ◌∷◌, ◌++◌, length, take, ap, ◌∙◌, arith}
use Rattle.std.proofs.Math.Seq.{take-append_seam}
use Rattle.jc_link.proofs.world.World.take_back.Goals as goal

pub invariant_of-self : goal.invariant_of-self
invariant_of-self c =
    let was = c.requires.added in
    let size = ap (λ s. length s) was.shapes_are in
    let count = was.world.count in
    let few = was.few in
    let there : c.self.inside.bodies.items ≡ was.before.bodies ++ was.linked.body ∷ [] =
    ap (λ w. w.bodies) (c.self.view_is ∙ was.added) in
    let len = c.len.ensures in
    let so_many : c.len.result - 2 ≡ length was.before.bodies = omega (arith, size, count, len) in
    let back = c.truncate.ensures.items ∙ ap (λ n. take n c.self.inside.bodies.items) so_many
    ∙ ap (take (length was.before.bodies)) there ∙ take-append_seam was.before.bodies (was.linked.body ∷ []) in (
      omega (arith, size, count),
      omega (arith, size, few),
      rw (was.shapes_are, back) was.world,
    )
