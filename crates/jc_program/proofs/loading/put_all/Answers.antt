use Rattle.std.proofs.Common.{Some, slice_get, sym, ap, subst, ◌∙◌, arith}
use Rattle.std.proofs.lemmas.Option.{slice_get-get_or}
use Rattle.jc_link.specs.Linked.{IsKnown}
use Rattle.jc_program.proofs.loading.put_all.Goals as goal

pub put_package-requires-clause-known : goal.put_package-requires-clause-known
put_package-requires-clause-known c =
    let at = c.loop-at.at in
    let body = c.index-bodies-at.result in
    let there = slice_get-get_or c.bodies-bodies.result.now at body
    (omega (arith, c.loop-at-test.true, c.loop-at.auto.at-end)) ∙ sym (ap Some c.index-bodies-at.is) in
    let known = c.bodies-bodies.ensures.world.known at body
    (ap (λ bs. slice_get bs at) (sym c.bodies-bodies.ensures.bodies) ∙ there) in
    rw c.table-table.ensures.table (subst (λ h. IsKnown c.args.world.now.shapes h body) (omega arith) known)
