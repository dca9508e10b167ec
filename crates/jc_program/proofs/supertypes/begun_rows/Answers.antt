use Rattle.std.proofs.Common.{◌∙◌, ◌+◌, ap, sym, subst, arith, length, slice_get}
use Rattle.std.proofs.lemmas.Option.{slice_get-get_or}
use Rattle.jc_program.specs.PrivateSupertypes.{AreBegun}
use Rattle.jc_program.proofs.Climbing.{begun_first, begun_more}
use Rattle.jc_program.proofs.Rowing.{refilled}
use Rattle.jc_program.proofs.supertypes.begun_rows.Goals as goal

pub loop-at-init : goal.loop-at-init
loop-at-init c =
    let n = ap length c.names-names.ensures.names in
    let few = c.requires in
    let count = c.in_ok-rows.ensures.count in
    begun_first c.args.classes.now c.args.first c.in_ok-objects.objects c.in_ok-rows.rows.items
    (omega (arith, n, few, count)) c.in_ok-objects.ensures
    (λ k m less. c.in_ok-rows.ensures.alike k m (omega (arith, less, count)))

pub loop-at-preserved : goal.loop-at-preserved
loop-at-preserved c =
    let names = c.names-names.result.now in
    let at = c.loop-at.at in
    let rows = c.put_own.new.rows in
    let old = c.deref_mut.result.now in
    let put = c.in_ok-put_own.ensures in
    let count = put.count in
    let was = ap length c.deref_mut.ensures.value in
    let len = c.loop-at.rows.ok.0 in
    let begun = subst (AreBegun c.args.classes.now c.args.first at) (sym c.deref_mut.ensures.value)
    c.loop-at.invariant in
    subst (AreBegun c.args.classes.now c.args.first (at + 1)) (sym (refilled rows _ c.loop-at.rows.len (omega arith)))
    (begun_more c.args.classes.now c.args.first at c.in_ok-number_of.field-0 _ old rows begun
    (ap (λ ns. slice_get ns at) (sym c.names-names.ensures.names) ∙ slice_get-get_or names at _ (omega arith))
    c.in_ok-number_of.ensures put)
