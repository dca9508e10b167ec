use Rattle.std.proofs.Common.{◌∙◌, ◌==◌, ◌&&◌, ◌||◌, ap, sym, arith, slice_get}
use Rattle.std.proofs.lemmas.Option.{slice_get-get_or}
use Rattle.jc_api.specs.declared.class.ApiClass.TheVariants.{Object}
use Rattle.jc_names.specs.declared.name.ClassName.TheVariants.{Api}
use Rattle.jc_program.specs.BitRow.{has_bit}
use Rattle.jc_program.proofs.Climbing.{objects_more}
use Rattle.jc_program.proofs.supertypes.objects_of.Goals as goal

pub loop-at-preserved : goal.loop-at-preserved
loop-at-preserved c =
    let names = c.names-names.result.now in
    let at = c.loop-at.at in
    let row = c.loop-at.row in
    objects_more c.args.classes.now at _ row c.put_if.new.row c.loop-at.invariant
    (ap (λ ns. slice_get ns at) (sym c.names-names.ensures.names)
    ∙ slice_get-get_or names at (Api Object) (omega arith))
    (λ m. c.in_ok-put_if.ensures m ∙ ap (λ b. has_bit row m || (b && m == at)) c.is.ensures)
