use Rattle.std.proofs.Common.{sym, ap, ◌∙◌, length, subst, arith, slice_get}
use Rattle.jc_link.proofs.GrownParts.{none_some}
use Rattle.jc_link.specs.Built.{IsBuilt}
use Rattle.jc_link.specs.Built.IsBuilt.{api}
use Rattle.jc_link.proofs.world.World.new.Goals as goal

pub invariant_of-result : goal.invariant_of-result
invariant_of-result c =
    let two = ap (λ w. length w) c.in_ok-table.ensures in
    let empty = c.new-2.ensures.items in
    let none = ap (λ bodies. length bodies) empty in (
      omega (arith, two),
      omega (arith, two),
      record {
        built = subst IsBuilt (sym c.in_ok-table.ensures) (api c.args.binding.now c.has_no_clash.ensures);
        count = omega (arith, two, none);
        known = λ n body e. absurd (none_some body (sym (ap (λ bodies. slice_get bodies n) empty) ∙ e));
      },
    )
