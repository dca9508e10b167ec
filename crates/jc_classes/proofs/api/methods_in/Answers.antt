use Rattle.std.proofs.Common.{◌<◌, ◌^◌, List, length, sym, subst, arith}
use Rattle.jc_cap_desc.specs.Shape.{MethodShape}
use Rattle.jc_classes.proofs.Numbering.{few_methods}
use Rattle.jc_classes.proofs.api.methods_in.Goals as goal

pub returns-clause-few : goal.returns-clause-few
returns-clause-few c =
    subst (λ (xs : List MethodShape). length xs < 2 ^ 16) (sym c.loop-before.invariant) (few_methods c.args.binding.now c.args.class c.loop-before.before (omega arith))
