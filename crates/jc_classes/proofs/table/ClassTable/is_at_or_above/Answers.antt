use Rattle.std.proofs.Common.{sym, ◌∙◌, arith}
use Rattle.jc_classes.proofs.Superclasses.{above_more, met}
use Rattle.jc_classes.proofs.Walking.{most_is}
use Rattle.jc_classes.specs.Walk.{most_classes}
use Rattle.jc_classes.proofs.table.ClassTable.is_at_or_above.Goals as goal

pub returns-then-is : goal.returns-then-is
returns-then-is c =
    sym (above_more c.args.self.now 1 most_classes c.args.above c.args.class (omega (arith, most_is))
    (met c.args.self.now c.args.above c.args.class 0 (sym c.is.ensures ∙ c.if-is.true)))
