use Rattle.std.proofs.Common.{IfSome, sym, ◌∙◌, arith}
use Rattle.jc_classes.proofs.Filling.{none_is_none, no_index, put_further}
use Rattle.jc_classes.proofs.shapes.Shapes.fill_class.Goals as goal

pub returns-in_default-clause-settled : goal.returns-in_default-clause-settled
returns-in_default-clause-settled c e none whole = absurd (no_index c.args.self.now c.args.class (sym c.index_of.ensures ∙ c.in_default.is) whole)

pub returns-in-Some-2-clause-further : goal.returns-in-Some-2-clause-further
returns-in-Some-2-clause-further c = grind (arith, put_further, none_is_none, IfSome)
