use Rattle.std.proofs.Common.{sym, ◌∙◌}
use Rattle.jc_check.specs.FirstFault.{empty}
use Rattle.jc_check.proofs.Verdicts.{nothing_in}
use Rattle.jc_check.proofs.method_check.check_method.Goals as goal

pub returns-then-is_empty-clause-refused : goal.returns-then-is_empty-clause-refused
returns-then-is_empty-clause-refused g c = empty (nothing_in c.args.method.now.code c.code.result.now c.code.ensures (sym c.if-is_empty.true ∙ c.is_empty.ensures))
