use Rattle.std.proofs.Common.{inr, sym, arith}
use Rattle.jc_check.specs.Checked.{stray}
use Rattle.jc_check.proofs.Least.{all_carried, first_told}
use Rattle.jc_check.proofs.package.package_refusal.Goals as goal

pub returns-in-Some-clause-refused : goal.returns-in-Some-clause-refused
returns-in-Some-clause-refused c = inr (stray c.in-Some.method (rw (c.methods_of.ensures, c.rows.ensures.view) at (sym c.in-Some.ensures)))

pub returns-in-Some-2-clause-refused : goal.returns-in-Some-2-clause-refused
returns-in-Some-2-clause-refused c = grind (arith, first_told)

pub returns-in-None-2-clause-accepted : goal.returns-in-None-2-clause-accepted
returns-in-None-2-clause-accepted c = grind (arith, all_carried)
