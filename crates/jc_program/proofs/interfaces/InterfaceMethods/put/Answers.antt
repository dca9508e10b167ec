use Rattle.std.proofs.Common.{arith}
use Rattle.jc_program.proofs.Indexing.{class_put, class_within, classes_begin}
use Rattle.jc_program.proofs.interfaces.InterfaceMethods.put.Goals as goal

pub returns-in_err-put_rows-clause-kept : goal.returns-in_err-put_rows-clause-kept
returns-in_err-put_rows-clause-kept c = grind (arith, classes_begin)

pub returns-in_err-count-clause-kept : goal.returns-in_err-count-clause-kept
returns-in_err-count-clause-kept c = grind (arith, classes_begin)

pub returns-in_err-push-clause-kept : goal.returns-in_err-push-clause-kept
returns-in_err-push-clause-kept c = grind (arith, classes_begin)

pub invariant_of-self-2 : goal.invariant_of-self-2
invariant_of-self-2 c = grind (arith, class_within)

pub returns-clause-done : goal.returns-clause-done
returns-clause-done c = grind (arith, class_put)
