use Rattle.std.proofs.Common.{arith}
use Rattle.jc_cap_desc.specs.ClassRow.{next_class_row}
use Rattle.jc_cap_desc.proofs.Few.{few_given}
use Rattle.jc_cap_desc.proofs.component.next_classes.Goals as goal

pub returns-clause-few : goal.returns-clause-few
returns-clause-few c = few_given next_class_row c.from.result c.args.cursor.now _ c.read.result (omega (arith, c.from.ensures, c.ranges.count.fits)) c.read.ensures
