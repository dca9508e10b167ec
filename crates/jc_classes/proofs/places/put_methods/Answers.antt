use Rattle.std.proofs.Common.{arith}
use Rattle.jc_classes.proofs.Placing.{all_from}
use Rattle.jc_classes.proofs.places.put_methods.Goals as goal

pub returns : goal.returns
returns c = grind (arith, all_from)
