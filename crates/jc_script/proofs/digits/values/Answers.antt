use Rattle.std.proofs.Common.{refl}
use Rattle.jc_script.proofs.DigitPairs.{are_values}
use Rattle.jc_script.proofs.digits.values.Goals as goal

pub returns : goal.returns
returns c = are_values _ refl refl
