use Rattle.jc_cap.proofs.Spelling.{read-spelled}
use Rattle.jc_cap.proofs.descriptor.signatures_are_spelled.Goals as goal

pub returns : goal.returns
returns c = read-spelled
