use Rattle.jc_cert.proofs.Laws.{one_spelling}
use Rattle.jc_cert.proofs.law.one_spelling.Goals as goal

pub returns : goal.returns
returns c = one_spelling
