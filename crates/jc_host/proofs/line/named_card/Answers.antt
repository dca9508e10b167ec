use Rattle.jc_host.proofs.Lines.{no_run}
use Rattle.jc_host.proofs.line.named_card.Goals as goal

pub returns-in-None : goal.returns-in-None
returns-in-None c = no_run _ c.in-None.ensures c.named_session.result c.named_session.ensures
