use Rattle.jc_machine.proofs.Remembering.{call_keeps}
use Rattle.jc_machine.proofs.laws.calls_keep_what_members_keep.Goals as goal

pub returns : goal.returns
returns g c = call_keeps
