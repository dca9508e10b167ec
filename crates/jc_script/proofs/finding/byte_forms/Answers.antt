use Rattle.std.proofs.Common.{refl}
use Rattle.jc_script.proofs.finding.byte_forms.Goals as goal

pub returns-in-Session : goal.returns-in-Session
returns-in-Session c = rw c.in-Session.is refl
