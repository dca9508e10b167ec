use Rattle.jc_firewall.proofs.Owned.{own_allowed}
use Rattle.jc_firewall.proofs.law.own_is_allowed.Goals as goal

pub returns : goal.returns
returns c = own_allowed
