use Rattle.jc_link.proofs.Resolved.{linked_last}
use Rattle.jc_link.proofs.growth.linked_packages_are_known.Goals as goal

pub returns : goal.returns
returns c = linked_last c.growing_keeps_linking.ensures.api
