use Rattle.jc_classes.proofs.Growing.{adding_keeps}
use Rattle.jc_classes.proofs.growth.adding_keeps_lookups.Goals as goal

pub returns : goal.returns
returns c = adding_keeps
