use Rattle.jc_refusals.proofs.Stages as stages
use Rattle.jc_refusals.proofs.refusals_are_in_order.Goals as goal

pub returns : goal.returns
returns c =
    record {
      cut = stages.cut;
      read = stages.read;
      linked = stages.linked;
      checked = stages.checked;
      once = stages.cut_once;
    }
