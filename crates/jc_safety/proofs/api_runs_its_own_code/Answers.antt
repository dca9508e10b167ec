use Rattle.jc_safety.proofs.ApiCode.{have_api_members}
use Rattle.jc_safety.proofs.api_runs_its_own_code.Goals as goal

pub returns : goal.returns
returns c world built = have_api_members world (c.laws_below.ensures.on_api world built)
