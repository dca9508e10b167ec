use Rattle.jc_safety.proofs.Loading.{have_own_offsets}
use Rattle.jc_safety.proofs.static_fields_have_own_offsets.Goals as goal

pub returns : goal.returns
returns c = have_own_offsets
