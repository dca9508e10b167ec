use Rattle.jc_safety.proofs.Loading.{load_typed}
use Rattle.jc_safety.proofs.loads_stay_typed.Goals as goal

pub returns : goal.returns
returns g c = load_typed c.laws_below.ensures
