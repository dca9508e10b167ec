use Rattle.jc_natives.proofs.Loading.{load_fits}
use Rattle.jc_natives.proofs.laws.loads_keep_fitting.Goals as goal

pub returns : goal.returns
returns c = λ w l bound heap more k e. load_fits c.growing_keeps_lookups.ensures.kept w l bound heap more k e
