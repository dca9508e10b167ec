use Rattle.std.proofs.Common.{refl}
use Rattle.jc_natives.proofs.Between.{begun_fits, opened_fits, over_fits}
use Rattle.jc_natives.proofs.laws.calls_keep_fitting.Goals as goal

pub returns-clause-new : goal.returns-clause-new
returns-clause-new c = λ w heap. refl

pub returns-clause-begun : goal.returns-clause-begun
returns-clause-begun c = begun_fits

pub returns-clause-over : goal.returns-clause-over
returns-clause-over c = over_fits

pub returns-clause-opened : goal.returns-clause-opened
returns-clause-opened c = opened_fits

pub returns-clause-closed : goal.returns-clause-closed
returns-clause-closed c = λ w heap k e. e
