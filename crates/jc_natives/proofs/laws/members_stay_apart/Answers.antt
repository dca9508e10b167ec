use Rattle.std.proofs.Common.{refl}
use Rattle.jc_natives.proofs.Apart.{begun_named, members_apart, over_named}
use Rattle.jc_natives.proofs.laws.members_stay_apart.Goals as goal

pub returns-clause-members : goal.returns-clause-members
returns-clause-members c = members_apart c.held_values_stay.ensures.held

pub returns-clause-new : goal.returns-clause-new
returns-clause-new c = refl

pub returns-clause-begun : goal.returns-clause-begun
returns-clause-begun c = begun_named

pub returns-clause-over : goal.returns-clause-over
returns-clause-over c = over_named

pub returns-clause-opened : goal.returns-clause-opened
returns-clause-opened c = λ k e incoming expected selecting. e

pub returns-clause-closed : goal.returns-clause-closed
returns-clause-closed c = λ k e. e
