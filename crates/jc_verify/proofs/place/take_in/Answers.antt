use Rattle.std.proofs.Common.{refl}
use Rattle.jc_verify.specs.PrivatePlaces.{joined}
use Rattle.jc_verify.proofs.place.take_in.Goals as goal

pub returns-then-branch-clause-taken : goal.returns-then-branch-clause-taken
returns-then-branch-clause-taken g c = joined c.in-Some.held c.raise.new.held c.in-Some.is refl c.in_ok-raise-in-Some.ensures.rises c.in_ok-raise-in-Some.ensures.above c.in_ok-raise-in-Some.ensures.least

pub returns-else-branch-clause-taken : goal.returns-else-branch-clause-taken
returns-else-branch-clause-taken g c = joined c.in-Some.held c.raise.new.held c.in-Some.is refl c.in_ok-raise-in-Some.ensures.rises c.in_ok-raise-in-Some.ensures.above c.in_ok-raise-in-Some.ensures.least
