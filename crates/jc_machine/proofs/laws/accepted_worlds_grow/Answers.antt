use Rattle.jc_machine.proofs.Accepting.{api_is_accepted, grown_is_accepted}
use Rattle.jc_machine.proofs.GrownWorlds.{grown_is_world}
use Rattle.jc_machine.proofs.laws.accepted_worlds_grow.Goals as goal

pub returns-clause-api : goal.returns-clause-api
returns-clause-api c = api_is_accepted

pub returns-clause-grown : goal.returns-clause-grown
returns-clause-grown c = λ w l accepted bound last small tokens.
    grown_is_accepted w l accepted bound
    (grown_is_world c.growing_keeps_lookups.ensures.kept c.growing_keeps_linking.ensures.kept
    c.growing_keeps_lookups.ensures.there w l accepted.world bound last)
    small tokens
