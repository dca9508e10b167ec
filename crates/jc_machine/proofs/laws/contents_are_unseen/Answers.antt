use Rattle.jc_machine.proofs.UnseeingCalls.{steps_are_blind}
use Rattle.jc_machine.proofs.UnseeingSteps.{runs_alike}
use Rattle.jc_machine.proofs.laws.contents_are_unseen.Goals as goal

pub returns-clause-steps : goal.returns-clause-steps
returns-clause-steps g c = λ context s guarded blind m own applet other heap alike.
    steps_are_blind context s m heap alike
    (record { guarded = guarded; blind = blind; own = own; applet = applet; other = other })

pub returns-clause-calls : goal.returns-clause-calls
returns-clause-calls g c = λ context s guarded blind keeps apart members start first heap alike steps out.
    runs_alike context s guarded blind keeps apart members start heap alike first steps out
