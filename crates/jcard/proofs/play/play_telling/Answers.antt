use Rattle.jcard.proofs.Ends.{run_as}
use Rattle.jcard.proofs.play.play_telling.Goals as goal

pub returns-in-Ok-clause-played : goal.returns-in-Ok-clause-played
returns-in-Ok-clause-played g c = λ bytes before is known.
    run_as _ _ _ _ tt (λ why. why) ((rw c.new-source.ensures.files at c.in-Ok.ensures.run) bytes before is known)

pub returns-in-Err-clause-played : goal.returns-in-Err-clause-played
returns-in-Err-clause-played g c = λ bytes before is known.
    rw c.told_of.ensures.end (run_as _ _ _ _ c.told_of.ensures.known (λ why. why)
    ((rw c.new-source.ensures.files at c.in-Err.ensures.run) bytes before is known))
