use Rattle.std.proofs.Common.{◌≡◌, drop}
use Rattle.jc_interp.specs.PrivateUnwinding.{unwound, unwound_from}
use Rattle.jc_interp.proofs.machine.WordMachine.unwind_for.Given as goal

-- the frames on top have no handler
abbrev pub invariant-loop-others : goal.invariant-loop-others
invariant-loop-others l = (l.self ≡ l.initial.self)
    × (unwound l.program l.object l.class l.self.frames.frames
    ≡ unwound_from l.program l.object l.class l.self.frames.frames (drop l.others l.self.frames.frames))
