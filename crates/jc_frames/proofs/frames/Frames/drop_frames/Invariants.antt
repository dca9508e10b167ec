use Rattle.std.proofs.Common.{◌≡◌, drop}
use Rattle.jc_frames.specs.Frames.{with_frames}
use Rattle.jc_frames.proofs.frames.Frames.drop_frames.Given as goal

-- so many are gone
abbrev pub invariant-loop : goal.invariant-loop
invariant-loop l = l.self ≡ with_frames l.fn.self (drop l.counter l.fn.self.frames)
