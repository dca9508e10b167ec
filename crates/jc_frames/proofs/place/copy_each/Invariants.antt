use Rattle.std.proofs.Common.{◌≡◌, drop}
use Rattle.std.proofs.Math.Seq.{paste}
use Rattle.jc_frames.proofs.place.copy_each.Given as goal

-- so many words are copied
abbrev pub invariant-loop-index : goal.invariant-loop-index
invariant-loop-index l = l.words ≡ paste l.fn.words l.fn.start (drop l.fn.from l.fn.words) l.index
