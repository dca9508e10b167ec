use Rattle.std.proofs.Common.{take}
use Rattle.std.specs.List.{filter_map}
use Rattle.jc_link.specs.PrivateStatics.{HaveTaken}
use Rattle.jc_link.specs.Statics.{static_of}
use Rattle.jc_link.proofs.statics.TakenBytes.take_all.Given as goal

-- the bytes of those before it were taken
abbrev pub invariant-loop-field : goal.invariant-loop-field
invariant-loop-field l = HaveTaken (filter_map static_of (take l.field-index l.fields)) l.fn.self l.self
