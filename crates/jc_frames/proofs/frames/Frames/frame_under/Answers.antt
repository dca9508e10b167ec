use Rattle.std.proofs.Common.{arith}
use Rattle.jc_frames.proofs.Under.{header_is}
use Rattle.jc_frames.proofs.frames.Frames.frame_under.Goals as goal

pub returns : goal.returns
returns c = grind (arith, header_is c.self.inside.words.items c.self.inside.places.items c.args.others, c.self.view_is)
