use Rattle.std.proofs.Common.{arith}
use Rattle.jc_frames.proofs.Under.{from_end, past_end}
use Rattle.jc_frames.proofs.place.place_under.Goals as goal

pub returns-then-others-places : goal.returns-then-others-places
returns-then-others-places c = grind (arith, from_end)

pub returns-else-others-places : goal.returns-else-others-places
returns-else-others-places c = grind (arith, past_end)
