use Rattle.std.proofs.Common.{reverse, arith}
use Rattle.jc_frames.proofs.Lending.{words_left, words_lent}
use Rattle.jc_frames.proofs.Words.{left_over}
use Rattle.jc_frames.proofs.frames.Frames.words.Goals as goal

pub returns : goal.returns
returns c = grind (arith, reverse, left_over, words_left, words_lent)
