use Rattle.std.proofs.Common.{refl}
use Rattle.jc_frames.specs.Operands.{at_pc, pushed}
use Rattle.jc_frames.proofs.Operands.{then_changed}
use Rattle.jc_frames.proofs.frame_words.put_at.Goals as goal

pub returns : goal.returns
returns c =
    then_changed (pushed c.args.word) (at_pc c.args.pc) c.args.place.now c.push_at.new.place _ c.args.words.now
    c.push_at.new.words c.push_at.new.words c.push_at.ensures
    (record { frame = refl; before = refl; start = refl; locals = refl; operands = refl })
