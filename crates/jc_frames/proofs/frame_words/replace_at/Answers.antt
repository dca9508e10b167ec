use Rattle.std.proofs.Common.{◌+◌, refl}
use Rattle.jc_frames.specs.Operands.{dropped, put}
use Rattle.jc_frames.proofs.Operands.{drop_changed, then_changed}
use Rattle.jc_frames.proofs.frame_words.replace_at.Goals as goal

pub returns : goal.returns
returns c =
    let p = c.args.place.now in
    then_changed (dropped c.args.count) (put c.args.word c.args.pc) p _ c.put_at.new.place c.args.words.now
    c.args.words.now c.put_at.new.words
    (drop_changed p c.args.words.now c.requires (p.start + p.locals) c.depth_at.result refl c.depth_at.ensures
    c.args.count c.saturating_sub-place.result c.saturating_sub-place.ensures)
    c.put_at.ensures
