use Rattle.std.proofs.Common.{◌+◌, ◌∙◌, ap, arith, drop, get_or, set}
use Rattle.std.proofs.Math.Seq.{paste-zero}
use Rattle.jc_frames.proofs.Copying.{all_copied, copied_more}
use Rattle.jc_frames.proofs.place.copy_each.Goals as goal

pub loop-index-init : goal.loop-index-init
loop-index-init c = paste-zero c.args.words.now c.args.start (drop c.args.from c.args.words.now)

pub loop-index-preserved : goal.loop-index-preserved
loop-index-preserved c =
    let more = c.loop-index-test.true in
    ap (λ w. set w (c.args.start + c.loop-index.index) (get_or w (c.args.from + c.loop-index.index) 0)) c.loop-index.invariant
    ∙ copied_more _ _ _ c.loop-index.index 0 (omega (arith, more, c.requires.before)) (omega (arith, more, c.requires.within))

pub returns : goal.returns
returns c = grind (arith, all_copied)
