use Rattle.std.proofs.Common.{◌+◌, set, sym, subst}
use Rattle.jc_frames.specs.Operands.{pushed}
use Rattle.jc_frames.specs.PrivateLaid.{IsChanged}
use Rattle.jc_frames.proofs.Operands.{push_changed}
use Rattle.jc_frames.proofs.frame_words.push_at.Goals as goal

pub returns-then-depth-place : goal.returns-then-depth-place
returns-then-depth-place c =
    let p = c.args.place.now in
    let d = c.depth_at-depth.result in
    subst (λ k. IsChanged (pushed c.args.word) p c.args.words.now
    (record p { header = record p.header { depth = d + 1 } })
    (set c.args.words.now (c.operands_at.result + k) c.args.word)) (sym c.from.ensures)
    (push_changed p c.args.words.now c.requires c.operands_at.result d c.operands_at.ensures c.depth_at-depth.ensures
    c.args.word c.if-depth-place.true)
