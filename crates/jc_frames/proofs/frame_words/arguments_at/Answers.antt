use Rattle.std.proofs.Common.{◌≡◌, ℕ, ◌+◌, ◌-◌, List, take, drop, ap, ◌∙◌, arith}
use Rattle.jc_frames.proofs.Calls.{lent_words}
use Rattle.jc_frames.proofs.frame_words.arguments_at.Goals as goal

pub returns : goal.returns
returns c =
    let words : List ℕ = c.args.words.now in
    let from : ℕ = c.operands_at.result in
    let d : ℕ = c.depth_at-depth.result in
    let k : ℕ = c.from-2.result in
    let end = c.from.ensures in let least = c.min.ensures in let lent = c.from-2.ensures in
    let size : from + c.from.result - (from + c.from.result - k) ≡ k = omega (arith, end, least, lent) in
    ap (λ n. take n (drop (from + c.from.result - k) words)) size ∙ ap (λ n. take k (drop (from + n - k) words)) end
    ∙ lent_words c.args.place.now words c.requires from d c.args.count k c.operands_at.ensures c.depth_at-depth.ensures
    (lent ∙ least)
