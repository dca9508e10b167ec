use Rattle.std.proofs.Common.{ℕ, ◌<◌, length, subst}
use Rattle.jc_interp.proofs.MadeArrays.{past_word}
use Rattle.jc_safety.specs.Loading.{words_of_array}
use Rattle.jc_interp.proofs.making.fill.Goals as goal

pub loop-index-preserved : goal.loop-index-preserved
loop-index-preserved c =
    let words = words_of_array c.args.array.now in
    let low : c.loop-index.index < length words =
    subst (λ (n : ℕ). c.loop-index.index < n) c.count_of-count.ensures c.loop-index-test.true in
    past_word c.loop-index.store c.put_component.new.store c.args.number c.loop-index.index words _
    c.loop-index.invariant low c.put_component.ensures
