use Rattle.std.proofs.Common.{sym, arith}
use Rattle.jc_natives.proofs.Parts.{same_block, same_last}
use Rattle.jc_natives.proofs.words.same_from.Goals as goal

pub loop-start-preserved : goal.loop-start-preserved
loop-start-preserved c = grind (arith, same_block)

pub returns-then-are_same-clause-same : goal.returns-then-are_same-clause-same
returns-then-are_same-clause-same c =
    let left = c.loop-start-test.false in
    let some = c.if-one-size.false in
    same_last c.loop-start.start c.args.size c.args.one.now c.args.other.now (sym c.requires.sized) some
    (omega (arith, left, some)) c.loop-start.invariant.same
    (c.are_same-then-start-end.ensures.yes c.if-are_same.true)
