use Rattle.std.proofs.Common.{◌++◌, ◌∙◌, length, arith}
use Rattle.jc_program.specs.PrivateBitRows.{IsRightAbove}
use Rattle.jc_program.proofs.Rising.{risen_more, settled}
use Rattle.jc_program.proofs.bit_rows.settle.Goals as goal

pub returns-then-not-branch-clause-settled : goal.returns-then-not-branch-clause-settled
returns-then-not-branch-clause-settled c = grind (arith, length, settled)

pub loop-preserved : goal.loop-preserved
loop-preserved c =
    let made = c.args.made.now in
    let above = IsRightAbove (length made) (length c.args.above.now) c.args.above.now in
    record {
      count = c.in_ok-pass.ensures.count ∙ c.loop.invariant.count;
      risen = risen_more above (made ++ c.args.rows.now) (made ++ c.loop.rows) (made ++ c.pass.new.rows)
          c.in_ok-pass.field-0 c.loop.invariant.risen c.in_ok-pass.ensures.passed;
    }
