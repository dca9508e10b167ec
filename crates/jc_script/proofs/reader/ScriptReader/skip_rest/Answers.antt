use Rattle.std.proofs.Common.{arith, ◌∙◌}
use Rattle.jc_script.proofs.Skips.{goes_past, skipped_here}
use Rattle.jc_script.proofs.reader.ScriptReader.skip_rest.Goals as goal

pub returns-then-skip_part-clause-skipped : goal.returns-then-skip_part-clause-skipped
returns-then-skip_part-clause-skipped g c =
    skipped_here _ (g.R.Input.remaining c.loop-self.reader) c.loop-self.self.unread _ c.loop-self.invariant.0
    (rw c.if-skip_part.true at c.skip_part.ensures.skipped)

pub loop-self-preserved : goal.loop-self-preserved
loop-self-preserved g c =
    let passed = rw c.if-skip_part.false at c.skip_part.ensures.skipped in
    let kept = c.skip_part.ensures.calls in
    let before = c.loop-self.invariant.1 in
    let called = c.in_ok-fill.ensures.called in
    let left = g.R.Input.remaining in (
      goes_past _ (left c.loop-self.reader) (left c.fill.new.reader) c.loop-self.self.unread _ c.loop-self.invariant.0
          passed.1 c.in_ok-fill.ensures.filled.came,
      omega (arith, kept, before, called),
      c.in_ok-fill.ensures.working ∙ c.loop-self.invariant.2,
    )
