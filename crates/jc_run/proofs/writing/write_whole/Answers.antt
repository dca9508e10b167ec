use Rattle.std.proofs.Common.{arith, length-drop, ◌∙◌}
use Rattle.std.proofs.lemmas.List.{take_rest}
use Rattle.jc_run.proofs.Written.{further, on_err, part_kept, part_of}
use Rattle.jc_run.proofs.writing.write_whole.Goals as goal

pub returns-in_err-done-clause-part : goal.returns-in_err-done-clause-part
returns-in_err-done-clause-part g c =
    on_err _ _ (part_kept _ _ _ _ c.loop-calls.done c.loop-calls.invariant.1 c.in_err-done.ensures.kept)

pub loop-calls-preserved : goal.loop-calls-preserved
loop-calls-preserved g c =
    let v = c.loop-calls.invariant in
    let w = c.in_ok-done.ensures in (
      omega (arith, v.0, w.few, length-drop c.loop-calls.done c.args.bytes.now),
      further _ _ _ _ _ _ v.1 (rw (take_rest c.args.bytes.now c.loop-calls.done) at w.written),
      omega (arith, c.loop-calls-test.true),
      omega (arith, v.3, w.called),
      w.working ∙ v.4,
    )

pub returns-clause-part : goal.returns-clause-part
returns-clause-part g c = part_of _ _ _ c.loop-calls.done c.loop-calls.invariant.1
