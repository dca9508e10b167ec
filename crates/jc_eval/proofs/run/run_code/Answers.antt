use Rattle.std.proofs.Common.{[]}
use Rattle.jc_eval.proofs.Running.{Laws, ends_so, from_first}
use Rattle.jc_eval.proofs.run.run_code.Goals as goal

pub run_frame-stopped-requires-clause-may_run : goal.run_frame-stopped-requires-clause-may_run
run_frame-stopped-requires-clause-may_run c =
    let code = c.args.checked.now in
    let well = c.code-code.ensures.typed in
    let safe = c.carried_code_is_safe.ensures in
    let laws : Laws code well.typing well.typed = record {
      first = safe.first code well.typing well.typed;
      stands = safe.stands code well.typing well.typed;
      steps = safe.steps code well.typing well.typed;
      follow = c.words_follow.ensures;
      decoded = c.words_are_decoded.ensures;
      rows = c.rows_are_decoded.ensures.decoded;
    } in
    rw c.code-code.ensures.code
    (from_first code well.typing well.typed laws c.empty_environment-environment.result [] c.args.store.now c.args.steps).may_run

pub returns-then-stopped-eq0 : goal.returns-then-stopped-eq0
returns-then-stopped-eq0 c = λ typing t.
    let code = c.args.checked.now in
    let safe = c.carried_code_is_safe.ensures in
    let laws : Laws code typing t = record {
      first = safe.first code typing t;
      stands = safe.stands code typing t;
      steps = safe.steps code typing t;
      follow = c.words_follow.ensures;
      decoded = c.words_are_decoded.ensures;
      rows = c.rows_are_decoded.ensures.decoded;
    } in
    (ends_so code typing t laws c.empty_environment-environment.result [] c.args.store.now c.args.steps _
    (rw c.code-code.ensures.code at c.run_frame-stopped.ensures.ran)).0 c.if-stopped-eq0.true

pub returns : goal.returns
returns c = λ typing t.
    let code = c.args.checked.now in
    let safe = c.carried_code_is_safe.ensures in
    let laws : Laws code typing t = record {
      first = safe.first code typing t;
      stands = safe.stands code typing t;
      steps = safe.steps code typing t;
      follow = c.words_follow.ensures;
      decoded = c.words_are_decoded.ensures;
      rows = c.rows_are_decoded.ensures.decoded;
    } in
    rw c.end_at.ensures (rw c.code-code.ensures.code
    ((ends_so code typing t laws c.empty_environment-environment.result [] c.args.store.now c.args.steps _
    (rw c.code-code.ensures.code at c.run_frame-stopped.ensures.ran)).1 c.if-stopped-eq0.false))
