use Rattle.std.proofs.Common.{sym, subst}
use Rattle.jc_host.specs.Eval.{IsAnswer}
use Rattle.jc_host.proofs.Evaluating.{for_end}
use Rattle.jc_host.proofs.eval.eval.Goals as goal

pub returns-in-Ok-new : goal.returns-in-Ok-new
returns-in-Ok-new c =
    let found = c.in-Ok.ensures.found in
    let accepted = c.in-Ok-check_words.ensures.accepted in
    subst (λ a. IsAnswer a c.args.code.now c.args.cert.now c.args.steps) (sym c.ending_answer.ensures)
    (for_end c.args.code.now c.args.cert.now c.args.steps _ c.run_code.result (record { spells = record { cert = found.0; bytes_are = found.1 }; only = λ others s. c.in-Ok.ensures.only others s.cert s.bytes_are }) accepted.1 (rw accepted.0 at c.in-Ok-check_words.ensures.typed)
    (rw (← accepted.0) c.run_code.ensures))
