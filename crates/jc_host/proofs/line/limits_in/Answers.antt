use Rattle.std.proofs.Common.{sym, subst}
use Rattle.clap.specs.Words.{found_of, rows_of}
use Rattle.jc_host.specs.Line.{AreLimits, Finds}
use Rattle.jc_host.proofs.line.limits_in.Goals as goal

pub returns-in_err-objects : goal.returns-in_err-objects
returns-in_err-objects c =
    subst (λ o. Finds o (AreLimits (rows_of (found_of c.args.found.now)))) (sym c.from_residual.ensures)
    (λ limits said. c.in_err-objects.ensures limits.objects said.objects)

pub returns-in_err-cells : goal.returns-in_err-cells
returns-in_err-cells c =
    subst (λ o. Finds o (AreLimits (rows_of (found_of c.args.found.now)))) (sym c.from_residual-in_err-cells.ensures)
    (λ limits said. c.in_err-cells.ensures limits.cells said.cells)

pub returns-in_err-frames : goal.returns-in_err-frames
returns-in_err-frames c =
    subst (λ o. Finds o (AreLimits (rows_of (found_of c.args.found.now)))) (sym c.from_residual-in_err-frames.ensures)
    (λ limits said. c.in_err-frames.ensures limits.frames said.frames)

pub returns-in_err-words : goal.returns-in_err-words
returns-in_err-words c =
    subst (λ o. Finds o (AreLimits (rows_of (found_of c.args.found.now)))) (sym c.from_residual-in_err-words.ensures)
    (λ limits said. c.in_err-words.ensures limits.frame_words said.words)

pub returns-in_err-steps : goal.returns-in_err-steps
returns-in_err-steps c =
    subst (λ o. Finds o (AreLimits (rows_of (found_of c.args.found.now)))) (sym c.from_residual-in_err-steps.ensures)
    (λ limits said. c.in_err-steps.ensures limits.steps said.steps)
