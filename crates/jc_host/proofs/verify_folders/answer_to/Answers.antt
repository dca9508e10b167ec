use Rattle.std.proofs.lemmas.Result.{err_from_is_err_and}
use Rattle.jc_host.specs.Files.{IsWritten}
use Rattle.jc_host.specs.Verify.{IsUndone, IsUnwrittenOf}
use Rattle.jc_host.specs.Verify.IsUndone.{unwritten}
use Rattle.jc_host.proofs.Jobs.{none_beside, unread_undone}
use Rattle.jc_host.proofs.Reading.{of_file}
use Rattle.jc_host.proofs.verify_folders.answer_to.Goals as goal

pub returns-in_err-answer-clause-faults : goal.returns-in_err-answer-clause-faults
returns-in_err-answer-clause-faults g c =
    let told = err_from_is_err_and c.from_residual.result c.from_residual.ensures.1 in
    let undone = unread_undone (g.F.Files.holds c.args.files.now) (g.F.Files.has_written c.args.files.now)
    c.args.job.now c.in_err-answer.field-0.0 c.in_err-answer.ensures.faults in
    rw (told.1, told.2) undone

pub returns-in_err-answer-clause-alone : goal.returns-in_err-answer-clause-alone
returns-in_err-answer-clause-alone g c = none_beside (g.F.Files.has_written c.args.files.now) c.args.job.now.cert.now

pub returns-in_err-write_answer-clause-faults : goal.returns-in_err-write_answer-clause-faults
returns-in_err-write_answer-clause-faults g c =
    let holds = g.F.Files.holds c.args.files.now in
    let wrote = IsWritten (g.F.Files.has_written c.args.files.now) (g.F.Files.has_written c.write_answer.new.files) in
    let told = err_from_is_err_and c.from_residual-in_err-write_answer.result
    c.from_residual-in_err-write_answer.ensures.1 in
    let undone = of_file (IsUnwrittenOf holds c.args.job.now.cert.now c.in_ok-answer.answer)
    (IsUndone holds wrote c.args.job.now) c.in_err-write_answer.field-0.0
    (λ f failing. unwritten c.in_ok-answer.answer c.in_ok-answer.ensures.answered failing)
    c.in_err-write_answer.ensures.faults in
    rw (told.1, told.2) undone
