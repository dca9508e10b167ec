use Rattle.std.proofs.lemmas.Result.{err_from_is_err_and}
use Rattle.jc_run.specs.Reports.AreTold.{none}
use Rattle.jcard.specs.Ran.ComesOfSession.{held}
use Rattle.jcard.proofs.Runs.{session_unbound}
use Rattle.jcard.proofs.ran.session.Goals as goal

pub returns-in_err-binding : goal.returns-in_err-binding
returns-in_err-binding g c =
    let told = err_from_is_err_and c.from_residual.result c.from_residual.ensures.1 in
    rw (told.1, told.2) (session_unbound (g.F.Files.holds c.args.files.now) g.R.Input.remaining _ c.args.reader.now _
    g.W.Output.contents _ c.args.writer.now c.args.job.now c.in_err-binding.field-0.0 (none _)
    c.in_err-binding.ensures.faults)

pub returns : goal.returns
returns g c = held c.hold_session.result (record {
  binding = c.in_ok-binding.binding;
  bound = c.in_ok-binding.ensures.bound;
  held = c.hold_session.ensures.held;
  told = c.hold_session.ensures.told;
})
