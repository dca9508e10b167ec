use Rattle.std.proofs.lemmas.Result.{err_from_is_err_and}
use Rattle.jc_run.specs.Reports.AreTold.{none}
use Rattle.jcard.specs.Ran.ComesOfRun.{played}
use Rattle.jc_host.specs.Scripts.{AreAsked}
use Rattle.jcard.proofs.Ends.{runs_unread}
use Rattle.jcard.proofs.Runs.{run_unbound, run_unopened}
use Rattle.jcard.proofs.ran.run.Goals as goal

pub returns-in_err-binding : goal.returns-in_err-binding
returns-in_err-binding g c =
    let told = err_from_is_err_and c.from_residual.result c.from_residual.ensures.1 in
    rw (told.1, told.2) (run_unbound (g.F.Files.holds c.args.files.now) (g.S.Scripts.tells c.args.scripts.now)
    (g.S.Scripts.has_asked c.args.scripts.now) _ g.W.Output.contents _ c.args.writer.now c.args.job.now
    c.in_err-binding.field-0.0 (none _) c.in_err-binding.ensures.faults)

pub returns-in_err-script : goal.returns-in_err-script
returns-in_err-script g c =
    let told = err_from_is_err_and c.from_residual-in_err-script.result c.from_residual-in_err-script.ensures.1 in
    let asked = AreAsked (g.S.Scripts.has_asked c.args.scripts.now) (g.S.Scripts.has_asked c.open_script.new.scripts) in
    rw (told.1, told.2) (run_unopened (g.F.Files.holds c.args.files.now) (g.S.Scripts.tells c.args.scripts.now) asked _
    g.W.Output.contents _ c.args.writer.now c.args.job.now c.in_ok-binding.binding c.in_err-script.field-0.0 (none _)
    c.in_ok-binding.ensures.bound c.in_err-script.ensures.faults c.in_err-script.ensures.asked)

pub returns : goal.returns
returns g c = played c.play_script.result (record {
  binding = c.in_ok-binding.binding;
  bound = c.in_ok-binding.ensures.bound;
  content = g.S.Reader.Read.remaining c.in_ok-script.script;
  opened = c.in_ok-script.ensures.opened;
  runs = λ bytes earlier is known.
      runs_unread _ _ _ ((rw c.new-lines.ensures.reader at c.play_script.ensures.played) bytes earlier is known);
  told = c.play_script.ensures.told;
}) c.in_ok-script.ensures.asked
