use Rattle.std.proofs.Common.{refl, rules}
use Rattle.jc_card.specs.New.{new_card}
use Rattle.jc_run.proofs.Ending.{none_told}
use Rattle.jc_run.proofs.Playing.{handed_end}
use Rattle.jc_run.proofs.Starting.{made_runs, not_made}
use Rattle.jc_run.specs.Performs.{HasRun}
use Rattle.jc_run.proofs.run.run_script.Goals as goal

pub returns-clause-run : goal.returns-clause-run
returns-clause-run g c = λ bytes before is known.
    let card = new_card c.args.limits c.args.binding.now in
    made_runs _ _ _ _ c.args.limits c.args.binding.now
    (c.commands_are_lawful.ensures c.args.limits c.args.binding.now (search rules) c.has_no_clash.ensures)
    bytes before _ c.new.result c.new.ensures.limits
    c.in_ok-card.card _ c.in_ok-card.was (c.play.ensures.played card bytes before c.in_ok-card.ensures.new is known)

pub returns-in_err-card-clause-run : goal.returns-in_err-card-clause-run
returns-in_err-card-clause-run g c = λ bytes before is known.
    handed_end _ _ (HasRun _ _ _ _ c.args.limits c.args.binding.now bytes before _) c.from_residual.ensures.1
    (not_made _ _ _ _ c.args.limits c.args.binding.now
    (c.commands_are_lawful.ensures c.args.limits c.args.binding.now (search rules) c.has_no_clash.ensures)
    bytes before _ c.new.result c.new.ensures.limits
    c.in_err-card.field-0.0 c.in_err-card.was (none_told refl) known)
