use Rattle.std.proofs.Common.{refl, rules}
use Rattle.jc_card.specs.New.{new_card}
use Rattle.jc_run.proofs.Ending.{none_told}
use Rattle.jc_run.proofs.Playing.{handed_end}
use Rattle.jc_run.proofs.Holding.{made_holds, not_made}
use Rattle.jc_run.specs.Session.{HasHeld}
use Rattle.jc_run.proofs.session.run_session.Goals as goal

pub returns-clause-held : goal.returns-clause-held
returns-clause-held g c = λ bytes before is known.
    let card = new_card c.args.limits c.args.binding.now in
    made_holds _ _ _ _ _ c.args.limits c.args.binding.now
    (c.commands_are_lawful.ensures c.args.limits c.args.binding.now (search rules) c.has_no_clash.ensures)
    bytes before _ c.new.result c.new.ensures.limits
    c.in_ok-card.card _ c.in_ok-card.was (c.converse.ensures.held card bytes before c.in_ok-card.ensures.new is known)

pub returns-in_err-card-clause-held : goal.returns-in_err-card-clause-held
returns-in_err-card-clause-held g c = λ bytes before is known.
    handed_end _ _ (HasHeld _ _ _ _ _ c.args.limits c.args.binding.now bytes before _) c.from_residual.ensures.1
    (not_made _ _ _ _ _ c.args.limits c.args.binding.now
    (c.commands_are_lawful.ensures c.args.limits c.args.binding.now (search rules) c.has_no_clash.ensures)
    bytes before _ c.new.result c.new.ensures.limits
    c.in_err-card.field-0.0 c.in_err-card.was (none_told refl) known)
