use Rattle.std.proofs.Common.{subst}
use Rattle.jc_natives.specs.Kept.{with_command}
use Rattle.jc_card.specs.Card.{with_kept}
use Rattle.jc_card.specs.Command.{Command}
use Rattle.jc_card.specs.Commands.{answered}
use Rattle.jc_card.specs.Parts.{call_selected}
use Rattle.jc_card.specs.Reads.{Holds, ReadsEnded, ReadsResponse}
use Rattle.jc_card.specs.declared.calls.AppletCall.TheVariants.{Process}
use Rattle.jc_card.proofs.Doing.{then_done}
use Rattle.jc_card.proofs.card.Card.process.Goals as goal

pub returns : goal.returns
returns c card h =
    let k = c.args.command.now in
    then_done c.call_selected-ended.new.self c.close.new.self (ReadsEnded c.call_selected-ended.result)
    (ReadsResponse c.answer.result)
    (call_selected (with_kept card (with_command card.kept k.incoming k.expected c.args.selecting)) Process) answered
    (c.call_selected-ended.ensures _ (subst (λ (x : Command). Holds c.open.new.self (with_kept card (with_command
    card.kept x.incoming x.expected c.args.selecting))) c.command.view_is (c.open.ensures card h).0))
    (λ d e i r. let closed = (c.close.ensures d i).0 in (closed, c.answer.ensures _ e closed r))
