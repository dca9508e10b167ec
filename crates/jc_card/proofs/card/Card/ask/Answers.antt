use Rattle.std.proofs.Common.{Bool, true, cond, subst, sym, ◌∙◌}
use Rattle.jc_card.specs.Commands.{asked, process, refused}
use Rattle.jc_card.specs.Parts.{call_selected}
use Rattle.jc_card.specs.Reads.{IsDone, ReadsEnded, ReadsResponse}
use Rattle.jc_card.specs.declared.calls.AppletCall.TheVariants.{Select}
use Rattle.jc_card.proofs.Doing.{then_done}
use Rattle.jc_card.proofs.card.Card.ask.Goals as goal

pub returns-then-agrees : goal.returns-then-agrees
returns-then-agrees c card h =
    let k = c.args.command.now in
    then_done c.call_selected-ended.new.self c.process.new.self (ReadsEnded c.call_selected-ended.result)
    (ReadsResponse c.process.result) (call_selected card Select) (λ d e. asked d k e)
    (c.call_selected-ended.ensures card h)
    (λ d e i r.
    subst (λ (b : Bool). IsDone c.process.new.self (ReadsResponse c.process.result) (cond b (process d k true)
    (refused d))) (sym c.if-agrees.true ∙ c.agrees.ensures e r) (c.process.ensures d i))
