use Rattle.jc_card.proofs.card.Card.apdu.Goals as goal

pub returns-in-Some-clause-guarded : goal.returns-in-Some-clause-guarded
returns-in-Some-clause-guarded c = λ card held. c.commands_are_guarded.ensures.apdu card c.args.bytes.now

pub returns-in-None-clause-guarded : goal.returns-in-None-clause-guarded
returns-in-None-clause-guarded c = λ card held. c.commands_are_guarded.ensures.apdu card c.args.bytes.now

pub returns-in-Some-clause-apart : goal.returns-in-Some-clause-apart
returns-in-Some-clause-apart c = λ card held apart. c.commands_stay_apart.ensures.apdu card apart c.args.bytes.now

pub returns-in-None-clause-apart : goal.returns-in-None-clause-apart
returns-in-None-clause-apart c = λ card held apart. c.commands_stay_apart.ensures.apdu card apart c.args.bytes.now
