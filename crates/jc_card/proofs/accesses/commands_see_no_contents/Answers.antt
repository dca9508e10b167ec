use Rattle.jc_card.proofs.UnseenCommands.{apdu_unseen, install_unseen, load_unseen, reset_unseen}
use Rattle.jc_card.proofs.accesses.commands_see_no_contents.Goals as goal

pub returns-clause-apdu : goal.returns-clause-apdu
returns-clause-apdu c = λ card p bytes context l e out heap alike.
    let done = apdu_unseen context c.steps_are_guarded.ensures card p bytes heap alike l e out in
    record { heap = done.heap; alike = done.alike; is = done.is }

pub returns-clause-install : goal.returns-clause-install
returns-clause-install c = λ card p applet instance incoming context l e out heap alike.
    let done = install_unseen context c.steps_are_guarded.ensures card p applet instance incoming heap alike l e out in
    record { heap = done.heap; alike = done.alike; is = done.is }

pub returns-clause-reset : goal.returns-clause-reset
returns-clause-reset c = λ card context l e out heap alike.
    let done = reset_unseen context card heap alike l e out in
    record { heap = done.heap; alike = done.alike; is = done.is }

pub returns-clause-load : goal.returns-clause-load
returns-clause-load c = λ card after image certificate result is context heap alike.
    load_unseen context card heap alike image certificate result after is
