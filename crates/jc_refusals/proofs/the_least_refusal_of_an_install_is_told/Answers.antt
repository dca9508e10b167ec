use Rattle.jc_refusals.proofs.Installing.{is_refused, told_is_least}
use Rattle.jc_refusals.proofs.the_least_refusal_of_an_install_is_told.Goals as goal

pub returns-clause-told : goal.returns-clause-told
returns-clause-told c card applet instance incoming l fault e is once =
    told_is_least card applet instance incoming l fault is once e

pub returns-clause-refused : goal.returns-clause-refused
returns-clause-refused c card applet instance incoming fault applies =
    is_refused card applet instance incoming fault applies
