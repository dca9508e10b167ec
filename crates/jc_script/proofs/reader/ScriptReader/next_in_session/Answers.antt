use Rattle.std.proofs.Common.{ap, sym, refl}
use Rattle.jc_script.specs.Reading.{pending}
use Rattle.jc_script.specs.declared.reader.NextLine.TheVariants as next
use Rattle.jc_script.proofs.Skips.{told_skipped}
use Rattle.jc_script.proofs.reader.ScriptReader.next_in_session.Goals as goal

pub returns-in_ok-skip_rest-in-Bad-clause-told : goal.returns-in_ok-skip_rest-in-Bad-clause-told
returns-in_ok-skip_rest-in-Bad-clause-told g c =
    rw (ap (λ v. v.unread) (sym c.self.view_is))
    (told_skipped c.next_short.new.self.line _ _
    (pending c.next_short.new.self.unread (g.R.Input.remaining c.next_short.new.reader)) _ next.Bad refl
    (rw c.in-Bad.is at c.in_ok-next_short.ensures.read) c.in_ok-skip_rest-in-Bad.ensures.skipped)
