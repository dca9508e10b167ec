use Rattle.std.proofs.Common.{ap, sym}
use Rattle.jc_script.proofs.Lines.{if_ok, told_past, told_short}
use Rattle.jc_script.proofs.reader.ScriptReader.next.Goals as goal

pub returns-then-number-le-MOST_LINES-clause-told : goal.returns-then-number-le-MOST_LINES-clause-told
returns-then-number-le-MOST_LINES-clause-told g c =
    rw (ap (λ v. v.unread) (sym c.self.view_is))
    (if_ok _ _ c.next_short.result
    (told_short c.args.number c.next_short.new.self.line _ _ c.if-number-le-MOST_LINES.true) c.next_short.ensures.read)

pub returns-else-number-le-MOST_LINES-clause-told : goal.returns-else-number-le-MOST_LINES-clause-told
returns-else-number-le-MOST_LINES-clause-told g c =
    rw (ap (λ v. v.unread) (sym c.self.view_is))
    (if_ok _ _ c.next_past.result
    (told_past c.args.number c.next_past.new.self.line _ _ c.if-number-le-MOST_LINES.false) c.next_past.ensures.told)
