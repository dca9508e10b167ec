use Rattle.jc_script.proofs.Lines.{at_end, ended, goes_on, long_line}
use Rattle.jc_script.proofs.reader.ScriptReader.next_short.Goals as goal

pub returns-in-Ended-clause-read : goal.returns-in-Ended-clause-read
returns-in-Ended-clause-read g c =
    ended _ (g.R.Input.remaining c.loop-self.reader) c.loop-self.self c.take_part.new.self c.loop-self.invariant.0
    c.in-Ended.ensures.part

pub returns-in-TooLong-clause-read : goal.returns-in-TooLong-clause-read
returns-in-TooLong-clause-read g c =
    long_line _ (g.R.Input.remaining c.loop-self.reader) c.loop-self.self c.take_part.new.self c.loop-self.invariant.0
    c.in-TooLong.ensures.part

pub returns-then-not-branch-clause-read : goal.returns-then-not-branch-clause-read
returns-then-not-branch-clause-read g c =
    let filled = c.in_ok-fill.ensures.filled in
    let end = filled.ended c.if-not-branch.true in
    let left = g.R.Input.remaining in
    let so_far = goes_on _ (left c.loop-self.reader) (left c.fill.new.reader) c.loop-self.self c.take_part.new.self
    c.fill.new.self.unread c.fill.new.self.line c.loop-self.invariant.0 c.in-GoesOn.ensures.part filled.came
    c.in_ok-fill.ensures.line in
    rw c.last.ensures.told (at_end _ (left c.fill.new.reader) c.fill.new.self.line c.fill.new.self.unread
    so_far end.0 end.1 c.last.ensures.short)
