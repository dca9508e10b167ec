use Rattle.std.proofs.Common.{arith, refl, sym, add-zero, ap, ◌∙◌, ◌++◌, ◌+◌}
use Rattle.jc_run.proofs.Conversing.{at_end, begun, converses_from_as, none_counted, not_read, one_more, turn_as}
use Rattle.jc_run.proofs.Ending.{none_told}
use Rattle.jc_run.proofs.Holding.{held_on}
use Rattle.jc_run.proofs.Playing.{handed_end, same_self, same_through}
use Rattle.jc_run.proofs.Unread.{calls_on, unread_at, unreadable, unwritable_later}
use Rattle.jc_run.specs.EndCauses.IsUnreadAt.{last, source}
use Rattle.jc_run.specs.Session.{ConversesOn}
use Rattle.jc_script.specs.Reading.{pending}
use Rattle.jc_run.proofs.session.converse.Goals as goal

pub loop-number-init : goal.loop-number-init
loop-number-init g c = (
  omega arith,
  same_self _,
  same_self _,
  refl,
  sym (ap (λ n. g.R.Input.calls c.args.reader.now + n) c.new-lines.ensures.calls ∙ add-zero _),
  refl,
  omega arith,
  λ t bytes before h is known. begun _ _ _ _ _ t bytes before _ _ _ _ (none_counted refl refl) h
      (rw (c.new-lines.ensures.unread, is) refl) known,
)

pub loop-number-preserved : goal.loop-number-preserved
loop-number-preserved g c =
    let v = c.loop-number.invariant in
    let p = c.in_ok-converse_next.ensures in (
      omega (arith, c.loop-number-test.true),
      same_through _ _ _ v.1 p.same_images,
      same_through _ _ _ v.2 p.same_certificates,
      p.working ∙ v.3,
      calls_on _ _ _ _ _ v.4 p.called,
      p.written ∙ v.5,
      omega (arith, v.6, p.writes),
      λ t bytes before h is known.
          let so_far = v.7 t bytes before h is known in
          one_more _ _ _ _ _ t bytes before
          {rest = pending c.converse_next.new.lines.unread (g.R.Input.remaining c.converse_next.new.reader)} so_far
          (turn_as _ _ _ _ v.1 v.2 ((rw c.if-not-branch.false at p.done)
          so_far.card so_far.rest (before ++ so_far.written) so_far.holds so_far.left_is so_far.now_is)),
    )

pub returns-then-has_most_faults-clause-held : goal.returns-then-has_most_faults-clause-held
returns-then-has_most_faults-clause-held g c = λ t bytes before h is known.
    let so_far = c.loop-number.invariant.7 t bytes before h is known in
    held_on _ _ _ (at_end _ _ _ _ _ t bytes before c.loop-number.source c.loop-number.reader
    c.loop-number.writer so_far
    (not_read _ _ _ _ _ so_far.card _ so_far.rest _ _ (none_counted refl refl) (none_told refl)
    (source (c.has_most_faults.ensures.most c.if-has_most_faults.true)) so_far.now_is))

pub returns-then-not-branch-clause-held : goal.returns-then-not-branch-clause-held
returns-then-not-branch-clause-held g c = λ t bytes before h is known.
    let v = c.loop-number.invariant in
    let p = c.in_ok-converse_next.ensures in
    let so_far = v.7 t bytes before h is known in
    held_on _ _ _ (at_end _ _ _ _ _ t bytes before c.converse_next.new.source c.converse_next.new.reader
    c.converse_next.new.writer so_far
    (converses_from_as _ _ _ _ v.1 v.2 (λ n why. unread_at n (unreadable _ _ _ _ _ _ _ _ v.4 p.called v.3 why))
    (unwritable_later _ _ _ _ _ _ v.6 v.5)
    ((rw c.if-not-branch.true at p.done)
    so_far.card so_far.rest (before ++ so_far.written) so_far.holds so_far.left_is so_far.now_is)))

pub returns-in_err-converse_next-clause-held : goal.returns-in_err-converse_next-clause-held
returns-in_err-converse_next-clause-held g c = λ t bytes before h is known.
    let v = c.loop-number.invariant in
    let p = c.in_err-converse_next.ensures in
    let so_far = v.7 t bytes before h is known in
    handed_end _ _ (ConversesOn _ _ _ _ _ bytes t before _) c.from_residual.ensures.1
    (held_on _ _ _ (at_end _ _ _ _ _ t bytes before c.converse_next.new.source c.converse_next.new.reader
    c.converse_next.new.writer so_far
    (converses_from_as _ _ _ _ v.1 v.2 (λ n why. unread_at n (unreadable _ _ _ _ _ _ _ _ v.4 p.called v.3 why))
    (unwritable_later _ _ _ _ _ _ v.6 v.5)
    (p.ended so_far.card so_far.rest (before ++ so_far.written) so_far.holds so_far.left_is so_far.now_is))))

pub returns-clause-held : goal.returns-clause-held
returns-clause-held g c = λ t bytes before h is known.
    let so_far = c.loop-number.invariant.7 t bytes before h is known in
    held_on _ _ _ (at_end _ _ _ _ _ t bytes before c.loop-number.source c.loop-number.reader
    c.loop-number.writer so_far
    (not_read _ _ _ _ _ so_far.card _ so_far.rest _ _ (none_counted refl refl) (none_told refl)
    (last (omega (arith, c.loop-number.invariant.0, c.loop-number-test.false))) so_far.now_is))
