use Rattle.std.proofs.Common.{arith, refl, sym, add-zero, ap, ◌∙◌, ◌++◌, ◌+◌}
use Rattle.jc_run.proofs.Ending.{end_plays, none_told}
use Rattle.jc_run.proofs.Playing.{at_end, begun, handed_end, one_more, plays_from_as, same_self, same_through, turn_as}
use Rattle.jc_run.proofs.Running.{played_on}
use Rattle.jc_run.proofs.Unread.{calls_on, unreadable, unwritable_later}
use Rattle.jc_run.specs.Performs.{PlaysOn}
use Rattle.jc_script.specs.Reading.{pending}
use Rattle.jc_run.proofs.run.play.Goals as goal

pub loop-number-init : goal.loop-number-init
loop-number-init g c = (
  omega arith,
  refl,
  refl,
  same_self _,
  same_self _,
  refl,
  sym (ap (λ n. g.R.Input.calls c.args.reader.now + n) c.new-lines.ensures.calls ∙ add-zero _),
  refl,
  omega arith,
  λ t bytes before h is known.
      begun _ _ _ _ _ t bytes before _ _ _ h (rw (c.new-lines.ensures.unread, is) refl) known,
)

pub loop-number-preserved : goal.loop-number-preserved
loop-number-preserved g c =
    let v = c.loop-number.invariant in
    let p = c.in_ok-play_next.ensures in (
      omega (arith, c.loop-number-test.true),
      p.none_failed ∙ v.1,
      p.none_short ∙ v.2,
      same_through _ _ _ v.3 p.same_images,
      same_through _ _ _ v.4 p.same_certificates,
      p.working ∙ v.5,
      calls_on _ _ _ _ _ v.6 p.called,
      p.written ∙ v.7,
      omega (arith, v.8, p.writes),
      λ t bytes before h is known.
          let so_far = v.9 t bytes before h is known in
          one_more _ _ _ _ _ t bytes before
          {rest = pending c.play_next.new.lines.unread (g.R.Input.remaining c.play_next.new.reader)} so_far
          (turn_as _ _ _ _ v.3 v.4 ((rw c.if-not-branch.false at p.done)
          so_far.card so_far.rest (before ++ so_far.written) so_far.holds so_far.left_is so_far.now_is)),
    )

pub returns-then-not-branch-clause-played : goal.returns-then-not-branch-clause-played
returns-then-not-branch-clause-played g c = λ t bytes before h is known.
    let v = c.loop-number.invariant in
    let p = c.in_ok-play_next.ensures in
    let so_far = v.9 t bytes before h is known in
    played_on _ _ _ (at_end _ _ _ _ _ t bytes before c.play_next.new.source c.play_next.new.reader
    c.play_next.new.writer so_far
    (plays_from_as _ _ _ _ v.3 v.4 (unreadable _ _ _ _ _ _ _ _ v.6 p.called v.5)
    (unwritable_later _ _ _ _ _ _ v.8 v.7) ((rw (c.if-not-branch.true, v.2) at p.done)
    so_far.card so_far.rest (before ++ so_far.written) so_far.holds so_far.left_is so_far.now_is)))

pub returns-in_err-play_next-clause-played : goal.returns-in_err-play_next-clause-played
returns-in_err-play_next-clause-played g c = λ t bytes before h is known.
    let v = c.loop-number.invariant in
    let p = c.in_err-play_next.ensures in
    let so_far = v.9 t bytes before h is known in
    handed_end _ _ (PlaysOn _ _ _ _ bytes t before _) c.from_residual.ensures.1
    (played_on _ _ _ (at_end _ _ _ _ _ t bytes before c.play_next.new.source c.play_next.new.reader
    c.play_next.new.writer so_far
    (plays_from_as _ _ _ _ v.3 v.4 (unreadable _ _ _ _ _ _ _ _ v.6 p.called v.5)
    (unwritable_later _ _ _ _ _ _ v.8 v.7) ((rw v.2 at p.ended)
    so_far.card so_far.rest (before ++ so_far.written) so_far.holds so_far.left_is so_far.now_is))))

pub returns-clause-played : goal.returns-clause-played
returns-clause-played g c = λ t bytes before h is known.
    let v = c.loop-number.invariant in
    let p = c.play_end.ensures in
    let so_far = v.9 t bytes before h is known in
    played_on _ _ _ (at_end _ _ _ _ _ t bytes before c.loop-number.source c.play_end.new.reader
    c.loop-number.writer so_far
    (plays_from_as _ _ _ _ (same_self _) (same_self _) (unreadable _ _ _ _ _ _ _ _ v.6 p.called v.5)
    (λ why. why) (end_plays _ _ _ _ _ so_far.rest so_far.card _ _ (none_told refl) _
    (p.ended so_far.rest so_far.left_is) so_far.now_is)))
