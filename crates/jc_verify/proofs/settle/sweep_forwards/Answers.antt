use Rattle.std.proofs.lemmas.Result.{err_from_is_err_and}
use Rattle.jc_verify.proofs.Denying.{denies_on}
use Rattle.jc_verify.proofs.Settling.{swept_none, swept_one, swept_work}
use Rattle.jc_verify.proofs.Tallying.{counted_none, counted_through}
use Rattle.jc_verify.proofs.settle.sweep_forwards.Goals as goal

pub loop-number-init : goal.loop-number-init
loop-number-init c = record {
  swept = swept_none c.args.flow.now.linked.now c.requires.work.sound.laws c.args.flow.now.method.now c.args.flow.now.numbers.now 0 c.args.places.now;
  counted = counted_none c.args.flow.now.linked.now c.args.places.now c.args.followed.now;
  room = c.requires.room;
}

pub follow_place-requires-clause-work : goal.follow_place-requires-clause-work
follow_place-requires-clause-work c = swept_work c.requires.work c.loop-number.invariant.swept

pub loop-number-preserved : goal.loop-number-preserved
loop-number-preserved c = record {
  swept =
      swept_one c.args.flow.now.linked.now c.requires.work.sound.laws c.args.flow.now.method.now c.args.flow.now.numbers.now c.loop-number.number c.args.places.now c.loop-number.places c.follow_place.new.places c.loop-number.invariant.swept
      c.in_ok-follow_place.ensures.followed;
  counted =
      counted_through c.args.flow.now.linked.now 0 0 c.args.places.now c.loop-number.places c.follow_place.new.places
      c.args.followed.now c.loop-number.followed c.follow_place.new.followed c.loop-number.invariant.counted
      c.in_ok-follow_place.ensures.counted;
  room = c.in_ok-follow_place.ensures.room;
}

pub returns-in_err-follow_place-clause-refused : goal.returns-in_err-follow_place-clause-refused
returns-in_err-follow_place-clause-refused c =
    let p = err_from_is_err_and c.from_residual.result c.from_residual.ensures.1 in
    rw (p.1, p.2) (denies_on c.in_err-follow_place.ensures.refused (λ typing carrier under any. (c.loop-number.invariant.swept.under typing carrier.upper under, tt)))
