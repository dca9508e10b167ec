use Rattle.std.proofs.Common.{arith}
use Rattle.std.proofs.lemmas.Option.{slice_get_within}
use Rattle.std.proofs.lemmas.Result.{err_from_is_err_and}
use Rattle.jc_verify.proofs.Denying.{denies_on}
use Rattle.jc_verify.proofs.Growing.{risen_self, risen_through}
use Rattle.jc_verify.proofs.Settling.{swept_again, swept_work}
use Rattle.jc_verify.proofs.Tallying.{counted_none, counted_through, none_owed}
use Rattle.jc_verify.proofs.settle.settle.Goals as goal

pub loop-places-init : goal.loop-places-init
loop-places-init c = grind (arith, risen_self, counted_none)

pub sweep_backwards-requires-clause-work : goal.sweep_backwards-requires-clause-work
sweep_backwards-requires-clause-work c = swept_work c.loop-places.invariant.work c.in_ok-sweep_forwards.ensures.swept

pub returns-then-not-has_changed-clause-settled : goal.returns-then-not-has_changed-clause-settled
returns-then-not-has_changed-clause-settled c =
    let before = c.loop-places.invariant in
    let swept = swept_again c.args.flow.now.linked.now c.requires.work.sound.laws c.args.flow.now.method.now c.args.flow.now.numbers.now _ _ c.loop-places.places c.sweep_forwards.new.places c.sweep_backwards.new.places c.in_ok-sweep_forwards.ensures.swept c.in_ok-sweep_backwards.ensures.swept in
    record {
      risen = risen_through c.args.flow.now.linked.now c.requires.work.sound.laws c.args.flow.now.method.now c.args.flow.now.numbers.now c.args.places.now c.loop-places.places c.sweep_backwards.new.places before.risen swept.risen;
      under = λ typing upper under. swept.under typing upper (before.under typing upper under);
      reached = swept.reached before.work.reached;
      closed = λ n p t at held. swept.settled before.settled n p t at (c.has_changed.ensures.none c.if-not-has_changed.true n p at) held;
    }

pub returns-then-not-has_changed-clause-counted : goal.returns-then-not-has_changed-clause-counted
returns-then-not-has_changed-clause-counted c =
    counted_through c.args.flow.now.linked.now 0 0 c.args.places.now c.loop-places.places c.sweep_backwards.new.places
    c.args.followed.now c.loop-places.followed c.sweep_backwards.new.followed c.loop-places.invariant.counted
    (counted_through c.args.flow.now.linked.now 0 0 c.loop-places.places c.sweep_forwards.new.places
    c.sweep_backwards.new.places c.loop-places.followed c.sweep_forwards.new.followed c.sweep_backwards.new.followed
    c.in_ok-sweep_forwards.ensures.counted c.in_ok-sweep_backwards.ensures.counted)

pub returns-then-not-has_changed-clause-done : goal.returns-then-not-has_changed-clause-done
returns-then-not-has_changed-clause-done c =
    none_owed c.args.flow.now.linked.now c.sweep_backwards.new.places
    (c.has_changed.ensures.none c.if-not-has_changed.true)

pub loop-places-smaller : goal.loop-places-smaller
loop-places-smaller c = grind (arith, swept_again, slice_get_within)

pub loop-places-preserved : goal.loop-places-preserved
loop-places-preserved c =
    let before = c.loop-places.invariant in
    let swept = swept_again c.args.flow.now.linked.now c.requires.work.sound.laws c.args.flow.now.method.now c.args.flow.now.numbers.now _ _ c.loop-places.places c.sweep_forwards.new.places c.sweep_backwards.new.places c.in_ok-sweep_forwards.ensures.swept c.in_ok-sweep_backwards.ensures.swept in
    record {
      risen = risen_through c.args.flow.now.linked.now c.requires.work.sound.laws c.args.flow.now.method.now c.args.flow.now.numbers.now c.args.places.now c.loop-places.places c.sweep_backwards.new.places before.risen swept.risen;
      under = λ typing upper under. swept.under typing upper (before.under typing upper under);
      work = swept_work before.work swept;
      settled = swept.settled before.settled;
      counted =
          counted_through c.args.flow.now.linked.now 0 0 c.args.places.now c.loop-places.places
          c.sweep_backwards.new.places c.args.followed.now c.loop-places.followed c.sweep_backwards.new.followed
          before.counted
          (counted_through c.args.flow.now.linked.now 0 0 c.loop-places.places c.sweep_forwards.new.places
          c.sweep_backwards.new.places c.loop-places.followed c.sweep_forwards.new.followed
          c.sweep_backwards.new.followed c.in_ok-sweep_forwards.ensures.counted
          c.in_ok-sweep_backwards.ensures.counted);
      room = c.in_ok-sweep_backwards.ensures.room;
    }

pub returns-in_err-sweep_forwards-clause-refused : goal.returns-in_err-sweep_forwards-clause-refused
returns-in_err-sweep_forwards-clause-refused c =
    let p = err_from_is_err_and c.from_residual.result c.from_residual.ensures.1 in
    rw (p.1, p.2) (denies_on c.in_err-sweep_forwards.ensures.refused (λ typing carrier under any. (c.loop-places.invariant.under typing carrier.upper under, tt)))

pub returns-in_err-sweep_backwards-clause-refused : goal.returns-in_err-sweep_backwards-clause-refused
returns-in_err-sweep_backwards-clause-refused c =
    let p = err_from_is_err_and c.from_residual-in_err-sweep_backwards.result c.from_residual-in_err-sweep_backwards.ensures.1 in
    rw (p.1, p.2) (denies_on c.in_err-sweep_backwards.ensures.refused (λ typing carrier under any.
    (c.in_ok-sweep_forwards.ensures.swept.under typing carrier.upper (c.loop-places.invariant.under typing carrier.upper under), tt)))
