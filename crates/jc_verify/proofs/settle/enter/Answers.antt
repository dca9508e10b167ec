use Rattle.std.proofs.Common.{true, arith}
use Rattle.jc_verify.proofs.Denying.{denial_of, denies_on, refuses_on}
use Rattle.jc_verify.proofs.Reaching.{never_met, reaches_entry}
use Rattle.jc_verify.proofs.Tallying.{counted_through, grown_counted, once_counted}
use Rattle.jc_verify.proofs.Taking.{blank_work, taken_as, taken_then}
use Rattle.jc_verify.proofs.Visiting.{if_err, if_ok}
use Rattle.jc_verify.proofs.settle.enter.Goals as goal

pub flow_to-requires-clause-work : goal.flow_to-requires-clause-work
flow_to-requires-clause-work c = blank_work c.requires.blank

pub flow_to-requires-clause-flows : goal.flow_to-requires-clause-flows
flow_to-requires-clause-flows c = rw c.requires.entry (reaches_entry c.requires.blank.sound)

pub follow-requires-clause-flows : goal.follow-requires-clause-flows
follow-requires-clause-flows c = rw c.requires.entry (reaches_entry c.requires.blank.sound)

pub returns-in-Ok-true-clause-taken : goal.returns-in-Ok-true-clause-taken
returns-in-Ok-true-clause-taken c =
    let first = rw (c.in-Ok-true.field-0-test, c.requires.entry) at c.in-Ok-true.ensures.taken in
    if_ok c.follow.result _ _ c.follow.ensures.taken (λ u taken.
    let more = rw c.requires.entry at taken in
    taken_as (taken_then first more) (λ typing (falls, closed). record { on = true; falls = falls; closed = closed }) (λ typing upper. (upper.entry, record { upper = upper; leads = upper.entry })))

pub returns-in-Ok-true-clause-counted : goal.returns-in-Ok-true-clause-counted
returns-in-Ok-true-clause-counted c =
    let l = c.args.flow.now.linked.now in
    let laws = c.requires.blank.sound.laws in
    let m = c.args.flow.now.method.now in
    let count = c.args.followed.now in
    let grown = c.in-Ok-true.ensures.taken.grown in
    if_ok c.follow.result _ _ c.follow.ensures.taken (λ u taken.
    counted_through l 0 1 c.args.places.now c.flow_to.new.places c.follow.new.places count count c.follow.new.followed
    (grown_counted l laws m 0 c.args.places.now c.flow_to.new.places count grown.steps)
    (once_counted l laws m c.flow_to.new.places c.follow.new.places count c.follow.new.followed taken.grown.steps
    c.follow.ensures.counted))

pub returns-in-Ok-false-clause-counted : goal.returns-in-Ok-false-clause-counted
returns-in-Ok-false-clause-counted c =
    grown_counted c.args.flow.now.linked.now c.requires.blank.sound.laws c.args.flow.now.method.now 1 c.args.places.now
    c.flow_to.new.places c.args.followed.now c.in-Ok-false.ensures.taken.grown.steps

pub returns-in-Ok-false-clause-taken : goal.returns-in-Ok-false-clause-taken
returns-in-Ok-false-clause-taken c = grind (arith, taken_as)

pub returns-in-Ok-true-clause-refused : goal.returns-in-Ok-true-clause-refused
returns-in-Ok-true-clause-refused c =
    let first = rw c.requires.entry at c.in-Ok-true.ensures.taken in
    if_err c.follow.result _ _ c.follow.ensures.refused (λ fault refused.
    let later = rw c.requires.entry at refused in
    denies_on later (λ typing carrier under any. (first.least typing under carrier.upper.entry, record { upper = carrier.upper; leads = carrier.upper.entry })))

pub returns-in-Err-clause-refused : goal.returns-in-Err-clause-refused
returns-in-Err-clause-refused c = grind (arith, denial_of, refuses_on, never_met)
