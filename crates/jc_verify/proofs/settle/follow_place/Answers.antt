use Rattle.std.proofs.lemmas.Option.{slice_get-get_or}
use Rattle.jc_verify.proofs.Denying.{denies_on}
use Rattle.jc_verify.proofs.Settling.{fits_place, none_taken, one_taken, room_taken, taken_bears, taken_flows, taken_under, taken_work}
use Rattle.jc_verify.proofs.Tallying.{followed_counted, none_counted}
use Rattle.jc_verify.proofs.Visiting.{if_err, if_ok}
use Rattle.jc_verify.proofs.settle.follow_place.Goals as goal

pub take_up-requires : goal.take_up-requires
take_up-requires c = record { fits = fits_place c.args.number c.requires.work c.requires.room.state (slice_get-get_or c.args.places.now c.args.number c.index-places-number.result c.requires.there) }

pub follow-requires-clause-work : goal.follow-requires-clause-work
follow-requires-clause-work c = taken_work c.requires.work c.args.number (slice_get-get_or c.args.places.now c.args.number c.index-places-number.result c.requires.there) c.in-Some.ensures.taken

pub follow-requires-clause-flows : goal.follow-requires-clause-flows
follow-requires-clause-flows c = taken_flows c.requires.work c.args.number (slice_get-get_or c.args.places.now c.args.number c.index-places-number.result c.requires.there) c.in-Some.ensures.taken

pub follow-requires-clause-room : goal.follow-requires-clause-room
follow-requires-clause-room c = room_taken c.requires.room c.take_up.ensures.room c.take_up.ensures.locals

pub returns-in-Some-clause-followed : goal.returns-in-Some-clause-followed
returns-in-Some-clause-followed c =
    let at = slice_get-get_or c.args.places.now c.args.number c.index-places-number.result c.requires.there in
    if_ok c.follow.result _ _ c.follow.ensures.taken (λ u t. one_taken c.requires.work c.args.number at c.in-Some.ensures.taken t)

pub returns-in-Some-clause-counted : goal.returns-in-Some-clause-counted
returns-in-Some-clause-counted c =
    let at = slice_get-get_or c.args.places.now c.args.number c.index-places-number.result c.requires.there in
    let taken = c.in-Some.ensures.taken in
    if_ok c.follow.result _ _ c.follow.ensures.taken (λ u t.
    followed_counted c.args.flow.now.linked.now _ c.requires.work.sound.laws c.args.flow.now.method.now
    c.args.places.now c.args.number c.take_up.new.place _ at c.in-Some.ensures.changed taken.1 taken.2
    c.follow.new.places c.args.followed.now c.follow.new.followed t.grown.steps c.follow.ensures.counted)

pub returns-in-None-clause-counted : goal.returns-in-None-clause-counted
returns-in-None-clause-counted c =
    let at = slice_get-get_or c.args.places.now c.args.number c.index-places-number.result c.requires.there in
    none_counted c.args.flow.now.linked.now _ c.args.places.now c.args.number c.take_up.new.place at
    c.in-None.ensures.left c.args.followed.now

pub returns-in-None-clause-followed : goal.returns-in-None-clause-followed
returns-in-None-clause-followed c =
    let at = slice_get-get_or c.args.places.now c.args.number c.index-places-number.result c.requires.there in
    none_taken c.args.flow.now.linked.now c.requires.work.sound.laws c.args.flow.now.method.now c.args.flow.now.numbers.now c.args.places.now c.args.number _ c.take_up.new.place at c.in-None.ensures.left

pub returns-in-None-clause-room : goal.returns-in-None-clause-room
returns-in-None-clause-room c = room_taken c.requires.room c.take_up.ensures.room c.take_up.ensures.locals

pub returns-in-Some-clause-refused : goal.returns-in-Some-clause-refused
returns-in-Some-clause-refused c =
    let at = slice_get-get_or c.args.places.now c.args.number c.index-places-number.result c.requires.there in
    let taken = c.in-Some.ensures.taken in
    if_err c.follow.result _ _ c.follow.ensures.refused (λ fault refused.
    denies_on refused (λ typing carrier under any. (taken_under c.requires.work c.args.number at taken under, taken_bears c.requires.work c.args.number at taken carrier.upper under)))
