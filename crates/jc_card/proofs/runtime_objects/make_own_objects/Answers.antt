use Rattle.std.proofs.Common.{add-one}
use Rattle.jc_card.proofs.Making.{none_yet, room_for}
use Rattle.jc_card.proofs.runtime_objects.make_own_objects.Goals as goal

pub make-requires-clause-room : goal.make-requires-clause-room
make-requires-clause-room c =
    room_for c.args.classes.now c.args.store.now c.loop-place.store c.loop-place.place c.requires.room
    c.loop-place.invariant c.loop-place-test.true

pub loop-place-init : goal.loop-place-init
loop-place-init c = none_yet c.args.classes.now c.args.store.now c.requires.objects c.requires.classes

pub loop-place-preserved : goal.loop-place-preserved
loop-place-preserved c =
    rw (add-one c.loop-place.place) (c.make.ensures.made c.args.store.now c.loop-place.invariant)
