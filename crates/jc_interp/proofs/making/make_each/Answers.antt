use Rattle.jc_interp.proofs.MadeArrays.{room_at}
use Rattle.jc_interp.proofs.making.make_each.Goals as goal

pub returns-then-not-make_array-clause-full : goal.returns-then-not-make_array-clause-full
returns-then-not-make_array-clause-full c = λ no room.
    room_at c.args.store.now c.args.number c.args.body.now c.args.arrays.now c.loop-array.array-index
    c.array-item.result c.loop-array-test.true c.array-item.is room c.loop-array.store c.loop-array.invariant
    (c.make_array.ensures.full c.if-not-make_array.true)
