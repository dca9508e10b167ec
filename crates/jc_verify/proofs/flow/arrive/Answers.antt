use Rattle.std.proofs.Common.{arith}
use Rattle.std.proofs.lemmas.Option.{slice_get-get_or}
use Rattle.jc_verify.proofs.Arriving.{in_room, low_enough}
use Rattle.jc_verify.proofs.Taking.{refused_at, taken_at}
use Rattle.jc_verify.proofs.Visiting.{if_err, if_ok_five}
use Rattle.jc_verify.proofs.flow.arrive.Goals as goal

pub returns-clause-taken : goal.returns-clause-taken
returns-clause-taken c =
    let at = slice_get-get_or c.args.places.now c.args.number c.index-places-number.result c.requires.flows.within in
    let shape = in_room c.args.flow.now.method.now c.args.state.now c.requires.room (omega (arith, c.depth-depth.ensures.depth, c.depth-depth.ensures.room)) in
    let low = low_enough c.args.flow.now.linked.now c.requires.work.sound.laws c.args.flow.now.method.now c.args.state.now.types shape in
    let step = rw c.table.ensures.table at c.take_in.ensures.step in
    let holds = rw c.table.ensures.table at c.take_in.ensures.holds in
    let least = rw c.table.ensures.table at c.take_in.ensures.least in
    let taken = rw c.table.ensures.table at c.take_in.ensures.taken in
    if_ok_five c.take_in.result _ _ _ _ _ _ step holds least taken c.take_in.ensures.same (λ u step holds least taken same.
    taken_at c.requires.work at c.args.state.now (step _ low) holds least taken same shape (c.requires.flows.flows _ at))

pub returns-clause-refused : goal.returns-clause-refused
returns-clause-refused c = grind (arith, slice_get-get_or, if_err, refused_at)
