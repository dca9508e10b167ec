use Rattle.jc_interp.proofs.MadeArrays.{tells_room}
use Rattle.jc_interp.proofs.making.has_room_for.Goals as goal

pub returns : goal.returns
returns c =
    tells_room c.args.store.now.objects c.args.objects c.args.cells c.objects_used.result c.cells_used.result
    c.args.body.now c.arrays_of.result.now c.do_fit.result c.objects_used.ensures.objects c.cells_used.ensures
    c.arrays_of.ensures c.do_fit.ensures
