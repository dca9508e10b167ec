use Rattle.std.proofs.Common.{◌≡◌, ◌+◌, drop}
use Rattle.jc_natives.specs.Cells.{put_all}
use Rattle.jc_natives.proofs.bytes.put_bytes_one_by_one.Given as goal
use Rattle.jc_store.specs.Store.{with_objects}

abbrev pub invariant-loop-at : goal.invariant-loop-at
invariant-loop-at l =
    with_objects l.store (put_all l.store.objects l.number (l.from + l.at) (drop l.at l.bytes))
    ≡ with_objects l.fn.store (put_all l.fn.store.objects l.number l.from l.bytes)
