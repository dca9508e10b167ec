use Rattle.std.proofs.Common.{◌≡◌, ◌+◌, ◌-◌}
use Rattle.jc_natives.specs.Cells.{put_all}
use Rattle.jc_natives.specs.PrivateCells.{bytes_of}
use Rattle.jc_natives.proofs.bytes.copy_forward.Given as goal
use Rattle.jc_store.specs.Store.{with_objects}

abbrev pub invariant-loop-at : goal.invariant-loop-at
invariant-loop-at l =
    with_objects l.store (put_all l.store.objects l.target (l.target_from + l.at)
    (bytes_of l.store.objects l.source (l.source_from + l.at) (l.count - l.at)))
    ≡ with_objects l.fn.store (put_all l.fn.store.objects l.target l.target_from
    (bytes_of l.fn.store.objects l.source l.source_from l.count))
