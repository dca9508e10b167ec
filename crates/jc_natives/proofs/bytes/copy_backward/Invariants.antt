use Rattle.std.proofs.Common.{◌≡◌, ◌+◌, ◌-◌}
use Rattle.jc_natives.specs.Cells.{put_all}
use Rattle.jc_natives.specs.PrivateCells.{bytes_of}
use Rattle.jc_natives.proofs.bytes.copy_backward.Given as goal
use Rattle.jc_store.specs.Store.{with_objects}

abbrev pub invariant-loop-done : goal.invariant-loop-done
invariant-loop-done l =
    l.store ≡ with_objects l.fn.store (put_all l.fn.store.objects l.target (l.target_from + (l.count - l.done))
    (bytes_of l.fn.store.objects l.source (l.source_from + (l.count - l.done)) l.done))
