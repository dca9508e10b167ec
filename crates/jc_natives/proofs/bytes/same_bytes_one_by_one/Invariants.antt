use Rattle.std.proofs.Common.{◌≡◌, ◌+◌, ◌-◌, bytes_eq}
use Rattle.jc_natives.specs.PrivateCells.{bytes_of}
use Rattle.jc_natives.proofs.bytes.same_bytes_one_by_one.Given as goal

abbrev pub invariant-loop-at : goal.invariant-loop-at
invariant-loop-at l =
    bytes_eq (bytes_of l.store.objects l.one l.one_from l.count) (bytes_of l.store.objects l.other l.other_from l.count)
    ≡ bytes_eq (bytes_of l.store.objects l.one (l.one_from + l.at) (l.count - l.at))
    (bytes_of l.store.objects l.other (l.other_from + l.at) (l.count - l.at))
