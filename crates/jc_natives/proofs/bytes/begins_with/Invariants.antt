use Rattle.std.proofs.Common.{◌≡◌, ◌+◌, ◌-◌, bytes_eq, drop, length}
use Rattle.jc_natives.specs.PrivateCells.{bytes_of}
use Rattle.jc_natives.proofs.bytes.begins_with.Given as goal

abbrev pub invariant-loop-at : goal.invariant-loop-at
invariant-loop-at l =
    bytes_eq l.bytes (bytes_of l.store.objects l.number l.from (length l.bytes))
    ≡ bytes_eq (drop l.at l.bytes) (bytes_of l.store.objects l.number (l.from + l.at) (length l.bytes - l.at))
