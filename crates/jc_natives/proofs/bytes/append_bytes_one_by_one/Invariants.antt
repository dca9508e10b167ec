use Rattle.std.proofs.Common.{◌≡◌, ◌+◌, ◌-◌, ◌++◌, length}
use Rattle.jc_natives.specs.PrivateCells.{bytes_of}
use Rattle.jc_natives.proofs.bytes.append_bytes_one_by_one.Given as goal

abbrev pub invariant-loop-at : goal.invariant-loop-at
invariant-loop-at l = record {
  items : l.bytes.items ++ bytes_of l.store.objects l.number (l.from + l.at) (l.count - l.at)
      ≡ l.fn.bytes.items ++ bytes_of l.store.objects l.number l.from l.count;
  room : length l.bytes.items ≡ length l.fn.bytes.items + l.at;
}
