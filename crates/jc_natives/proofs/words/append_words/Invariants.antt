use Rattle.std.proofs.Common.{◌≡◌, ◌+◌, ◌++◌, length, map, drop}
use Rattle.jc_natives.specs.Cells.{low}
use Rattle.jc_natives.proofs.words.append_words.Given as goal

abbrev pub invariant-loop-at : goal.invariant-loop-at
invariant-loop-at l = record {
  items : l.bytes.items ++ map low (drop l.at l.words) ≡ l.fn.bytes.items ++ map low l.words;
  room : length l.bytes.items ≡ length l.fn.bytes.items + l.at;
}
