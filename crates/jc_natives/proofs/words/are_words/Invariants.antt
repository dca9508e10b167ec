use Rattle.std.proofs.Common.{◌≡◌, bytes_eq, map, drop}
use Rattle.jc_natives.specs.Cells.{low}
use Rattle.jc_natives.proofs.words.are_words.Given as goal

abbrev pub invariant-loop-at : goal.invariant-loop-at
invariant-loop-at l = bytes_eq l.bytes (map low l.words) ≡ bytes_eq (drop l.at l.bytes) (map low (drop l.at l.words))
