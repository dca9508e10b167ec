use Rattle.std.proofs.Common.{◌≡◌, bytes_eq, map, drop}
use Rattle.jc_natives.specs.Cells.{low}
use Rattle.jc_natives.proofs.words.are_same_words.Given as goal

abbrev pub invariant-loop-at : goal.invariant-loop-at
invariant-loop-at l =
    bytes_eq (map low l.one) (map low l.other) ≡ bytes_eq (map low (drop l.at l.one)) (map low (drop l.at l.other))
