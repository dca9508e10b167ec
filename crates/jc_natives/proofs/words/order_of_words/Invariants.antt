use Rattle.std.proofs.Common.{◌≡◌, map, drop}
use Rattle.jc_natives.specs.Cells.{low, order_of}
use Rattle.jc_natives.proofs.words.order_of_words.Given as goal

abbrev pub invariant-loop-at : goal.invariant-loop-at
invariant-loop-at l =
    order_of (map low l.one) (map low l.other) ≡ order_of (map low (drop l.at l.one)) (map low (drop l.at l.other))
