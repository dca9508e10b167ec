use Rattle.std.proofs.Common.{◌≡◌, ◌*◌, drop, length, take}
use Rattle.hex.specs.Hex.{decode_pairs}
use Rattle.hex.proofs.Pairs.{prepend}
use Rattle.jc_script.proofs.digits.decode.Given as goal

abbrev pub invariant-loop-at : goal.invariant-loop-at
invariant-loop-at l = record {
  decoded : decode_pairs 0 l.word ≡ prepend (take l.at l.out) (decode_pairs (2 * l.at) (drop (2 * l.at) l.word));
  room : length l.out ≡ length l.initial.out;
}
