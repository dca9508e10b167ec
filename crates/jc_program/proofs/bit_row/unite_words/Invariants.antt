use Rattle.std.proofs.Common.{◌≡◌, length}
use Rattle.jc_program.specs.PrivateBitRow.{AreUnited}
use Rattle.jc_program.proofs.Rowing.{bits_before}
use Rattle.jc_program.proofs.bit_row.unite_words.Given as goal

abbrev pub invariant-loop-at : goal.invariant-loop-at
invariant-loop-at l = record {
  count : length l.words ≡ length l.initial.words;
  united : AreUnited (bits_before l.more l.at) l.initial.words l.words l.changed;
}
