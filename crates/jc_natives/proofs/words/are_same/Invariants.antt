use Rattle.std.proofs.Common.{◌≡◌, true, false, take}
use Rattle.jc_natives.proofs.words.are_same.Given as goal

abbrev pub invariant-loop-at : goal.invariant-loop-at
invariant-loop-at l = record {
  yes : l.same ≡ true → take l.at l.one ≡ take l.at l.other;
  no : l.same ≡ false → take l.at l.one ≡ take l.at l.other → ⊥;
}
