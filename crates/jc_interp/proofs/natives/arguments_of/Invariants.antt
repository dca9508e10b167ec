use Rattle.std.proofs.Common.{◌≡◌, ◌+◌, ◌≤◌, ◌∷◌, ◌++◌, drop, length}
use Rattle.jc_interp.proofs.natives.arguments_of.Given as goal

abbrev pub invariant-loop-word : goal.invariant-loop-word
invariant-loop-word l = record {
  words :
      l.arguments.items ++ drop l.word-index l.callback.arguments.items
      ≡ l.callback.object ∷ l.callback.arguments.items;
  count : length l.arguments.items ≡ l.word-index + 1;
  few : length l.callback.arguments.items ≤ 3;
}
