use Rattle.std.proofs.Common.{◌≡◌, ◌++◌, take}
use Rattle.jc_program.proofs.classes.Classes.put_all.Given as goal

abbrev pub invariant-loop-at : goal.invariant-loop-at
invariant-loop-at l = l.self ≡ l.fn.self ++ take l.at l.names
