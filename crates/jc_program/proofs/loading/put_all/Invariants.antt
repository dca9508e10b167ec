use Rattle.std.proofs.Common.{◌≡◌, suc, ◌++◌, drop, map, Some}
use Rattle.jc_program.specs.Methods.{methods_from}
use Rattle.jc_program.proofs.loading.put_all.Given as goal

abbrev pub invariant-loop-at : goal.invariant-loop-at
invariant-loop-at l =
    map Some l.loaded ++ methods_from l.table (suc l.at) (drop l.at l.bodies) ≡ methods_from l.table 1 l.bodies
