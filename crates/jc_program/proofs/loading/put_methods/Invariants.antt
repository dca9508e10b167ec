use Rattle.std.proofs.Common.{◌≡◌, ◌++◌, drop, length, map, take, Some}
use Rattle.jc_program.specs.Methods.{loaded_method}
use Rattle.jc_program.proofs.loading.put_methods.Given as goal

abbrev pub invariant-loop-method : goal.invariant-loop-method
invariant-loop-method l = record {
  done : map Some l.loaded ++ map (loaded_method l.table l.«package» l.body) (drop l.method-index l.methods)
      ≡ map Some l.fn.loaded ++ map (loaded_method l.table l.«package» l.body) l.methods;
  begins : take (length l.fn.loaded) l.loaded ≡ l.fn.loaded;
}
