-- The code of the examples: operations, as if each was encoded in one byte.
use Rattle.std.specs.Prelude.{ℕ, suc, List, [], ◌∷◌}
use Rattle.jc_code.specs.Listing.{PlacedInstr}
use Rattle.jc_code.specs.declared.instr.Operation.{Operation}
use Rattle.jc_machine.specs.Examples.{End, end_of}
use Rattle.jc_eval.specs.Alone.{alone_call}

-- operations one after the other, from a pc on
abbrev pub listed_from : ℕ → List Operation → List PlacedInstr
listed_from pc [] = []
listed_from pc (operation ∷ operations) =
    record { pc = pc; instr = record { operation = operation; next_pc = suc pc } } ∷ listed_from (suc pc) operations

-- the end of a run of them, of at most the given number of steps
unfoldable pub run_of : List Operation → ℕ → End
run_of operations steps = end_of (alone_call (listed_from 0 operations) steps).ends
