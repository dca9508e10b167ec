-- Which pcs of a method control flow reaches and enters, whatever the values are (Java Card Virtual Machine
-- Specification, verification of CAP files: data-flow analysis).
use Rattle.std.specs.Prelude.{◌≡◌, ℕ, pos, true, List, Some, Contains}
use Rattle.jc_code.specs.Listing.{PlacedInstr, placed_at}
use Rattle.jc_code.specs.Targets.{targets_of, falls_of}
use Rattle.jc_check.specs.Method.{CheckedHandler, CheckedMethod, covers}

-- the reachable pcs: pc 0; and from a reachable instruction the next pc if it falls through, its branch targets, and
-- the entry points of the handlers that cover it
pub data IsLive (m : CheckedMethod) (listing : List PlacedInstr) : ℕ → Type 0 where
  first : IsLive m listing 0
  behind : (x : PlacedInstr) → placed_at listing x.pc ≡ Some x → IsLive m listing x.pc
      → falls_of x.instr.operation ≡ true → IsLive m listing x.instr.next_pc
  by_branch : (x : PlacedInstr) (pc : ℕ) → placed_at listing x.pc ≡ Some x → IsLive m listing x.pc
      → Contains (targets_of x.pc x.instr.operation) (pos pc) → IsLive m listing pc
  by_handler : (x : PlacedInstr) (h : CheckedHandler) → placed_at listing x.pc ≡ Some x → IsLive m listing x.pc
      → Contains m.handlers h → covers h x.pc ≡ true → IsLive m listing h.goes_on

-- the pcs that control flow enters by a branch or a handler of a reachable instruction
pub data IsEntered (m : CheckedMethod) (listing : List PlacedInstr) : ℕ → Type 0 where
  branched : (x : PlacedInstr) (pc : ℕ) → placed_at listing x.pc ≡ Some x → IsLive m listing x.pc
      → Contains (targets_of x.pc x.instr.operation) (pos pc) → IsEntered m listing pc
  caught : (x : PlacedInstr) (h : CheckedHandler) → placed_at listing x.pc ≡ Some x → IsLive m listing x.pc
      → Contains m.handlers h → covers h x.pc ≡ true → IsEntered m listing h.goes_on
