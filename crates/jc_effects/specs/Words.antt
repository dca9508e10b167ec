-- The effects of the instructions on words on types. Each has a row, except for those that move operands, whatever they
-- are.
use Rattle.std.specs.Prelude.{ℕ, List, [], ◌∷◌, Bool, true, false, Option, Some, Result}
use Rattle.std.specs.Option.{option_map_or}
use Rattle.jc_base.specs.declared.reason.Reason.{Reason}
use Rattle.jc_code.specs.declared.instr.WordOperation.{WordOperation}
use Rattle.jc_code.specs.declared.instr.WordOperation.TheVariants.{Nop, Push, Load, Store, Increment, Shuffle, Binary}
use Rattle.jc_code.specs.declared.instr.WordOperation.TheVariants.{Unary, Branch, StableSwitch, LookupSwitch}
use Rattle.jc_code.specs.declared.instr.WordOperation.TheVariants.{ReturnWord}
use Rattle.jc_code.specs.declared.instr.Shuffle as shuffles
use Rattle.jc_code.specs.declared.instr.Shuffle.TheVariants.{Pop, Duplicate, Swap}
use Rattle.jc_code.specs.declared.instr.When.{When}
use Rattle.jc_code.specs.declared.instr.When.TheVariants.{Always, Zero, Compare}
use Rattle.jc_names.specs.declared.name.ClassName.{ClassName}
use Rattle.jc_types.specs.declared.ty.Ty.{Ty}
use Rattle.jc_types.specs.declared.ty.Ty.TheVariants.{Top, Word}
use Rattle.jc_types.specs.Ty.{is_word}
use Rattle.jc_types.specs.State.{Types}
use Rattle.jc_types.specs.Changes.{drop_types, duplicate_types, swap_types}
use Rattle.jc_effects.specs.declared.row.Demand.{Demand}
use Rattle.jc_effects.specs.declared.row.Demand.TheVariants.{Below}
use Rattle.jc_effects.specs.declared.row.Given.{Given}
use Rattle.jc_effects.specs.declared.row.Given.TheVariants.{Nothing, Exactly, OfOperand}
use Rattle.jc_effects.specs.declared.row.LocalDemand.TheVariants.{Nowhere, At}
use Rattle.jc_effects.specs.Row.{Row, applied}

-- an instruction that takes operands, and pushes one or none
abbrev pub takes : List Demand → Given → Row
takes operands pushed = record { local = Nowhere; operands = operands; fits = true; written = Nothing; pushed = pushed }

-- an instruction that also reads a local
abbrev pub reads : ℕ → Demand → List Demand → Given → Row
reads index demand operands pushed =
    record { local = At index demand; operands = operands; fits = true; written = Nothing; pushed = pushed }

-- an instruction that stores an operand in a local, whatever that held
abbrev pub writes : ℕ → Demand → Row
writes index demand =
    record {
      local = At index (Below Top);
      operands = demand ∷ [];
      fits = true;
      written = OfOperand 0;
      pushed = Nothing;
    }

abbrev pub word : Demand
word = Below Word

-- the demands on the words that a branch compares
abbrev pub compared : When → List Demand
compared Always = []
compared (Zero condition) = word ∷ []
compared (Compare condition) = word ∷ word ∷ []

-- an instruction that moves operands, up to `most` of them
abbrev pub shuffle_effect : ℕ → shuffles.Shuffle → Types → Result Types Reason
shuffle_effect most (Pop count) s = drop_types count s
shuffle_effect most (Duplicate count below) s = duplicate_types most count below s
shuffle_effect most (Swap upper lower) s = swap_types upper lower s

-- an operation on words, in a method of at most `most` operands that returns a value of this type, or none
unfoldable pub word_effect : (ClassName → ClassName → Bool) → ℕ → Option Ty → WordOperation → Types
    → Result Types Reason
word_effect below most returned Nop s = applied below most (Some (takes [] Nothing)) s
word_effect below most returned (Push value) s = applied below most (Some (takes [] (Exactly Word))) s
word_effect below most returned (Load local) s = applied below most (Some (reads local word [] (Exactly Word))) s
word_effect below most returned (Store local) s = applied below most (Some (writes local word)) s
word_effect below most returned (Increment local by) s = applied below most (Some (reads local word [] Nothing)) s
word_effect below most returned (Shuffle shuffle) s = shuffle_effect most shuffle s
word_effect below most returned (Binary operator) s =
    applied below most (Some (takes (word ∷ word ∷ []) (Exactly Word))) s
word_effect below most returned (Unary operator) s = applied below most (Some (takes (word ∷ []) (Exactly Word))) s
word_effect below most returned (Branch when offset) s = applied below most (Some (takes (compared when) Nothing)) s
word_effect below most returned (StableSwitch default low offsets) s =
    applied below most (Some (takes (word ∷ []) Nothing)) s
word_effect below most returned (LookupSwitch default cases) s = applied below most (Some (takes (word ∷ []) Nothing)) s
word_effect below most returned ReturnWord s =
    applied below most (Some (record (takes (word ∷ []) Nothing) { fits = option_map_or is_word returned false })) s
