-- The rules by which code is checked: how it decodes, the effects of its instructions on types, the order of its
-- classes, and the classes that the names in a certificate stand for. Code alone has its own rules.
use Rattle.std.specs.Prelude.{ℕ, [], Bool, Option, None, Result, Err}
use Rattle.jc_base.specs.declared.reason.Reason.{Reason}
use Rattle.jc_base.specs.declared.reason.Reason.TheVariants.{BadOpcode}
use Rattle.jc_cert.specs.declared.stated_type.SpelledClass.{SpelledClass}
use Rattle.jc_classes.specs.Subtype.{is_class_below}
use Rattle.jc_names.specs.declared.name.ClassName.{ClassName}
use Rattle.jc_code.specs.declared.instr.Operation.{Operation}
use Rattle.jc_code.specs.declared.instr.Operation.TheVariants.{Word, Object}
use Rattle.jc_code.specs.Instructions.{word_instr_at}
use Rattle.jc_code.specs.Listing.{Decoder}
use Rattle.jc_effects.specs.Words.{word_effect}
use Rattle.jc_types.specs.declared.ty.Ty.{Ty}
use Rattle.jc_types.specs.State.{Types}

-- the rules by which code is checked
pub record Rules : Type 0 where
  -- how it decodes
  pub decoder : Decoder
  -- the effect of an operation on types, in a method of at most the given number of operands that returns a value of
  -- this type, or none
  pub effect : ℕ → Option Ty → Operation → Types → Result Types Reason
  -- the order of its classes
  pub below : ClassName → ClassName → Bool
  -- the class that a certificate's name stands for, if it stands for one
  pub class_of : SpelledClass → Option ClassName

-- the effect of an instruction of code alone; no listing of it has an instruction on references
abbrev pub words_alone : ℕ → Option Ty → Operation → Types → Result Types Reason
words_alone most returned (Word operation) s = word_effect (is_class_below []) most returned operation s
words_alone most returned (Object operation) s = Err BadOpcode

-- the rules of code alone: it has only the instructions on words, and names no class
abbrev pub word_rules : Rules
word_rules =
    record { decoder = word_instr_at; effect = words_alone; below = is_class_below []; class_of = λ name. None }
