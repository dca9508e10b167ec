-- The effect of an instruction on types: the state after it, or the first reason against it.
use Rattle.std.specs.Prelude.{ℕ, Result}
use Rattle.jc_base.specs.declared.reason.Reason.{Reason}
use Rattle.jc_code.specs.declared.instr.Operation.{Operation}
use Rattle.jc_code.specs.declared.instr.Operation.TheVariants.{Word, Object}
use Rattle.jc_classes.specs.Subtype.{is_class_below}
use Rattle.jc_types.specs.State.{Types}
use Rattle.jc_effects.specs.Row.{applied}
use Rattle.jc_effects.specs.Words.{word_effect}
use Rattle.jc_effects.specs.Objects.{Setting, object_row}

-- the effect in a method with this setting, of at most `most` operands
unfoldable pub effect_of : Setting → ℕ → Operation → Types → Result Types Reason
effect_of set most (Word operation) s = word_effect (is_class_below set.world) most set.returned operation s
effect_of set most (Object operation) s = applied (is_class_below set.world) most (object_row set operation) s
