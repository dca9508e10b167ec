use Rattle.std.proofs.Common.{◌≡◌, false, true, refl}
use Rattle.jc_code.specs.Decoding.{next_stable_switch, next_lookup_switch, next_wide_increment, when_of, next_wide_branch, next_control, next_branch, operator_of, next_arithmetic, next_shuffle, next_local, next_constant, next_word_operation}
use Rattle.jc_code.specs.Instructions.{next_operation, instr_at}
use Rattle.jc_code.specs.Objects.{word_kind_of, next_tested_type, next_creation, next_interface, next_invocation, narrow_field_of, wide_field_of, next_narrow_field, next_field, reference_condition_of, next_wide_condition, next_condition, next_array, next_reference}
use Rattle.jc_api.specs.Token.{chain, is_at_or_above}
use Rattle.jc_classes.specs.Api.{those_to, each_below, room_to, number_to}
use Rattle.jc_classes.specs.Walk.{most_classes}
use Rattle.jc_machine.specs.Examples.{is_stuck_with}
use Rattle.jc_machine.specs.Objects.{act_object}
use Rattle.jc_machine.specs.Step.{act_at, defensive_step}
use Rattle.jc_machine.specs.Words.{act_word}
use Rattle.jc_machine.proofs.examples.operands_are_written.Goals as goal

pub returns-clause-a_word_is_dropped : goal.returns-clause-a_word_is_dropped
unfolding next_stable_switch next_lookup_switch next_wide_increment when_of next_wide_branch next_control next_branch operator_of next_arithmetic next_shuffle next_local next_constant next_word_operation next_operation instr_at word_kind_of next_tested_type next_creation next_interface next_invocation narrow_field_of wide_field_of next_narrow_field next_field reference_condition_of next_wide_condition next_condition next_array next_reference chain is_at_or_above those_to each_below room_to number_to most_classes act_object act_at defensive_step act_word is_stuck_with
returns-clause-a_word_is_dropped c = refl

pub returns-clause-an_unset_operand_is_stuck : goal.returns-clause-an_unset_operand_is_stuck
unfolding next_stable_switch next_lookup_switch next_wide_increment when_of next_wide_branch next_control next_branch operator_of next_arithmetic next_shuffle next_local next_constant next_word_operation next_operation instr_at word_kind_of next_tested_type next_creation next_interface next_invocation narrow_field_of wide_field_of next_narrow_field next_field reference_condition_of next_wide_condition next_condition next_array next_reference chain is_at_or_above those_to each_below room_to number_to most_classes act_object act_at defensive_step act_word is_stuck_with
returns-clause-an_unset_operand_is_stuck c = refl

pub returns-clause-an_unset_operand_has_no_type : goal.returns-clause-an_unset_operand_has_no_type
returns-clause-an_unset_operand_has_no_type c world heap type p = no_true p.written
  where
    no_true : false ≡ true → ⊥
    no_true e = cc
