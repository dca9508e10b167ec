use Rattle.std.proofs.Common.{refl}
use Rattle.jc_code.specs.Decoding.{next_stable_switch, next_lookup_switch, next_wide_increment, when_of}
use Rattle.jc_code.specs.Decoding.{next_wide_branch, next_control, next_branch, operator_of, next_arithmetic}
use Rattle.jc_code.specs.Decoding.{next_shuffle, next_local, next_constant, next_word_operation}
use Rattle.jc_code.specs.Instructions.{next_operation, instr_at}
use Rattle.jc_code.specs.Objects.{word_kind_of, next_tested_type, next_creation, next_interface, next_invocation}
use Rattle.jc_code.specs.Objects.{narrow_field_of, wide_field_of, next_narrow_field, next_field, reference_condition_of}
use Rattle.jc_code.specs.Objects.{next_wide_condition, next_condition, next_array, next_reference}
use Rattle.jc_api.specs.Token.{chain, is_at_or_above}
use Rattle.jc_classes.specs.Api.{those_to, each_below, room_to, number_to}
use Rattle.jc_classes.specs.Walk.{most_classes}
use Rattle.jc_machine.specs.Objects.{act_object}
use Rattle.jc_machine.specs.Step.{act_at, defensive_step, steps_of, runtime_call}
use Rattle.jc_machine.specs.Words.{act_word}
use Rattle.jc_card.specs.Examples.{install_on, send_to}
use Rattle.jc_card.proofs.examples.applets_are_installed.Goals as goal

pub returns-clause-number : goal.returns-clause-number
unfolding next_stable_switch next_lookup_switch next_wide_increment when_of next_wide_branch next_control next_branch operator_of next_arithmetic next_shuffle next_local next_constant next_word_operation next_operation instr_at word_kind_of next_tested_type next_creation next_interface next_invocation narrow_field_of wide_field_of next_narrow_field next_field reference_condition_of next_wide_condition next_condition next_array next_reference chain is_at_or_above those_to each_below room_to number_to most_classes act_object act_at defensive_step steps_of runtime_call act_word install_on send_to
returns-clause-number c = refl

pub returns-clause-accesses : goal.returns-clause-accesses
unfolding next_stable_switch next_lookup_switch next_wide_increment when_of next_wide_branch next_control next_branch operator_of next_arithmetic next_shuffle next_local next_constant next_word_operation next_operation instr_at word_kind_of next_tested_type next_creation next_interface next_invocation narrow_field_of wide_field_of next_narrow_field next_field reference_condition_of next_wide_condition next_condition next_array next_reference chain is_at_or_above those_to each_below room_to number_to most_classes act_object act_at defensive_step steps_of runtime_call act_word install_on send_to
returns-clause-accesses c = refl

pub returns-clause-unknown : goal.returns-clause-unknown
unfolding next_stable_switch next_lookup_switch next_wide_increment when_of next_wide_branch next_control next_branch operator_of next_arithmetic next_shuffle next_local next_constant next_word_operation next_operation instr_at word_kind_of next_tested_type next_creation next_interface next_invocation narrow_field_of wide_field_of next_narrow_field next_field reference_condition_of next_wide_condition next_condition next_array next_reference chain is_at_or_above those_to each_below room_to number_to most_classes act_object act_at defensive_step steps_of runtime_call act_word install_on send_to
returns-clause-unknown c = refl

pub returns-clause-used : goal.returns-clause-used
unfolding next_stable_switch next_lookup_switch next_wide_increment when_of next_wide_branch next_control next_branch operator_of next_arithmetic next_shuffle next_local next_constant next_word_operation next_operation instr_at word_kind_of next_tested_type next_creation next_interface next_invocation narrow_field_of wide_field_of next_narrow_field next_field reference_condition_of next_wide_condition next_condition next_array next_reference chain is_at_or_above those_to each_below room_to number_to most_classes act_object act_at defensive_step steps_of runtime_call act_word install_on send_to
returns-clause-used c = refl
