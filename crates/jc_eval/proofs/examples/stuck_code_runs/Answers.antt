use Rattle.std.proofs.Common.{refl}
use Rattle.jc_code.specs.Listing.{placed_at}
use Rattle.jc_machine.specs.Words.{act_word}
use Rattle.jc_eval.specs.Alone.{alone_step, alone_steps}
use Rattle.jc_eval.specs.Examples.{run_of}
use Rattle.jc_eval.proofs.examples.stuck_code_runs.Goals as goal

pub returns-clause-an_operand_is_missing : goal.returns-clause-an_operand_is_missing
unfolding alone_step alone_steps placed_at act_word run_of
returns-clause-an_operand_is_missing c = refl

pub returns-clause-an_operand_too_many : goal.returns-clause-an_operand_too_many
unfolding alone_step alone_steps placed_at act_word run_of
returns-clause-an_operand_too_many c = refl

pub returns-clause-a_local_was_never_written : goal.returns-clause-a_local_was_never_written
unfolding alone_step alone_steps placed_at act_word run_of
returns-clause-a_local_was_never_written c = refl

pub returns-clause-a_local_too_many : goal.returns-clause-a_local_too_many
unfolding alone_step alone_steps placed_at act_word run_of
returns-clause-a_local_too_many c = refl

pub returns-clause-no_instruction_begins : goal.returns-clause-no_instruction_begins
unfolding alone_step alone_steps placed_at act_word run_of
returns-clause-no_instruction_begins c = refl

pub returns-clause-before_the_code : goal.returns-clause-before_the_code
unfolding alone_step alone_steps placed_at act_word run_of
returns-clause-before_the_code c = refl

pub returns-clause-an_instruction_on_objects : goal.returns-clause-an_instruction_on_objects
unfolding alone_step alone_steps placed_at act_word run_of
returns-clause-an_instruction_on_objects c = refl
