use Rattle.std.proofs.Common.{refl}
use Rattle.jc_code.specs.Listing.{placed_at}
use Rattle.jc_machine.specs.Words.{act_word}
use Rattle.jc_eval.specs.Alone.{alone_step, alone_steps}
use Rattle.jc_eval.specs.Examples.{run_of}
use Rattle.jc_eval.proofs.examples.code_runs.Goals as goal

pub returns-clause-a_sum : goal.returns-clause-a_sum
unfolding alone_step alone_steps placed_at act_word run_of
returns-clause-a_sum c = refl

pub returns-clause-a_sum_that_wraps : goal.returns-clause-a_sum_that_wraps
unfolding alone_step alone_steps placed_at act_word run_of
returns-clause-a_sum_that_wraps c = refl

pub returns-clause-a_local : goal.returns-clause-a_local
unfolding alone_step alone_steps placed_at act_word run_of
returns-clause-a_local c = refl

pub returns-clause-as_many_as_may_be : goal.returns-clause-as_many_as_may_be
unfolding alone_step alone_steps placed_at act_word run_of
returns-clause-as_many_as_may_be c = refl

pub returns-clause-a_division_by_zero : goal.returns-clause-a_division_by_zero
unfolding alone_step alone_steps placed_at act_word run_of
returns-clause-a_division_by_zero c = refl

pub returns-clause-a_loop : goal.returns-clause-a_loop
unfolding alone_step alone_steps placed_at act_word run_of
returns-clause-a_loop c = refl

pub returns-clause-a_step_too_few : goal.returns-clause-a_step_too_few
unfolding alone_step alone_steps placed_at act_word run_of
returns-clause-a_step_too_few c = refl
