use Rattle.jc_eval.proofs.Stepping.{calls_safely, runs_safely, stands_at, steps_safely}
use Rattle.jc_eval.proofs.carried_code_is_safe.Goals as goal

pub returns-clause-stands : goal.returns-clause-stands
returns-clause-stands c = stands_at c.listing_laws.ensures.words c.operations_on_words_keep_types.ensures

pub returns-clause-steps : goal.returns-clause-steps
returns-clause-steps c = steps_safely c.listing_laws.ensures.words c.operations_on_words_keep_types.ensures

pub returns-clause-runs : goal.returns-clause-runs
returns-clause-runs c = runs_safely c.listing_laws.ensures.words c.operations_on_words_keep_types.ensures

pub returns-clause-calls : goal.returns-clause-calls
returns-clause-calls c = calls_safely c.listing_laws.ensures.words c.operations_on_words_keep_types.ensures
