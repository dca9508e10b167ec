use Rattle.jc_refusals.proofs.Least.{loaded_has_none, memory_is_behind, told_is_least}
use Rattle.jc_refusals.proofs.the_least_refusal_is_told.Goals as goal

pub returns-clause-told : goal.returns-clause-told
returns-clause-told c card after image certificate = told_is_least (record {
  listing = c.listing_laws.ensures.all;
  never = c.first_fault_laws.ensures.never_both;
  spelled = c.one_spelling.ensures;
}) card image certificate after

pub returns-clause-memory : goal.returns-clause-memory
returns-clause-memory c card after image certificate = memory_is_behind (record {
  listing = c.listing_laws.ensures.all;
  never = c.first_fault_laws.ensures.never_both;
  spelled = c.one_spelling.ensures;
}) card image certificate after

pub returns-clause-loaded : goal.returns-clause-loaded
returns-clause-loaded c card after image certificate = loaded_has_none (record {
  listing = c.listing_laws.ensures.all;
  never = c.first_fault_laws.ensures.never_both;
  spelled = c.one_spelling.ensures;
}) card image certificate after
