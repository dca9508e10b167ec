use Rattle.jc_refusals.proofs.Once.{one_answer}
use Rattle.jc_refusals.proofs.a_load_has_one_answer.Goals as goal

pub returns : goal.returns
returns c card first second image certificate one other bytes = one_answer (record {
  least = record {
    listing = c.listing_laws.ensures.all;
    never = c.first_fault_laws.ensures.never_both;
    spelled = c.one_spelling.ensures;
  };
  one_fault = c.first_fault_laws.ensures.one_fault;
  apart = c.read_packages_are_whole.ensures.apart;
}) card image certificate first second one other bytes
