use Rattle.jc_card.proofs.Accepting.{fit_accepted}
use Rattle.jc_card.proofs.checking.fit_packages_are_accepted.Goals as goal

pub returns : goal.returns
returns c = fit_accepted (record {
  read = record {
    apart = c.read_packages_are_whole.ensures.apart;
    headers = c.read_packages_are_whole.ensures.headers;
    bodies = c.read_packages_are_whole.ensures.bodies;
    installs = c.read_packages_are_whole.ensures.installs;
    rows = c.read_packages_are_whole.ensures.rows;
  };
  known = c.linked_packages_are_known.ensures;
  typed = c.carried_packages_are_typed.ensures;
  grown = c.accepted_worlds_grow.ensures.grown;
})
