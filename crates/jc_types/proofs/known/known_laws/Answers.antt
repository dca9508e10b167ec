use Rattle.jc_types.proofs.Knowing.{entry_known, joined_known}
use Rattle.jc_types.proofs.known.known_laws.Goals as goal

pub returns-clause-joins : goal.returns-clause-joins
returns-clause-joins c = joined_known

pub returns-clause-entries : goal.returns-clause-entries
returns-clause-entries c = entry_known
