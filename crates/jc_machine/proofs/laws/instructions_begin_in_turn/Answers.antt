use Rattle.jc_machine.proofs.Beginning.{instructions_are_listed, instructions_begin}
use Rattle.jc_machine.proofs.laws.instructions_begin_in_turn.Goals as goal

pub returns-clause-begin : goal.returns-clause-begin
returns-clause-begin c = instructions_begin c.listing_laws.ensures.all

pub returns-clause-listed : goal.returns-clause-listed
returns-clause-listed c = instructions_are_listed c.listing_laws.ensures.all
