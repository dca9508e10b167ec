use Rattle.jc_memory.proofs.ExampleEnds.{example_ends}
use Rattle.jc_memory.proofs.example.play_example.Goals as goal

pub returns-clause-exact : goal.returns-clause-exact
returns-clause-exact c = example_ends c.play_in_memory.ensures.exact.responses
