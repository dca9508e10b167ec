use Rattle.jc_program.proofs.Counting.{keeps_numbers, numbered, object_is_first}
use Rattle.jc_program.proofs.Same.{named}
use Rattle.jc_program.proofs.laws.classes_have_numbers.Goals as goal

pub returns : goal.returns
returns c = record { numbers = numbered; object = object_is_first; kept = keeps_numbers; named = named }
