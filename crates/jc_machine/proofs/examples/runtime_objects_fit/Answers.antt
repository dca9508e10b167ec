use Rattle.std.proofs.Common.{refl}
use Rattle.jc_api.specs.Token.{chain, is_at_or_above}
use Rattle.jc_classes.specs.Api.{those_to, each_below, room_to, number_to}
use Rattle.jc_classes.specs.Walk.{most_classes}
use Rattle.jc_machine.specs.Examples.{have_their_sizes}
use Rattle.jc_machine.proofs.examples.runtime_objects_fit.Goals as goal

pub returns : goal.returns
unfolding chain is_at_or_above those_to each_below room_to number_to most_classes have_their_sizes
returns c = refl
