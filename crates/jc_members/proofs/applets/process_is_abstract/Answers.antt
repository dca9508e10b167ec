use Rattle.std.proofs.Common.{refl}
use Rattle.jc_api.specs.Token.{chain, is_at_or_above}
use Rattle.jc_classes.specs.Api.{each_below, number_to, room_to, those_to}
use Rattle.jc_classes.specs.Walk.{most_classes}
use Rattle.jc_members.proofs.applets.process_is_abstract.Goals as goal

pub returns-clause-process : goal.returns-clause-process
unfolding chain is_at_or_above each_below number_to room_to those_to most_classes
returns-clause-process c = refl

pub returns-clause-deselect : goal.returns-clause-deselect
unfolding chain is_at_or_above each_below number_to room_to those_to most_classes
returns-clause-deselect c = refl

pub returns-clause-of_no_applet : goal.returns-clause-of_no_applet
unfolding chain is_at_or_above each_below number_to room_to those_to most_classes
returns-clause-of_no_applet c = refl
