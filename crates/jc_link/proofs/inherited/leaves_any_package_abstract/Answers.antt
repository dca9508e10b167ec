use Rattle.std.proofs.Common.{◌∙◌}
use Rattle.jc_link.proofs.Tokens.{left_within}
use Rattle.jc_link.proofs.inherited.leaves_any_package_abstract.Goals as goal

pub returns : goal.returns
returns c = c.leaves_for_one.ensures ∙ left_within _ _ _ _ c.visible_places.ensures
