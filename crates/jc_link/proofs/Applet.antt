-- An applet's package is well-formed behind the API's packages, by computation.
use Rattle.std.proofs.Common.{refl}
use Rattle.jc_api.specs.Bound.{default_binding}
use Rattle.jc_api.specs.Token as Token
use Rattle.jc_classes.specs.Api.{api_world, those_to, each_below, room_to, number_to}
use Rattle.jc_classes.specs.Walk.{most_classes}
use Rattle.jc_link.specs.Applet.{applet}
use Rattle.jc_link.specs.Inherited.{public_tokens, package_tokens, virtual_tokens}
use Rattle.jc_link.specs.WellFormed.{IsWellFormed}

pub applet_is_well_formed : IsWellFormed (api_world default_binding) applet
unfolding most_classes public_tokens package_tokens virtual_tokens those_to each_below room_to number_to Token.is_at_or_above Token.chain
applet_is_well_formed = refl
