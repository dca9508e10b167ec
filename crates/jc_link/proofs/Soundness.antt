-- Whatever a machine relies on holds in every world that is built of well-formed packages.
use Rattle.std.proofs.Common.{List, arith}
use Rattle.jc_cap_desc.specs.Shape.{Shape}
use Rattle.jc_classes.specs.Growth.{KeepsLookups}
use Rattle.jc_classes.specs.Limits.{IsSmall}
use Rattle.jc_link.proofs.ApiFit.{api_fit}
use Rattle.jc_link.proofs.SameTypes.{same_signature}
use Rattle.jc_link.proofs.SoundChains.{superclasses_hold, cells_follow}
use Rattle.jc_link.proofs.SoundFinished.{finished_hold}
use Rattle.jc_link.proofs.SoundGrown.{built_fit, fit_at}
use Rattle.jc_link.proofs.SoundMembers.{fields_hold, methods_hold}
use Rattle.jc_link.proofs.SoundVirtual.{virtual_methods_hold}
use Rattle.jc_link.specs.Built.{IsBuilt}
use Rattle.jc_link.specs.PrivateFit.{AreAllFit}
use Rattle.jc_link.specs.Sound.{IsSound}

fit_is_sound : (world : List Shape) → IsSmall world → AreAllFit world → IsSound world
fit_is_sound world small all =
    let fit = fit_at world all in
    let superclasses = superclasses_hold world small fit in
    grind (arith, fields_hold, cells_follow, methods_hold, virtual_methods_hold, finished_hold, same_signature)

pub built_is_sound : ((world : List Shape) (more : Shape) → KeepsLookups world more) → (world : List Shape) → IsSmall world → IsBuilt world → IsSound world
built_is_sound keeps world small built = fit_is_sound world small (built_fit api_fit keeps world built).1
