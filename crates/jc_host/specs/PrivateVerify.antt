-- Private. What may be overwritten.
use Rattle.std.specs.Prelude.{◌≡◌, ◌⊎◌, ◌≢◌, ℕ, Bool, true, false, List, []}
use Rattle.jc_cert.specs.Cert.{Row}
use Rattle.jc_host.specs.Eval.{SpellsCert, SpellsNone}

-- bytes encode a certificate
pub record IsSpelled (bytes : List ℕ) : Type 0 where
  pub rows : List Row
  pub spells : SpellsCert bytes rows

-- bytes may be lost if there are none, or they are a certificate
abbrev pub MayBeLost : List ℕ → Bool → Type 0
MayBeLost bytes true = (bytes ≡ []) ⊎ IsSpelled bytes
MayBeLost bytes false = (bytes ≢ []) × SpellsNone bytes
