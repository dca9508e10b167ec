-- The store's facts of an object, and the verdict on an access to it.
use Rattle.std.specs.Prelude.{◌≡◌, ℕ, ◌&&◌, false}
use Rattle.std.specs.Option.{option_map_or}
use Rattle.jc_store.specs.Store.{IsOwn, Store}
use Rattle.jc_firewall.specs.Verdict.{is_never_stored, runtime_context, stores_reference, verdict_of}
use Rattle.jc_firewall.specs.declared.access.Access.{Access}
use Rattle.jc_firewall.specs.declared.access.Verdict.TheVariants.{Allowed}
use Rattle.jc_firewall.specs.declared.access.Facts.{Facts}

-- an applet's access to an object that is its context's own, with the facts of that object; no reference is stored that
-- may not be stored
pub record IsOwnAccess (s : Store) (number active : ℕ) (access : Access) (f : Facts) : Type 0 where
  pub own : IsOwn s number active
  pub of_applet : active ≡ runtime_context → ⊥
  pub owner : f.owner ≡ own.object.owner
  pub clears : f.clears ≡ own.object.kind.clears
  pub storable : stores_reference access && option_map_or is_never_stored f.stored false ≡ false

-- such an access is allowed, whatever its kind, the other facts, and the selected applet
abbrev pub OwnIsAllowed : Type 0
OwnIsAllowed = (s : Store) (number active : ℕ) (access : Access) (f : Facts) → IsOwnAccess s number active access f
    → verdict_of access active f ≡ Allowed
