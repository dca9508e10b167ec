-- The worlds that a machine runs: each loaded package was linked, and its code was checked.
use Rattle.std.specs.Prelude.{◌≡◌, ℕ, suc, ◌<◌, List, [], slice_get, take, false, Some, IsSome}
use Rattle.jc_api.specs.Bound.{Bound}
use Rattle.jc_cap.specs.declared.method_header.MethodHeader.{MethodHeader}
use Rattle.jc_cap.specs.declared.entry.MemberRef.{MemberRef}
use Rattle.jc_cap.specs.declared.entry.PoolEntry.{PoolEntry}
use Rattle.jc_cap.specs.declared.entry.PoolEntry.TheVariants.{VirtualMethodref}
use Rattle.jc_check.specs.Checked.{IsPackageCarried, IsPackageTyped}
use Rattle.jc_classes.specs.Api.{api_world}
use Rattle.jc_classes.specs.Limits.{IsSmall}
use Rattle.jc_classes.specs.Members.{DeclaredMethod}
use Rattle.jc_link.specs.Linked.{IsWorld, Linked, LinkedBody, World}
use Rattle.jc_names.specs.Names.{home_at}
use Rattle.jc_machine.specs.Lookup.{body_at, code_at, declared_at}
use Rattle.jc_machine.specs.Machine.{MethodPlace}

-- the world with only the API's packages
abbrev pub api_alone : Bound → World
api_alone bound = record { shapes = api_world bound; bodies = [] }

-- a loaded package as it was linked: the last one in a world of the packages up to it
abbrev pub linked_as : World → ℕ → LinkedBody → Linked
linked_as w number body = record { world = take (suc (home_at number)) w.shapes; body = body }

-- tokens of virtual methods in a constant pool are bytes
abbrev pub HaveByteTokens : List PoolEntry → Type 0
HaveByteTokens pool = (index : ℕ) (ref : MemberRef) → slice_get pool index ≡ Some (VirtualMethodref ref)
    → ref.token < 256

-- a loaded package that some certificate carries, and whose methods with code are well typed, as linked
pub record IsAcceptedPackage (w : World) (number : ℕ) (body : LinkedBody) : Type 0 where
  pub tokens : HaveByteTokens body.kept.pool
  pub carried : IsPackageCarried (linked_as w number body)
  pub typed : IsPackageTyped (linked_as w number body)

-- each method of a loaded package's classes that isn't abstract has code
abbrev pub HaveCode : World → Type 0
HaveCode w = (place : MethodPlace) (d : DeclaredMethod) (header : MethodHeader) → declared_at w place ≡ Some d
    → d.method.header ≡ Some header → header.is_abstract ≡ false → IsSome (code_at w place)

-- the packages are linked and within a card's limits, and each loaded package is accepted
pub record IsAccepted (w : World) : Type 0 where
  pub world : IsWorld w
  pub small : IsSmall w.shapes
  pub packages : (number : ℕ) (body : LinkedBody) → body_at w number ≡ Some body → IsAcceptedPackage w number body
