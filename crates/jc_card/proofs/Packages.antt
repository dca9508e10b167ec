-- What holds of a package that is read of an image of bytes.
use Rattle.std.proofs.Common.{◌≡◌, ◌<◌, ◌≤◌, ◌^◌, length, Option, Result, Ok, IfOk, arith}
use Rattle.jc_base.specs.Parts.{Infos}
use Rattle.jc_base.specs.declared.fault.LoadFault.{LoadFault}
use Rattle.jc_cap_desc.specs.Package.{components_of, package_fault, package_of, refused}
use Rattle.jc_cap_desc.specs.Shape.{HaveBodies, HaveHeaders, InstallMethods, Package, StandApart}
use Rattle.jc_cap_desc.specs.Whole.{HasRows}
use Rattle.jc_cap.specs.Pool.{pool_of}
use Rattle.jc_machine.specs.Accepted.{HaveByteTokens}
use Rattle.jc_card.proofs.Cut.{AreInfos}
use Rattle.jc_card.proofs.Tokens.{few_rows, of_ok, ok_then, pool_tokens}

-- the laws of packages that are read
pub record ReadLaws : Type 0 where
  pub apart : (parts : Infos) (p : Package) → package_of parts ≡ Ok p → length parts.method < 2 ^ 16
      → StandApart p.body.methods
  pub headers : (parts : Infos) (p : Package) → package_of parts ≡ Ok p → HaveHeaders p.shape
  pub bodies : (parts : Infos) (p : Package) → package_of parts ≡ Ok p → HaveBodies p
  pub installs : (parts : Infos) (p : Package) → package_of parts ≡ Ok p → InstallMethods p
  pub rows : (parts : Infos) (p : Package) → package_of parts ≡ Ok p → HasRows parts p

-- its pool is that of the Constant Pool component
abbrev HasItsPool : Infos → Package → Type 0
HasItsPool parts p = pool_of parts.constant_pool ≡ Ok p.body.pool

pool_in_all : (parts : Infos) → IfOk (components_of parts) (HasItsPool parts)
unfolding components_of
pool_in_all parts = grind (arith, ok_then)

its_pool : (parts : Infos) (p : Package) → package_of parts ≡ Ok p → HasItsPool parts p
its_pool parts p e =
    of_ok (HasItsPool parts) (package_of parts) p e
    (by_fault (package_fault parts) (components_of parts) (pool_in_all parts))
  where
    by_fault : (o : Option LoadFault) (r : Result Package LoadFault) → IfOk r (HasItsPool parts)
        → IfOk (refused o r) (HasItsPool parts)
    by_fault o r h1 = grind arith

-- all that linking and the card ask of it
pub record IsReadWell (p : Package) : Type 0 where
  pub apart : StandApart p.body.methods
  pub headers : HaveHeaders p.shape
  pub bodies : HaveBodies p
  pub installs : InstallMethods p
  pub few : length p.shape.classes ≤ 255
  pub tokens : HaveByteTokens p.body.pool

pub read_well : ReadLaws → (parts : Infos) → AreInfos parts → (p : Package) → package_of parts ≡ Ok p → IsReadWell p
read_well laws parts are p e =
    let has = laws.rows parts p e in
    let rows = few_rows parts.descriptor has.info are.descriptor.bytes has.its_info in
    let fewer = has.few in
    record {
      apart = laws.apart parts p e are.method.short;
      headers = laws.headers parts p e;
      bodies = laws.bodies parts p e;
      installs = laws.installs parts p e;
      few = omega (arith, rows, fewer);
      tokens = pool_tokens parts.constant_pool p.body.pool are.constant_pool.bytes (its_pool parts p e);
    }
