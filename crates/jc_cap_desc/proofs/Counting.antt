-- A package that was read has no more classes than rows.
use Rattle.std.proofs.Common.{◌≡◌, length, Option, Some, None, Result, Ok, Err, refl, sym, ap, ◌∙◌, arith}
use Rattle.jc_base.specs.Parts.{Infos}
use Rattle.jc_base.specs.declared.fault.LoadFault.{LoadFault}
use Rattle.jc_cap_desc.proofs.Few.{descriptor_is, few_read, fewer, layout_is}
use Rattle.jc_cap_desc.proofs.Reading.{read_of}
use Rattle.jc_cap_desc.specs.Package.{components_of, package_fault, package_of, refused}
use Rattle.jc_cap_desc.specs.PrivatePackage.{records_in}
use Rattle.jc_cap_desc.specs.Shape.{Package, class_shape}
use Rattle.jc_cap_desc.specs.Whole.{HasRows}

refused_never : (fault : LoadFault) (p : Package) → ◌≡◌ {A = Result Package LoadFault} (Err fault) (Ok p) → ⊥
refused_never fault p e = cc

nothing_told : (infos : Infos) (p : Package) → package_of infos ≡ Ok p → package_fault infos ≡ None
nothing_told infos p e = by_fault (package_fault infos) refl e
  where
    by_fault : (o : Option LoadFault) → package_fault infos ≡ o → refused o (components_of infos) ≡ Ok p
        → package_fault infos ≡ None
    by_fault None is f = is
    by_fault (Some fault) is f = absurd (refused_never fault p f)

pub rowed : (infos : Infos) (p : Package) → package_of infos ≡ Ok p → HasRows infos p
rowed infos p e =
    let r = (read_of infos p (sym e)).read in
    let few = few_read infos r.records r.info (nothing_told infos p e)
    (ap (λ h. records_in h infos.class) r.is_heading
    ∙ layout_is r.heading.format infos.class r.records r.are_records)
    (descriptor_is infos.descriptor r.info r.is_info) in
    let given = fewer (class_shape r.info r.methods) r.records in
    let same = ap (λ ks. length ks) r.classes in
    record { info = r.info; its_info = r.is_info; few = omega (arith, few, given, same) }
