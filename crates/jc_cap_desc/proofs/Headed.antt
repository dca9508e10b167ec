-- Of a package that was read each method of a class has its header.
use Rattle.std.proofs.Common.{◌≡◌, ◌&&◌, true, Option, Some, None, Result, Ok, Err, IfOk, refl, sym, ap, ◌∙◌}
use Rattle.std.proofs.Common.{Bool, false, is_some, length, nat_le}
use Rattle.std.specs.Option.{option_map, option_map_or}
use Rattle.jc_base.specs.Parts.{Infos}
use Rattle.jc_base.specs.declared.fault.LoadFault.{LoadFault}
use Rattle.jc_cap.specs.MethodComponent.{Method, MethodComponent, header_at, method_at}
use Rattle.jc_cap_desc.proofs.Lists.{all_at, no_true}
use Rattle.jc_cap_desc.proofs.Reading.{ascends, read_of}
use Rattle.jc_cap_desc.proofs.Rowed.{has_row, is_given}
use Rattle.jc_cap_desc.specs.Across.{class_methods, handlers_stay_inside, stands_inside}
use Rattle.jc_cap_desc.specs.Package.{package_of}
use Rattle.jc_cap_desc.specs.Shape.{HaveHeaders, IsOfClass, MethodShape, Package}
use Rattle.jc_cap_desc.specs.declared.class_row.MethodRow.{MethodRow}

-- a method that stands inside has a header
header_there : (methods : MethodComponent) (m : MethodRow) → stands_inside methods m ≡ true
    → is_some (header_at m.offset methods) ≡ true
header_there methods m e = by_method (method_at m.offset methods) e
  where
    is_inside : Method → Bool
    is_inside found = nat_le m.bytecode_count (length found.code) && handlers_stay_inside methods m found

    by_method : (o : Option Method) → option_map_or is_inside o false ≡ true
        → is_some (option_map (λ (method : Method). method.header) o) ≡ true
    by_method None e = no_true e
    by_method (Some found) e = refl

-- of a package that was read
pub headed_in : (infos : Infos) (r : Result Package LoadFault) → r ≡ package_of infos
    → IfOk r (λ p. HaveHeaders p.shape)
headed_in infos (Err fault) e = tt
headed_in infos (Ok p) e =
    let fine = read_of infos p e in
    let r = fine.read in
    let rows = class_methods r.records r.info.classes in
    λ n i k m at class there.
    let of : IsOfClass p.shape m = record {
      class = k;
      class_place = n;
      class_there = at;
      class_is = class;
      place = i;
      there = there;
    } in
    let row = has_row r.records r.info r.methods p.shape r.classes (ascends infos p r) m of in
    let given = is_given r.info.types r.methods row.row m row.made in
    let inside = all_at (stands_inside r.methods) rows row.place row.row (fine.tested).inside row.there in
    ap (λ (m : MethodShape). is_some m.header) (sym given.is) ∙ header_there r.methods row.row inside
