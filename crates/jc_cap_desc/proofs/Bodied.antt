-- Of a package that was read the declared methods and the code fit together, and applets name install methods.
use Rattle.std.proofs.Common.{◌≡◌, ℕ, zero, suc, ◌==◌, ◌&&◌, Bool, true, false, cond, not, refl, sym, ap, ◌∙◌}
use Rattle.std.proofs.Common.{List, [], ◌∷◌, map, Option, Some, None, Result, Ok, Err, IfOk, is_some, length, nat_le}
use Rattle.std.proofs.Common.{slice_get, subst}
use Rattle.std.proofs.lemmas.Bool.{eq-eqb}
use Rattle.std.specs.List.{list_any}
use Rattle.std.specs.Option.{option_and_then, option_map, option_map_or}
use Rattle.jc_base.specs.Parts.{Infos}
use Rattle.jc_base.specs.PlacedRows.{row_at}
use Rattle.jc_base.specs.Rows.{part}
use Rattle.jc_base.specs.declared.fault.LoadFault.{LoadFault}
use Rattle.jc_base.proofs.Binding.{the_some, none_some, both_true}
use Rattle.jc_cap.specs.declared.applets.Applet.{Applet}
use Rattle.jc_cap.specs.MethodComponent.{Method, MethodComponent, header_at, method_at}
use Rattle.jc_cap.specs.declared.handler.Handler.{Handler}
use Rattle.jc_cap.specs.declared.method_header.MethodHeader.{MethodHeader}
use Rattle.jc_cap_desc.proofs.Differing.{body_offset, clash, is_not, made, or_left, or_right}
use Rattle.jc_cap_desc.proofs.Few.{is_equal}
use Rattle.jc_cap_desc.proofs.Lists.{no_true, there_some, all_at, any_at, made_from, made_at}
use Rattle.jc_cap_desc.proofs.Reading.{IsFine, ascends, read_of}
use Rattle.jc_cap_desc.proofs.Rowed.{GivesMethod, HasRow, given, gives, has_row, is_given}
use Rattle.jc_cap_desc.specs.Across.{are_distinct, class_methods, handlers_stay_inside, has_code, installs, is_among}
use Rattle.jc_cap_desc.specs.Across.{is_described, is_install_signature, stands_inside}
use Rattle.jc_cap_desc.specs.Package.{package_of}
use Rattle.jc_cap_desc.specs.Shape.{HasBody, HasConcrete, HasInstallMethod, HaveBodies, InstallMethods, IsConcrete}
use Rattle.jc_cap_desc.specs.Shape.{IsOfClass, MethodBody, MethodShape, Package, body_of_method}
use Rattle.jc_cap_desc.specs.declared.class_row.MethodRow.{MethodRow}

-- ---- numbers that differ

-- an element's number is among all
among_at : {A : Type 0} (number : A → ℕ) (xs : List A) (n : ℕ) (x : A) → slice_get xs n ≡ Some x
    → is_among (number x) (map number xs) ≡ true
among_at number [] n x at = absurd (none_some x at)
among_at number (y ∷ xs) zero x at =
    or_left (number x == number y) (is_among (number x) (map number xs))
    (eq-eqb (number x) (number y) (sym (ap number (the_some y x at))))
among_at number (y ∷ xs) (suc n) x at =
    or_right (number x == number y) (is_among (number x) (map number xs)) (among_at number xs n x at)

-- of elements whose numbers are distinct two with one number are one
same_where_distinct : {A : Type 0} (number : A → ℕ) (xs : List A) → are_distinct (map number xs) ≡ true
    → (n k : ℕ) (x y : A) → slice_get xs n ≡ Some x → slice_get xs k ≡ Some y → number x ≡ number y → x ≡ y
same_where_distinct number [] distinct n k x y at there same = absurd (none_some x at)
same_where_distinct {A = A} number (z ∷ xs) distinct n k x y at there same =
    let parts = is_not (is_among (number z) (map number xs)) (are_distinct (map number xs)) distinct in
    by_place parts.0 (λ n k. same_where_distinct number xs parts.1 n k x y) n k at there
  where
    by_place : is_among (number z) (map number xs) ≡ false
        → ((n k : ℕ) → slice_get xs n ≡ Some x → slice_get xs k ≡ Some y → number x ≡ number y → x ≡ y)
        → (n k : ℕ) → slice_get (z ∷ xs) n ≡ Some x → slice_get (z ∷ xs) k ≡ Some y → x ≡ y
    by_place apart rest zero zero at there = sym (the_some z x at) ∙ the_some z y there
    by_place apart rest zero (suc k) at there =
        let number_is = sym same ∙ sym (ap number (the_some z x at)) in
        absurd (clash _ (ap (λ i. is_among i (map number xs)) (sym number_is) ∙ among_at number xs k y there) apart)
    by_place apart rest (suc n) zero at there =
        let number_is = same ∙ sym (ap number (the_some z y there)) in
        absurd (clash _ (ap (λ i. is_among i (map number xs)) (sym number_is) ∙ among_at number xs n x at) apart)
    by_place apart rest (suc n) (suc k) at there = rest n k at there same

-- ---- rows with code

not_abstract : (a : Bool) → cond a false true ≡ true → a ≡ false
not_abstract true e = no_true e
not_abstract false e = refl

-- what a row's header says of its code
abbrev describes : Bool → Method → Bool
describes coded found = cond found.header.is_abstract (not coded) coded

-- a row's handlers, and its code with them
abbrev pub its_handlers : MethodComponent → MethodRow → Option (List Handler)
its_handlers methods m = part m.handler_index m.handler_count methods.handlers

abbrev pub body_in : MethodRow → Bool → Option Method → Option (List Handler) → Option MethodBody
body_in m coded o p = cond coded (option_and_then (λ found. option_map (made m found) p) o) None

module _ (methods : MethodComponent) (m : MethodRow) (described : is_described methods m ≡ true) where
  -- a row whose header isn't abstract has code
  concrete_coded : (header : MethodHeader) → header_at m.offset methods ≡ Some header → header.is_abstract ≡ false
      → (b : MethodBody) × (body_of_method methods m ≡ Some b)
  concrete_coded header at concrete =
      by_parts (method_at m.offset methods) (has_code m) (its_handlers methods m) described at
    where
      by_parts : (o : Option Method) (coded : Bool) (p : Option (List Handler))
          → (option_map_or (describes coded) o true && is_some p) ≡ true
          → option_map (λ (x : Method). x.header) o ≡ Some header → (b : MethodBody) × (body_in m coded o p ≡ Some b)
      by_parts None coded p described at = absurd (none_some header at)
      by_parts (Some found) coded p described at =
          let both = both_true (describes coded found) (is_some p) described in
          let its : found.header.is_abstract ≡ false
          = ap (λ (h : MethodHeader). h.is_abstract) (the_some found.header header at) ∙ concrete in
          let has : coded ≡ true = ap (λ b. cond b (not coded) coded) (sym its) ∙ both.0 in
          let list = there_some p both.1 in
          (made m found list.0, ap (λ b. body_in m b (Some found) p) has ∙ ap (option_map (made m found)) list.1)

  -- a row with code and a header has both
  pub coded_there : has_code m ≡ true → stands_inside methods m ≡ true
      → (b : MethodBody) × (body_of_method methods m ≡ Some b)
  coded_there coded inside = by_parts (method_at m.offset methods) (its_handlers methods m) described inside
    where
      is_inside : Method → Bool
      is_inside found = nat_le m.bytecode_count (length found.code) && handlers_stay_inside methods m found

      by_parts : (o : Option Method) (p : Option (List Handler))
          → (option_map_or (describes (has_code m)) o true && is_some p) ≡ true → option_map_or is_inside o false ≡ true
          → (b : MethodBody) × (body_in m (has_code m) o p ≡ Some b)
      by_parts None p described inside = no_true inside
      by_parts (Some found) p described inside =
          let list = there_some p (both_true (describes (has_code m) found) (is_some p) described).1 in
          (made m found list.0, ap (λ b. body_in m b (Some found) p) coded ∙ ap (option_map (made m found)) list.1)

  -- a row with code has a header that isn't abstract
  coded_concrete : (b : MethodBody) → body_of_method methods m ≡ Some b
      → (header : MethodHeader) × (header_at m.offset methods ≡ Some header) × (header.is_abstract ≡ false)
  coded_concrete b e = by_parts (method_at m.offset methods) (has_code m) (its_handlers methods m) described e
    where
      by_parts : (o : Option Method) (coded : Bool) (p : Option (List Handler))
          → (option_map_or (describes coded) o true && is_some p) ≡ true → body_in m coded o p ≡ Some b
          → (header : MethodHeader) × (option_map (λ (x : Method). x.header) o ≡ Some header)
          × (header.is_abstract ≡ false)
      by_parts o false p described e = absurd (none_some b e)
      by_parts None true p described e = absurd (none_some b e)
      by_parts (Some found) true p described e =
          let fits = (both_true (describes true found) (is_some p) described).0 in
          (found.header, refl, not_abstract found.header.is_abstract fits)

-- ---- a package that was read

module _ (infos : Infos) (p : Package) (fine : IsFine infos p) where
  abbrev rows : List MethodRow
  rows = class_methods fine.read.records fine.read.info.classes

  described_at : (n : ℕ) (row : MethodRow) → slice_get rows n ≡ Some row → is_described fine.read.methods row ≡ true
  described_at n row at = all_at (is_described fine.read.methods) rows n row fine.tested.described at

  row_of : (m : MethodShape) → IsOfClass p.shape m → HasRow fine.read.records fine.read.info fine.read.methods m
  row_of m of =
      let r = fine.read in
      has_row r.records r.info r.methods p.shape r.classes (ascends infos p r) m of

  method_of : (n : ℕ) (row : MethodRow) → slice_get rows n ≡ Some row
      → GivesMethod fine.read.info fine.read.methods p.shape row
  method_of n row at =
      let r = fine.read in
      gives r.records r.info r.methods p.shape r.classes fine.tested.matched r.typed n row at

  -- the body that a row gives is one of the package's
  has_body : (n : ℕ) (row : MethodRow) (b : MethodBody) → slice_get rows n ≡ Some row
      → body_of_method fine.read.methods row ≡ Some b → HasBody p.body.methods row.offset
  has_body n row b at is =
      let place = made_at (body_of_method fine.read.methods) rows n row b at is in
      record {
        body = b;
        place = place.0;
        there = ap (λ bs. slice_get bs place.0) (sym fine.read.bodies) ∙ place.1;
        offset_is = body_offset fine.read.methods row b is;
      }

  declared : (n : ℕ) (b : MethodBody) → slice_get p.body.methods n ≡ Some b → HasConcrete p.shape b.offset
  declared n b at =
      let methods = fine.read.methods in
      let from = made_from (body_of_method methods) rows n b (ap (λ bs. slice_get bs n) fine.read.bodies ∙ at) in
      let row = from.element in
      let method = method_of from.place row from.there in
      let is = is_given fine.read.info.types methods row method.method method.made in
      let header = coded_concrete methods row (described_at from.place row from.there) b from.made in
      record {
        method = method.method;
        of_class = method.of_class;
        offset_is = sym (ap (λ (m : MethodShape). m.offset) is.is) ∙ sym (body_offset methods row b from.made);
        concrete = record {
          header = header.0;
          there = sym (ap (λ (m : MethodShape). m.header) is.is) ∙ header.1;
          concrete = header.2;
        };
      }

  coded : (m : MethodShape) → IsOfClass p.shape m → IsConcrete m → HasBody p.body.methods m.offset
  coded m of concrete =
      let methods = fine.read.methods in
      let row = row_of m of in
      let is = is_given fine.read.info.types methods row.row m row.made in
      let header : header_at row.row.offset methods ≡ Some concrete.header
      = ap (λ (m : MethodShape). m.header) is.is ∙ concrete.there in
      let described = described_at row.place row.row row.there in
      let body = concrete_coded methods row.row described concrete.header header concrete.concrete in
      subst (HasBody p.body.methods) (ap (λ (m : MethodShape). m.offset) is.is)
      (has_body row.place row.row body.0 row.there body.1)

  differ : (m n : MethodShape) → IsOfClass p.shape m → IsOfClass p.shape n → m.offset ≡ n.offset → m ≡ n
  differ m n of_m of_n same =
      let methods = fine.read.methods in
      let types = fine.read.info.types in
      let a = row_of m of_m in
      let b = row_of n of_n in
      let offset_a = ap (λ (m : MethodShape). m.offset) (is_given types methods a.row m a.made).is in
      let offset_b = ap (λ (m : MethodShape). m.offset) (is_given types methods b.row n b.made).is in
      let distinct = (both_true (are_distinct (map (λ row. row.offset) rows)) _ fine.tested.differ).0 in
      let one = same_where_distinct (λ (row : MethodRow). row.offset) rows distinct a.place b.place a.row b.row
      a.there b.there (offset_a ∙ same ∙ sym offset_b) in
      the_some m n (sym a.made ∙ ap (given types methods) one ∙ b.made)

  -- a row that installs gives an install method
  install_method : (n : ℕ) (row : MethodRow) → slice_get rows n ≡ Some row
      → installs fine.read.info.types row ≡ true → HasInstallMethod p row.offset
  install_method n row at installs =
      let methods = fine.read.methods in
      let types = fine.read.info.types in
      let typed = option_map_or is_install_signature (row_at row.type_offset types) false in
      let tests = both_true (row.is_static && has_code row) typed installs in
      let kind = both_true row.is_static (has_code row) tests.0 in
      let inside = all_at (stands_inside methods) rows n row fine.tested.inside at in
      let body = coded_there methods row (described_at n row at) kind.1 inside in
      let method = method_of n row at in
      let is = is_given types methods row method.method method.made in
      let signature : is_install_signature is.signature ≡ true
      = ap (λ o. option_map_or is_install_signature o false) (sym is.typed) ∙ tests.1 in
      record {
        method = method.method;
        of_class = method.of_class;
        offset_is = sym (ap (λ (m : MethodShape). m.offset) is.is);
        static = sym (ap (λ (m : MethodShape). m.is_static) is.is) ∙ kind.0;
        installs = sym (ap (λ (m : MethodShape). is_install_signature m.signature) is.is) ∙ signature;
        coded = has_body n row body.0 at body.1;
      }

  install : InstallMethods p
  install applets n a is at =
      let types = fine.read.info.types in
      let finds : Applet → Bool = λ a. list_any (λ m. m.offset == a.install && installs types m) rows in
      let all = fine.tested.install applets (fine.read.its_applets ∙ is) in
      let one = any_at (λ (m : MethodRow). m.offset == a.install && installs types m) rows
      (all_at finds applets n a all at) in
      let both = both_true (one.element.offset == a.install) (installs types one.element) one.passes in
      subst (HasInstallMethod p) (is_equal one.element.offset a.install both.0)
      (install_method one.place one.element one.there both.1)

pub bodies_in : (infos : Infos) (r : Result Package LoadFault) → r ≡ package_of infos → IfOk r HaveBodies
bodies_in infos (Err fault) e = tt
bodies_in infos (Ok p) e =
    let fine = read_of infos p e in
    record { declared = declared infos p fine; coded = coded infos p fine; differ = differ infos p fine }

pub installs_in : (infos : Infos) (r : Result Package LoadFault) → r ≡ package_of infos → IfOk r InstallMethods
installs_in infos (Err fault) e = tt
installs_in infos (Ok p) e = install infos p (read_of infos p e)
