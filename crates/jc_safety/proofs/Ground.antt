-- What is known of an accepted world in which a machine runs, of each package there, and of the method of a frame.
use Rattle.std.proofs.Common.{◌≡◌, ℕ, zero, suc, ◌-◌, ◌<◌, ◌==◌, Bool, true, false, cond, List, [], ◌∷◌, length, ◌++◌}
use Rattle.std.proofs.Common.{map, Option, Some, slice_get, unwrap_or, refl, sym, ap, ◌∙◌, subst, arith, eqb-true}
use Rattle.std.proofs.lemmas.Bool.{le-ltb}
use Rattle.std.specs.List.{find}
use Rattle.std.specs.Option.{option_and_then, option_map, option_map_or}
use Rattle.jc_cap_desc.specs.Shape.{MethodBody}
use Rattle.jc_cap.specs.declared.method_header.MethodHeader.{MethodHeader}
use Rattle.jc_api.specs.declared.class.ApiClass.{ApiClass}
use Rattle.jc_base.specs.Signature.{Signature}
use Rattle.jc_base.specs.declared.declared_type.DeclaredType.{DeclaredType}
use Rattle.jc_check.specs.Checked.{IsMethodTyped}
use Rattle.jc_cap.specs.declared.entry.MemberRef.{MemberRef}
use Rattle.jc_cap.specs.declared.entry.PoolEntry.{PoolEntry}
use Rattle.jc_cap.specs.declared.entry.PoolEntry.TheVariants.{VirtualMethodref}
use Rattle.jc_check.specs.Package.{arguments_of, max_locals_of, method_of, receiver_of}
use Rattle.jc_classes.specs.Growth.{KeepsAllLookups, StandWithin}
use Rattle.jc_classes.specs.Members.{DeclaredMethod, method_at}
use Rattle.jc_classes.specs.Methods.{method_name}
use Rattle.jc_classes.specs.Subtype.{IsOrder, IsSubtype, is_class_at, is_class_below, is_subtype}
use Rattle.jc_code.specs.Instructions.{instr_at}
use Rattle.jc_code.specs.Listing.{IsListing, ListingLaws, PlacedInstr, placed_at}
use Rattle.jc_link.specs.ApiClasses.{StandsOnApi, StandsThere}
use Rattle.jc_link.specs.Growth.{KeepsAllLinking}
use Rattle.jc_link.specs.KnownTypes.{NameClasses, is_known_target}
use Rattle.jc_link.specs.Linked.{IsKnown, Linked, LinkedBody, World}
use Rattle.jc_link.specs.Sound.{IsHeir, IsSound, behind, itself}
use Rattle.jc_link.specs.Target.{pool_target_of}
use Rattle.jc_link.specs.declared.target.PoolTarget.{PoolTarget}
use Rattle.jc_link.specs.declared.target.PoolTarget.TheVariants.{InstanceField}
use Rattle.jc_names.specs.Names.{home_at}
use Rattle.jc_names.specs.declared.name.ClassName.{ClassName}
use Rattle.jc_names.specs.declared.name.MethodName.TheVariants.{Loaded}
use Rattle.jc_effects.specs.Growth.{KeepsAllMembers, KeepsAllOrders, KeepsOwnMethods}
use Rattle.jc_effects.specs.Method.{own_method, result_of}
use Rattle.jc_store.specs.Heap.{Heap}
use Rattle.jc_types.specs.Ty.{type_of_declared}
use Rattle.jc_types.specs.declared.ty.Ty.{Ty}
use Rattle.jc_machine.specs.Accepted.{HaveCode, IsAccepted, linked_as}
use Rattle.jc_machine.specs.Lookup.{body_at, code_at, declared_at, fields_of, instruction_at}
use Rattle.jc_machine.specs.Machine.{MethodPlace, Surroundings}
use Rattle.jc_machine.specs.Natives.{IsLawful, KeepsObjects}
use Rattle.jc_machine.specs.Runtime.{HasRuntimeObjects}
use Rattle.jc_machine.specs.TypedWords.{KeepWordsTyped}
use Rattle.jc_words.specs.Values.{TaggedValue}

-- ---- packages

-- a loaded package: what was looked up in the world of those before it is the same in the world
pub record Stands (w : World) (number : ℕ) (body : LinkedBody) : Type 0 where
  pub lookups : KeepsAllLookups (linked_as w number body).world w.shapes
  pub linking : KeepsAllLinking (linked_as w number body).world w.shapes
  pub members : KeepsAllMembers (linked_as w number body).world w.shapes
  pub orders : KeepsAllOrders (linked_as w number body).world w.shapes
  pub own : KeepsOwnMethods (linked_as w number body) w.shapes
  pub within : StandWithin (linked_as w number body).world
  pub place : length (linked_as w number body).world - 1 ≡ home_at number
  pub known : IsKnown w.shapes (home_at number) body
  -- what its entries lead to was known where it was linked
  pub named : (index : ℕ) (target : PoolTarget) → slice_get body.targets index ≡ Some target
      → is_known_target (linked_as w number body).world target ≡ true

-- what a machine stands on
pub record Ground {C : Type 0} (s : Surroundings C) : Type 0 where
  pub accepted : IsAccepted s.world
  pub lawful : IsLawful s.natives
  pub order : IsOrder (is_class_below s.world.shapes)
  pub sound : IsSound s.world.shapes
  pub names : NameClasses s.world.shapes
  pub within : StandWithin s.world.shapes
  pub subtypes : (c d : ClassName) → is_class_at s.world.shapes d ≡ true
      → is_subtype s.world.shapes c d ≡ is_class_below s.world.shapes c d
  pub below_subtypes : (c d : ClassName) → is_class_below s.world.shapes c d ≡ true
      → is_subtype s.world.shapes c d ≡ true
  pub found : (c d : ClassName) → is_subtype s.world.shapes c d ≡ true → IsSubtype s.world.shapes c d
  pub heirs : (c d : ClassName) → is_class_at s.world.shapes d ≡ true → IsSubtype s.world.shapes c d
      → is_class_below s.world.shapes c d ≡ true
  pub on_api : StandsOnApi s.world.shapes
  pub api : (c : ApiClass) → StandsThere s.world.shapes c
  pub code : HaveCode s.world
  pub packages : (number : ℕ) (body : LinkedBody) → body_at s.world number ≡ Some body → Stands s.world number body
  pub fields : (home : ℕ) (entry : PoolEntry) (class : ClassName) (cell : ℕ) (declared : DeclaredType ClassName)
      → pool_target_of s.world.shapes home entry ≡ Some (InstanceField class cell declared) → (c : ClassName)
      → is_class_below s.world.shapes c class ≡ true → slice_get (fields_of s.world.shapes c) cell ≡ Some (Some declared)
  pub listed : (code : List ℕ) (listing : List PlacedInstr) (pc : ℕ) (x : PlacedInstr)
      → IsListing instr_at code listing → placed_at listing pc ≡ Some x → instruction_at code pc ≡ Some x.instr
  pub listing : ListingLaws instr_at
  pub words : KeepWordsTyped C
  pub objects_stay : (before after : Heap TaggedValue) → KeepsObjects before after → HasRuntimeObjects before
      → HasRuntimeObjects after
  pub typed_methods : (place : MethodPlace) (body : LinkedBody) (code : MethodBody)
      → body_at s.world place.number ≡ Some body → code_at s.world place ≡ Some code
      → IsMethodTyped (linked_as s.world place.number body) code
  pub tokens : (number : ℕ) (body : LinkedBody) (index : ℕ) (ref : MemberRef) → body_at s.world number ≡ Some body
      → slice_get body.kept.pool index ≡ Some (VirtualMethodref ref) → ref.token < 256

-- whatever is below a class is one
module _ {C : Type 0} (s : Surroundings C) (ground : Ground s) where
  pub heir_there : (c d : ClassName) → IsHeir s.world.shapes c d → is_class_at s.world.shapes d ≡ true
      → is_class_at s.world.shapes c ≡ true
  heir_there _ _ (itself c) there = there
  heir_there _ _ (behind c d e up h) there = ground.names.heirs c d up

-- ---- methods

-- a method with code is declared, with a header, and the check saw it so
pub record MethodOf (w : World) (place : MethodPlace) (body : LinkedBody) (code : MethodBody) : Type 0 where
  pub declared : DeclaredMethod
  pub found : declared_at w place ≡ Some declared
  pub header : MethodHeader
  pub header_is : declared.method.header ≡ Some header
  pub concrete : header.is_abstract ≡ false
  pub max_stack : (method_of (linked_as w place.number body) code).max_stack ≡ header.max_stack
  pub max_locals : (method_of (linked_as w place.number body) code).max_locals ≡ header.max_locals
  pub arguments : (method_of (linked_as w place.number body) code).arguments ≡ arguments_of w.shapes declared
  pub returned : (method_of (linked_as w place.number body) code).returned ≡ result_of w.shapes declared

-- what is found is there, and passes the test
pub record Finds {A : Type 0} (test : A → Bool) (xs : List A) (x : A) : Type 0 where
  pub place : ℕ
  pub there : slice_get xs place ≡ Some x
  pub passes : test x ≡ true

pub found_there : {A : Type 0} (test : A → Bool) (xs : List A) (x : A) → find test xs ≡ Some x → Finds test xs x
found_there test [] x e = absurd cc
found_there {A} test (y ∷ xs) x e = by_test (test y) refl (found_there test xs x) e
  where
    by_test : (b : Bool) → test y ≡ b → (find test xs ≡ Some x → Finds test xs x)
        → cond b (Some y) (find test xs) ≡ Some x → Finds test (y ∷ xs) x
    by_test true t later e =
        let same : y ≡ x = cc in
        record { place = 0; there = ap Some same; passes = subst (λ (z : A). test z ≡ true) same t }
    by_test false t later e =
        let f = later e in
        record { place = suc f.place; there = f.there; passes = f.passes }

pub named : (n offset : ℕ) → method_name (suc (suc n)) offset ≡ Loaded (suc n) offset
named n offset = grind (arith, le-ltb)

-- a method's arguments, by its type
abbrev with_types : DeclaredMethod → Option (Signature ClassName) → List Ty
with_types d o =
    receiver_of d ++ option_map_or (λ (signature : Signature ClassName). map type_of_declared signature.parameters) o []

module _ (w : World) (number offset : ℕ) (body : LinkedBody) (code : MethodBody) (stands : Stands w number body) where
  abbrev linked : Linked
  linked = linked_as w number body

  -- the method as the check saw it, where its package found it
  as_declared : (d : DeclaredMethod) (header : MethodHeader)
      → declared_at w (record { number = number; offset = offset }) ≡ Some d → d.method.header ≡ Some header
      → header.is_abstract ≡ false → own_method linked code.offset ≡ Some d
      → MethodOf w (record { number = number; offset = offset }) body code
  as_declared d header found header_is concrete own =
      let types = stands.linking.declared_types d (stands.within.declared (method_name (length linked.world - 1) code.offset) d own) in record {
        declared = d;
        found = found;
        header = header;
        header_is = header_is;
        concrete = concrete;
        max_stack =
            ap (λ (o : Option DeclaredMethod).
            unwrap_or (option_map (λ (h : MethodHeader). h.max_stack) (option_and_then (λ (d : DeclaredMethod). d.method.header) o)) 0)
            own
            ∙ ap (λ (o : Option MethodHeader). unwrap_or (option_map (λ (h : MethodHeader). h.max_stack) o) 0) header_is;
        max_locals =
            ap (λ (o : Option DeclaredMethod). option_map_or max_locals_of o 0) own
            ∙ ap (λ (o : Option MethodHeader). option_map_or (λ (h : MethodHeader). h.max_locals) o 0) header_is;
        arguments =
            ap (λ (o : Option DeclaredMethod). option_map_or (arguments_of linked.world) o []) own
            ∙ ap (with_types d) (sym types);
        returned =
            sym (stands.own.returned code.offset)
            ∙ ap (λ (o : Option DeclaredMethod). option_and_then (result_of w.shapes) o) own;
      }

-- a method with code, by the number of its package
module _ (w : World) (offset : ℕ) (body : LinkedBody) (code : MethodBody) where
  pub method_of_code : (number : ℕ) → body_at w number ≡ Some body → Stands w number body
      → code_at w (record { number = number; offset = offset }) ≡ Some code
      → MethodOf w (record { number = number; offset = offset }) body code
  method_of_code zero loaded stands there = absurd cc
  method_of_code (suc n) loaded stands there =
      let searched : find (λ (x : MethodBody). x.offset == offset) body.kept.methods ≡ Some code =
      sym (ap (λ (o : Option LinkedBody). option_and_then (λ (b : LinkedBody). find (λ (x : MethodBody). x.offset == offset) b.kept.methods) o) loaded)
      ∙ there in
      let f = found_there (λ (x : MethodBody). x.offset == offset) body.kept.methods code searched in
      let same = eqb-true code.offset offset f.passes in
      let known = stands.known.declared f.place code f.there in
      let d = known.declared in
      let name : method_name (home_at (suc n)) code.offset ≡ Loaded (suc n) offset =
      named n code.offset ∙ ap (Loaded (suc n)) same in
      let here : method_name (length (linked_as w (suc n) body).world - 1) code.offset
      ≡ method_name (home_at (suc n)) code.offset = ap (λ h. method_name h code.offset) stands.place in
      as_declared w (suc n) offset body code stands d known.concrete.header
      (sym (ap (method_at w.shapes) name) ∙ known.there)
      known.concrete.there known.concrete.concrete
      (sym (stands.own.declared code.offset) ∙ ap (method_at w.shapes) here ∙ known.there)
