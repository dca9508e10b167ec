-- Casts are safe: what passes a test is of the type that the check gives it.
use Rattle.std.proofs.Common.{◌≡◌, ℕ, List, [], ◌∷◌, slice_get, Bool, true, false, arith}
use Rattle.std.proofs.Common.{Option, Some, None, refl, sym, ap, ◌∙◌, subst}
use Rattle.std.specs.Option.{option_map, option_map_or}
use Rattle.jc_cap_desc.specs.Shape.{Shape}
use Rattle.jc_classes.specs.Members.{DeclaredMethod}
use Rattle.jc_classes.specs.Subtype.{is_class_below, is_subtype}
use Rattle.jc_code.specs.declared.object.TestedType.{TestedType}
use Rattle.jc_code.specs.declared.object.TestedType.TheVariants as Tested
use Rattle.jc_code.specs.declared.object.WordKind.{WordKind}
use Rattle.jc_firewall.specs.declared.access.Access.{Access}
use Rattle.jc_firewall.specs.declared.access.Access.TheVariants as accesses
use Rattle.jc_link.specs.MemberType.{counted}
use Rattle.jc_link.specs.declared.target.PoolTarget.{PoolTarget}
use Rattle.jc_names.specs.declared.name.ClassName.{ClassName}
use Rattle.jc_effects.specs.Objects as checked
use Rattle.jc_effects.specs.Objects.{Setting, class_of_entry, class_target, reference_array, tested_type}
use Rattle.jc_effects.specs.Row.{Row}
use Rattle.jc_effects.specs.Words.{takes}
use Rattle.jc_effects.specs.declared.row.Demand.TheVariants.{Reference}
use Rattle.jc_effects.specs.declared.row.Given.TheVariants.{Exactly}
use Rattle.jc_store.specs.Heap as heaps
use Rattle.jc_store.specs.Heap.{object_at}
use Rattle.jc_store.specs.declared.kind.ObjectType.{ObjectType}
use Rattle.jc_store.specs.declared.kind.ObjectType.TheVariants.{BooleanArray, ByteArray, Instance, ReferenceArray}
use Rattle.jc_store.specs.declared.kind.ObjectType.TheVariants.{ShortArray}
use Rattle.jc_types.specs.State.{Types}
use Rattle.jc_types.specs.declared.ty.Ty.{Ty}
use Rattle.jc_types.specs.declared.ty.Ty.TheVariants as types
use Rattle.jc_machine.specs.Going.{StepContext, gives, judged, on_object, on_reference, require, wanting}
use Rattle.jc_machine.specs.Lookup.{class_of, component_class, is_instance, is_of_class, leads_to}
use Rattle.jc_machine.specs.Machine.{Machine, Stepped, Surroundings}
use Rattle.jc_machine.specs.Objects.{InstanceTest, act_check_cast, act_instance_of, bit, is_array_of_words, on_test, tested}
use Rattle.jc_machine.specs.Runtime.{class_cast_exception}
use Rattle.jc_machine.specs.Typed.{IsOperand, IsTyped, has_type}
use Rattle.jc_words.specs.Values.{Null, Ref, TaggedValue, is_tagged_reference}
use Rattle.jc_safety.proofs.Below.{counted_below, counted_reflexive, instance_below}
use Rattle.jc_safety.proofs.FieldRows.{from_entry}
use Rattle.jc_safety.proofs.Goes.{placed, throws_at}
use Rattle.jc_safety.proofs.Ground.{Ground}
use Rattle.jc_safety.proofs.Making.{mapped_some, setting}
use Rattle.jc_safety.proofs.Naming.{named_class}
use Rattle.jc_safety.proofs.References.{leads_reference}
use Rattle.jc_safety.proofs.Rows as rows
use Rattle.jc_safety.proofs.Safe.{IsSafe, safe_check, safe_judged, safe_some}
use Rattle.jc_safety.proofs.Taking.{Applied, HasRow, any_object, take_one}
use Rattle.jc_safety.proofs.Thrown.{class_cast, security}
use Rattle.jc_safety.proofs.Upward.{holds_below}
use Rattle.jc_safety.proofs.Writing.{ref_case}

module _ {C : Type 0} (s : Surroundings C) (ground : Ground s) (m : Machine C) (t : IsTyped s m) (d : DeclaredMethod)
    (next : ℕ) where
  abbrev at : List TaggedValue → StepContext C
  at vs = rows.here s ground m t d next vs

  abbrev shapes : List Shape
  shapes = s.world.shapes

  abbrev most : ℕ
  most = rows.most s ground m t

  abbrev state : Types
  state = rows.state s ground m t

  abbrev below : ClassName → ClassName → Bool
  below = rows.below s ground m t

  abbrev LeadsTo : Types → ℕ → Type 0
  LeadsTo after pc = rows.LeadsTo s ground m t after pc

  abbrev set : Setting
  set = setting s ground m t d next

  -- an object that passes is of the type, and null is
  record Fits (test : InstanceTest) (u : Ty) : Type 0 where
    passes : (n : ℕ) (o : heaps.Object TaggedValue) → object_at m.heap n ≡ Some o
        → test.passes o.kind.object_type ≡ true → has_type shapes m.heap (Ref n) u ≡ true
    null : has_type shapes m.heap Null u ≡ true

  leads_so : (test : ObjectType → Bool) (n : ℕ) (o : heaps.Object TaggedValue) → object_at m.heap n ≡ Some o
      → test o.kind.object_type ≡ true → leads_to m.heap test (Ref n) ≡ true
  leads_so test n o found e = grind arith

  words_fit : (kind : WordKind)
      → Fits (record { wanted = None; passes = is_array_of_words kind }) (checked.word_array kind)
  words_fit kind = grind (arith, leads_so)

  -- components of the class or below it count below it
  components_fit : (c : ClassName) (o : ObjectType)
      → option_map_or (λ (e : ClassName). is_subtype shapes e c) (component_class o) false ≡ true
      → holds_below shapes (counted shapes c) o ≡ true
  components_fit c (Instance k) e = absurd cc
  components_fit c BooleanArray e = absurd cc
  components_fit c ByteArray e = absurd cc
  components_fit c ShortArray e = absurd cc
  components_fit c (ReferenceArray k) e = counted_below s ground k c e

  abbrev its_entry : ℕ → Option PoolTarget
  its_entry index = slice_get (placed s ground m t).body.targets index

  -- the test that an instruction makes
  test_safe : (type : TestedType) (u : Ty) → tested_type set type ≡ Some u → (us : List TaggedValue)
      → (go : InstanceTest → Stepped C) → ((test : InstanceTest) → Fits test u → IsSafe s (go test))
      → IsSafe s (on_test (at us) type go)
  test_safe (Tested.Class index) u e us go each =
      let x = mapped_some s ground m t d next (λ (c : ClassName). types.Class (counted set.world c))
      (class_of_entry set index) u e in
      let f = from_entry class_target (its_entry index) x.0 x.1 in
      let p = placed s ground m t in
      let named = named_class s.world m.top.method.number p.body (ground.packages m.top.method.number p.body p.loaded)
      index f.target x.0 f.is f.gives in
      let counts : is_class_below shapes (counted shapes x.0) (counted (rows.before s ground m t) x.0) ≡ true =
      subst (λ (k : ClassName). is_class_below shapes (counted shapes x.0) k ≡ true) named.counts
      (counted_reflexive s ground x.0) in
      let test : InstanceTest = record { wanted = Some x.0; passes = is_instance shapes x.0 } in
      rows.safe_target s ground m t d next us index class_target f.target x.0
      (λ c. go (record { wanted = Some c; passes = is_instance shapes c })) f.is f.gives
      (each test
      (subst (λ (v : Ty). Fits test v) x.2
      (record {
        passes = λ n o found e.
            leads_so (is_of_class shapes (counted (rows.before s ground m t) x.0)) n o found
            (instance_below s ground (class_of o.kind.object_type) x.0 (counted (rows.before s ground m t) x.0) e counts);
        null = refl;
      })))
  test_safe (Tested.WordArray kind) u e us go each =
      let same : checked.word_array kind ≡ u = cc in
      let test : InstanceTest = record { wanted = None; passes = is_array_of_words kind } in
      each test (subst (λ (v : Ty). Fits test v) same (words_fit kind))
  test_safe (Tested.ReferenceArray index) u e us go each =
      let x = mapped_some s ground m t d next (reference_array set.world) (class_of_entry set index) u e in
      let f = from_entry class_target (its_entry index) x.0 x.1 in
      let p = placed s ground m t in
      let named = named_class s.world m.top.method.number p.body (ground.packages m.top.method.number p.body p.loaded)
      index f.target x.0 f.is f.gives in
      let test : InstanceTest = record {
        wanted = None;
        passes = λ object. option_map_or (λ (e : ClassName). is_subtype shapes e x.0) (component_class object) false;
      } in
      rows.safe_target s ground m t d next us index class_target f.target x.0
      (λ c. go (record {
        wanted = None;
        passes = λ object. option_map_or (λ (e : ClassName). is_subtype shapes e c) (component_class object) false;
      })) f.is f.gives
      (each test
      (subst (λ (v : Ty). Fits test v) (ap types.ReferenceArray named.counts ∙ x.2)
      (record {
        passes = λ n o found e.
            leads_so (holds_below shapes (counted shapes x.0)) n o found (components_fit x.0 o.kind.object_type e);
        null = refl;
      })))

  -- a reference that is tested
  tested_safe : (access : Access) (type : TestedType) (u : Ty) → tested_type set type ≡ Some u → (us : List TaggedValue)
      → (v : TaggedValue) → leads_to m.heap any_object v ≡ true → (of_null : TaggedValue → Stepped C)
      → (go : TaggedValue → Bool → Stepped C)
      → ((h : has_type shapes m.heap Null u ≡ true) → IsSafe s (of_null Null))
      → ((n : ℕ) (b : Bool) → (b ≡ true → has_type shapes m.heap (Ref n) u ≡ true) → IsSafe s (go (Ref n) b))
      → IsSafe s (tested (at us) access type v (of_null v) (go v))
  tested_safe access type u e us v leads of_null go null each =
      ref_case m.heap any_object (λ x. IsSafe s (tested (at us) access type x (of_null x) (go x))) v leads
      (test_safe type u e us (λ test. of_null Null) (λ test fits. null fits.null))
      (λ n o found any.
      test_safe type u e us
      (λ test. on_object (at us) (Ref n) (λ number object.
      judged (at us) (wanting access number test.wanted) object
      (λ switch. go (Ref n) (test.passes object.kind.object_type))))
      (λ test fits.
      safe_some s (object_at m.heap n) o _ found
      (safe_judged s (at us) (wanting access n test.wanted) o
      (λ switch. go (Ref n) (test.passes o.kind.object_type))
      (throws_at s ground m t us _ (security s ground m.heap t.beside.runtime_objects))
      (λ switch. each n (test.passes o.kind.object_type) (λ passes. fits.passes n o found passes)))))

  -- ---- the instructions

  pub check_cast : (type : TestedType) (after_it : Types)
      → HasRow below most (option_map (λ (u : Ty). takes (Reference ∷ []) (Exactly u)) (tested_type set type)) state after_it
      → LeadsTo after_it next → IsSafe s (act_check_cast (at m.top.operands) type)
  check_cast type after_it h leads =
      let x = mapped_some s ground m t d next (λ (u : Ty). takes (Reference ∷ []) (Exactly u)) (tested_type set type)
      h.found h.is in
      let a = subst (λ (r : Row). Applied below most r state after_it) (sym x.2) h.applied in
      take_one shapes m.heap (λ us. IsSafe s (on_reference us (λ v vs.
      tested (at m.top.operands) accesses.CheckCast type v (gives (at m.top.operands) v vs) (λ passes.
      require (at m.top.operands) class_cast_exception passes (gives (at m.top.operands) v vs))))) Reference
      m.top.operands state.operands t.top.operands_typed a.enough
      (rows.met_by s ground m t (takes (Reference ∷ []) (Exactly x.0)) after_it a)
      (λ v vs is rest.
      safe_check s (is_tagged_reference v) _ (leads_reference m.heap v is)
      (tested_safe accesses.CheckCast type x.0 x.1 m.top.operands v is (λ v. gives (at m.top.operands) v vs)
      (λ v passes. require (at m.top.operands) class_cast_exception passes (gives (at m.top.operands) v vs))
      (λ h.
      rows.gives_it s ground m t d next (Reference ∷ []) m.top.operands vs Null x.0 after_it a
      (record { type = h; written = refl }) rest leads)
      (λ n b fits.
      rows.safe_required s ground m t d next m.top.operands class_cast_exception b _
      (class_cast s ground m.heap t.beside.runtime_objects)
      (λ passes.
      rows.gives_it s ground m t d next (Reference ∷ []) m.top.operands vs (Ref n) x.0 after_it a
      (record { type = fits passes; written = refl }) rest leads))))

  -- whether it passes, as a word
  bit_typed : (b : Bool) → IsOperand shapes m.heap (bit b) types.Word
  bit_typed b = grind arith

  pub instance_of : (type : TestedType) (after_it : Types)
      → HasRow below most (option_map (λ (u : Ty). takes (Reference ∷ []) (Exactly types.Word)) (tested_type set type)) state after_it
      → LeadsTo after_it next → IsSafe s (act_instance_of (at m.top.operands) type)
  instance_of type after_it h leads =
      let x = mapped_some s ground m t d next (λ (u : Ty). takes (Reference ∷ []) (Exactly types.Word))
      (tested_type set type) h.found h.is in
      let a = subst (λ (r : Row). Applied below most r state after_it) (sym x.2) h.applied in
      take_one shapes m.heap (λ us. IsSafe s (on_reference us (λ v vs.
      tested (at m.top.operands) accesses.InstanceOf type v (gives (at m.top.operands) (bit false) vs) (λ passes.
      gives (at m.top.operands) (bit passes) vs)))) Reference
      m.top.operands state.operands t.top.operands_typed a.enough
      (rows.met_by s ground m t (takes (Reference ∷ []) (Exactly types.Word)) after_it a)
      (λ v vs is rest.
      safe_check s (is_tagged_reference v) _ (leads_reference m.heap v is)
      (tested_safe accesses.InstanceOf type x.0 x.1 m.top.operands v is
      (λ v. gives (at m.top.operands) (bit false) vs) (λ v passes. gives (at m.top.operands) (bit passes) vs)
      (λ h.
      rows.gives_it s ground m t d next (Reference ∷ []) m.top.operands vs (bit false) types.Word after_it a
      (bit_typed false) rest leads)
      (λ n b fits.
      rows.gives_it s ground m t d next (Reference ∷ []) m.top.operands vs (bit b) types.Word after_it a
      (bit_typed b) rest leads)))
