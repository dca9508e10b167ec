-- Packages behind the others change nothing of what instructions do in methods of those before them.
use Rattle.std.proofs.Common.{◌≡◌, ℕ, ◌+◌, ◌-◌, ◌==◌, ◌&&◌, not, List, ◌∷◌, Bool, true, false, cond, refl, ap, ◌∙◌, arith, length, Option, Some, None, Result, Ok, Err, nat_lt, slice_get}
use Rattle.std.proofs.Math.Path.{fun_ext}
use Rattle.std.specs.List.{find, list_all}
use Rattle.std.specs.Option.{option_and_then, option_map, option_map_or}
use Rattle.jc_base.specs.Signature.{Signature}
use Rattle.jc_base.specs.declared.class_ref.ClassRef.{ClassRef}
use Rattle.jc_base.specs.declared.reason.Reason.{Reason}
use Rattle.jc_base.specs.declared.reason.Reason.TheVariants.{BadLocal, StackUnder, WrongType, StackOver}
use Rattle.jc_cap.specs.ClassComponent.{is_class}
use Rattle.jc_cap_desc.specs.Shape.{ClassShape, MethodShape, Shape}
use Rattle.jc_api.specs.Class.{is_abstract, is_interface}
use Rattle.jc_api.specs.declared.class.ApiClass.{ApiClass}
use Rattle.jc_api.specs.declared.class.ApiClass.TheVariants.{Object}
use Rattle.jc_code.specs.declared.instr.Operation.{Operation}
use Rattle.jc_code.specs.declared.instr.Operation.TheVariants as Operations
use Rattle.jc_code.specs.declared.instr.WordOperation.{WordOperation}
use Rattle.jc_code.specs.declared.object.Creation.{Creation}
use Rattle.jc_code.specs.declared.object.Invocation.{Invocation}
use Rattle.jc_code.specs.declared.object.Invocation.TheVariants.{Interface}
use Rattle.jc_code.specs.declared.object.ObjectOperation.{ObjectOperation}
use Rattle.jc_code.specs.declared.object.TestedType.{TestedType}
use Rattle.jc_classes.specs.Growth.{IsWithin, KeepsAllLookups, StandWithin}
use Rattle.jc_classes.specs.Members.{DeclaredMethod}
use Rattle.jc_classes.specs.Methods.{method_name}
use Rattle.jc_classes.specs.Subtype.{is_class_at, is_class_below, is_interface_at}
use Rattle.jc_names.specs.Names.{home_of}
use Rattle.jc_classes.specs.World.{class_at}
use Rattle.jc_names.specs.declared.name.ClassName.{ClassName}
use Rattle.jc_names.specs.declared.name.ClassName.TheVariants.{Api}
use Rattle.jc_link.specs.ApiClasses.{StandsThere}
use Rattle.jc_link.specs.Growth.{HasApi, KeepsAllLinking}
use Rattle.jc_link.specs.Linked.{Linked}
use Rattle.jc_link.specs.MemberType.{counted, member_type_of}
use Rattle.jc_link.specs.declared.target.PoolTarget.{PoolTarget}
use Rattle.jc_types.specs.Known.{AreKnown, is_known}
use Rattle.jc_types.specs.State.{Types, all_below, types_below}
use Rattle.jc_types.specs.Ty.{is_below}
use Rattle.jc_types.specs.declared.ty.Ty.{Ty}
use Rattle.jc_types.specs.declared.ty.Ty.TheVariants.{Class, ReferenceArray}
use Rattle.jc_effects.proofs.Knowing.{entry_class, local_known, reverse_known, take_known}
use Rattle.jc_effects.proofs.Order.{and_true, both}
use Rattle.jc_effects.specs.Effect.{effect_of}
use Rattle.jc_effects.specs.Growth.{KeepsAllMembers, KeepsAllOrders, KeepsOwnMethods, in_world}
use Rattle.jc_effects.specs.Laws.{NamesKnown}
use Rattle.jc_effects.specs.Method.{own_method, result_of}
use Rattle.jc_effects.specs.Objects.{Setting, class_of_entry, creation_row, has_objects, interface_method_type, interface_target_row, invocation_row, object_row, tested_type}
use Rattle.jc_effects.specs.Row.{Row, after, all_meet, applied, count_of, has_local, is_met, local_meets, meets}
use Rattle.jc_effects.specs.Words.{word_effect}
use Rattle.jc_effects.specs.declared.row.Demand.{Demand}
use Rattle.jc_effects.specs.declared.row.LocalDemand.{LocalDemand}

-- ---- options

then_same : {A B : Type 0} (f g : A → Option B) (o : Option A) → ((a : A) → o ≡ Some a → f a ≡ g a)
    → option_and_then f o ≡ option_and_then g o
then_same f g o h1 = grind arith

map_same : {A B : Type 0} (f g : A → B) (o : Option A) → ((a : A) → o ≡ Some a → f a ≡ g a)
    → option_map f o ≡ option_map g o
map_same f g o h1 = grind arith

-- ---- classes and methods of the earlier world

module _ (before later : List Shape) (lookups : KeepsAllLookups before later)
    (linking : KeepsAllLinking before later) where
  objects_stay : (c : ClassName) → IsWithin before c → has_objects later c ≡ has_objects before c
  objects_stay c w = grind (arith, not)

  interface_type_stays : (c : ClassName) (token : ℕ) → IsWithin before c
      → interface_method_type later c token ≡ interface_method_type before c token
  interface_type_stays c token w =
      ap (type_in (member_type_of later (home_of c))) (lookups.classes c w)
      ∙ ap (λ (types : Signature ClassRef → Option (Signature ClassName)). type_in types (class_at before c))
      (fun_ext (λ s. linking.types (home_of c) s w))
    where
      type_in : (Signature ClassRef → Option (Signature ClassName)) → Option ClassShape → Option (Signature ClassName)
      type_in types o =
          option_and_then (λ (k : ClassShape).
          cond (is_class k.body) None
          (option_and_then (λ (m : MethodShape). types m.signature) (find (λ m. m.token == token) k.methods))) o

  result_stays : (d : DeclaredMethod) → IsWithin before d.class → result_of later d ≡ result_of before d
  result_stays d w = grind arith

  pub members_stay : KeepsAllMembers before later
  members_stay = record { objects = objects_stay; interface_types = interface_type_stays; results = result_stays }

pub own_methods_stay : (l : Linked) (later : List Shape) → KeepsAllLookups l.world later → KeepsAllLinking l.world later
    → StandWithin l.world → HasApi l.world → KeepsOwnMethods l later
own_methods_stay l later lookups linking there has = record {
  declared = λ offset.
      lookups.methods (method_name (length l.world - 1) offset)
      (there.names (length l.world - 1) offset has (omega (arith, has)));
  returned = λ offset.
      then_same (result_of later) (result_of l.world) (own_method l offset)
      (λ d e.
      result_stays l.world later lookups linking d (there.declared (method_name (length l.world - 1) offset) d e));
}

-- ---- classes of the API

pub api_objects : (world : List Shape) (c : ApiClass) → StandsThere world c
    → has_objects world (Api c) ≡ not (is_interface c) && not (is_abstract c)
api_objects world c stands = grind (arith, not)

-- ---- orders that say the same of known classes

module _ (known : ClassName → Bool) (one other : ClassName → ClassName → Bool)
    (same : (c d : ClassName) → known c ≡ true → one c d ≡ other c d) (object : known (Api Object) ≡ true) where
  class_same : (t : Ty) (d : ClassName) → is_known known t ≡ true
      → is_below one t (Class d) ≡ is_below other t (Class d)
  class_same t d h1 = grind arith

  array_same : (t : Ty) (d : ClassName) → is_known known t ≡ true
      → is_below one t (ReferenceArray d) ≡ is_below other t (ReferenceArray d)
  array_same t d h1 = grind arith

  below_same : (t u : Ty) → is_known known t ≡ true → is_below one t u ≡ is_below other t u
  below_same t u h1 = grind (arith, class_same, array_same)

  meets_same : (demand : Demand) (t : Ty) → is_known known t ≡ true → meets one demand t ≡ meets other demand t
  meets_same demand t h1 = grind (arith, below_same)

  all_meet_same : (demands : List Demand) (ts : List Ty) → list_all (is_known known) ts ≡ true
      → all_meet one demands ts ≡ all_meet other demands ts
  all_meet_same (d ∷ demands) (t ∷ ts) h =
      let two = both (is_known known t) (list_all (is_known known) ts) h in
      ap (λ b. b && all_meet one demands ts) (meets_same d t two.0)
      ∙ ap (λ b. meets other d t && b) (all_meet_same demands ts two.1)
  all_meet_same t u h = refl

  local_same : (place : LocalDemand) (t : Ty) → is_known known t ≡ true → local_meets one place t ≡ local_meets other place t
  local_same place t h1 = grind (arith, meets_same)

  met_same : (row : Row) (s : Types) → AreKnown known s → is_met one row s ≡ is_met other row s
  met_same row s have = search (arith, length, reverse_known, take_known, local_same, local_known, all_meet_same)

  applied_same : (most : ℕ) (o : Option Row) (s : Types) → AreKnown known s
      → applied one most o s ≡ applied other most o s
  unfolding applied
  applied_same most None s have = refl
  applied_same most (Some row) s have = ap by_met (met_same row s have)
    where
      by_met : Bool → Result Types Reason
      by_met met =
          cond (not (has_local row.local s.locals)) (Err BadLocal)
          (cond (nat_lt (length s.operands) (length row.operands)) (Err StackUnder)
          (cond (not met) (Err WrongType)
          (cond (nat_lt most (length s.operands - length row.operands + count_of row.pushed)) (Err StackOver)
          (Ok (after row s)))))

  word_same : (most : ℕ) (returned : Option Ty) (operation : WordOperation) (s : Types) → AreKnown known s
      → word_effect one most returned operation s ≡ word_effect other most returned operation s
  unfolding word_effect
  word_same most returned operation s h1 = grind (arith, applied_same)

-- ---- an order of classes with more below others

module _ (one other : ClassName → ClassName → Bool) (more : (c d : ClassName) → one c d ≡ true → other c d ≡ true) where
  class_up : (t : Ty) (d : ClassName) → is_below one t (Class d) ≡ true → is_below other t (Class d) ≡ true
  class_up t d h1 = grind arith

  array_up : (t : Ty) (d : ClassName) → is_below one t (ReferenceArray d) ≡ true
      → is_below other t (ReferenceArray d) ≡ true
  array_up t d h1 = grind arith

  type_up : (t u : Ty) → is_below one t u ≡ true → is_below other t u ≡ true
  type_up t u h1 = grind (arith, class_up, array_up)

  all_up : (ts us : List Ty) → all_below one ts us ≡ true → all_below other ts us ≡ true
  all_up (t ∷ ts) (u ∷ us) h =
      let two = both (is_below one t u) (all_below one ts us) h in
      and_true (is_below other t u) (all_below other ts us) (type_up t u two.0) (all_up ts us two.1)
  all_up t u h = h

  state_up : (s t : Types) → types_below one s t ≡ true → types_below other s t ≡ true
  state_up s t h = grind (arith, both, and_true, all_up)

pub orders_stay : (before later : List Shape)
    → ((c d : ClassName) → is_class_below before c d ≡ true → is_class_below later c d ≡ true)
    → KeepsAllOrders before later
orders_stay before later more = grind (arith, type_up, state_up)

-- ---- effects

there_of : (test : ClassShape → Bool) (o : Option ClassShape) → option_map_or test o false ≡ true
    → (k : ClassShape) × (o ≡ Some k)
there_of test o h1 = grind arith

module _ (set : Setting) (later : List Shape) (lookups : KeepsAllLookups set.world later)
    (linking : KeepsAllLinking set.world later) (there : StandWithin set.world) (names : NamesKnown set) where
  class_within : (c : ClassName) → is_class_at set.world c ≡ true → IsWithin set.world c
  class_within c e = let k = there_of (λ k. is_class k.body) (class_at set.world c) e in there.classes c k.0 k.1

  interface_within : (c : ClassName) → is_interface_at set.world c ≡ true → IsWithin set.world c
  interface_within c e = grind (arith, there_of, not)

  counted_within : (c : ClassName) → is_class_at set.world (counted set.world c) ≡ true → IsWithin set.world c
  counted_within c e = by_kind (is_interface_at set.world c) refl e
    where
      by_kind : (b : Bool) → is_interface_at set.world c ≡ b → is_class_at set.world (cond b (Api Object) c) ≡ true
          → IsWithin set.world c
      by_kind b h1 h2 = grind (arith, interface_within, class_within)

  entry_within : (index : ℕ) (c : ClassName) → class_of_entry set index ≡ Some c → IsWithin set.world c
  entry_within index c e = counted_within c (entry_class set names index c e)

  interface_target_same : (arguments token index : ℕ) (o : Option PoolTarget) → slice_get set.targets index ≡ o
      → option_and_then (interface_target_row later arguments token) o
      ≡ option_and_then (interface_target_row set.world arguments token) o
  interface_target_same arguments token index o h1 = grind (arith, interface_type_stays, entry_within)

  invocation_same : (invocation : Invocation)
      → invocation_row (in_world later set) invocation ≡ invocation_row set invocation
  invocation_same (Interface arguments index token) =
      interface_target_same arguments token index (slice_get set.targets index) refl
  invocation_same t = refl

  creation_same : (creation : Creation) → creation_row (in_world later set) creation ≡ creation_row set creation
  creation_same creation = grind (arith, map_same, objects_stay, entry_within)

  tested_same : (tested : TestedType) → tested_type (in_world later set) tested ≡ tested_type set tested
  tested_same tested = grind (arith, map_same, entry_within)

  row_same : (operation : ObjectOperation) → object_row (in_world later set) operation ≡ object_row set operation
  unfolding object_row
  row_same operation = grind (arith, invocation_same, creation_same, tested_same)

  order_same : (c d : ClassName) → is_class_at set.world c ≡ true
      → is_class_below later c d ≡ is_class_below set.world c d
  order_same c d e = lookups.order c d (class_within c e)

  pub effect_stays : (most : ℕ) (operation : Operation) (s : Types) → AreKnown (is_class_at set.world) s
      → effect_of (in_world later set) most operation s ≡ effect_of set most operation s
  unfolding effect_of
  effect_stays most (Operations.Word operation) s have =
      word_same (is_class_at set.world) (is_class_below later) (is_class_below set.world) order_same names.world.object
      most set.returned operation s have
  effect_stays most (Operations.Object operation) s have =
      ap (λ (o : Option Row). applied (is_class_below later) most o s) (row_same operation)
      ∙ applied_same (is_class_at set.world) (is_class_below later) (is_class_below set.world) order_same
      names.world.object
      most (object_row set operation) s have
