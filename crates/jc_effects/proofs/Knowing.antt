-- What effects leave names known classes, where what was before does and what entries of the pool lead to does.
use Rattle.std.proofs.Common.{◌≡◌, ℕ, zero, suc, ◌+◌, ◌-◌, ◌==◌, ◌&&◌, max, List, [], ◌∷◌, ◌++◌, Bool, true, false, cond, not, refl, ap, ◌∙◌, subst, length, take, drop, reverse, slice_get, slice_set, Option, Some, None, Ok, nat_lt, unwrap_or, arith}
use Rattle.std.proofs.lemmas.List.Folds.{list_all-append}
use Rattle.std.specs.List.{find, list_all}
use Rattle.std.specs.Option.{option_and_then, option_map, option_map_or}
use Rattle.jc_base.specs.Signature.{Signature}
use Rattle.jc_base.specs.Stack.{duplicated, swapped}
use Rattle.jc_base.specs.declared.declared_type.DeclaredType.{DeclaredType}
use Rattle.jc_base.specs.declared.declared_type.ReturnType.{ReturnType}
use Rattle.jc_cap.specs.ClassComponent.{is_class}
use Rattle.jc_cap_desc.specs.Shape.{ClassShape, MethodShape}
use Rattle.jc_code.specs.declared.instr.Operation.{Operation}
use Rattle.jc_code.specs.declared.instr.Operation.TheVariants as Operations
use Rattle.jc_code.specs.declared.instr.Shuffle as shuffles
use Rattle.jc_code.specs.declared.instr.Shuffle.TheVariants.{Pop, Duplicate, Swap}
use Rattle.jc_code.specs.declared.instr.WordOperation.{WordOperation}
use Rattle.jc_code.specs.declared.instr.WordOperation.TheVariants as Words
use Rattle.jc_code.specs.declared.object.Creation.{Creation}
use Rattle.jc_code.specs.declared.object.Creation.TheVariants as Creations
use Rattle.jc_code.specs.declared.object.FieldAccess.{FieldAccess}
use Rattle.jc_code.specs.declared.object.FieldAction.{FieldAction}
use Rattle.jc_code.specs.declared.object.Form.{Form}
use Rattle.jc_code.specs.declared.object.Holder.{Holder}
use Rattle.jc_code.specs.declared.object.Invocation.{Invocation}
use Rattle.jc_code.specs.declared.object.Invocation.TheVariants.{Virtual, Special, Static, Interface}
use Rattle.jc_code.specs.declared.object.ObjectOperation.{ObjectOperation}
use Rattle.jc_code.specs.declared.object.ObjectOperation.TheVariants.{LoadComponent, Field, Invoke, Create, CheckCast, InstanceOf, ReturnReference}
use Rattle.jc_code.specs.declared.object.TestedType.{TestedType}
use Rattle.jc_code.specs.declared.object.TestedType.TheVariants as Tested
use Rattle.jc_code.specs.declared.object.WordKind.{WordKind}
use Rattle.jc_classes.specs.Subtype.{is_class_at, is_class_below}
use Rattle.jc_names.specs.Names.{home_of}
use Rattle.jc_classes.specs.World.{class_at}
use Rattle.jc_names.specs.declared.name.ClassName.{ClassName}
use Rattle.jc_link.specs.KnownTypes.{is_known_return, is_known_signature, is_known_target, is_known_type}
use Rattle.jc_link.specs.MemberType.{counted, member_type_of}
use Rattle.jc_link.specs.declared.target.PoolTarget.{PoolTarget}
use Rattle.jc_link.specs.declared.target.PoolTarget.TheVariants as To
use Rattle.jc_types.specs.Changes.{with_operands, drop_types, duplicate_types, swap_types}
use Rattle.jc_types.specs.Known.{AreKnown, is_known}
use Rattle.jc_types.specs.State.{Types}
use Rattle.jc_types.specs.Ty.{type_of_declared}
use Rattle.jc_types.specs.declared.ty.Ty.{Ty}
use Rattle.jc_types.specs.declared.ty.Ty.TheVariants.{Top, Word, Class, ReferenceArray}
use Rattle.jc_effects.proofs.Lower.{reverse-cons}
use Rattle.jc_effects.proofs.Monotone.{four, one, three, two}
use Rattle.jc_effects.specs.Effect.{effect_of}
use Rattle.jc_effects.specs.Laws.{NamesKnown}
use Rattle.jc_effects.specs.Objects.{Setting, call, class_of_entry, class_target, component_loaded, creation_row, field_row, has_objects, if_form, interface_method_type, interface_row, interface_target_row, invocation_row, object_holder_row, object_row, return_row, special_row, static_call_row, static_holder_row, tested_type, virtual_row, word_array}
use Rattle.jc_effects.specs.Row.{Row, after, all_meet, applied, component_of, count_of, given_type, has_local, is_met, local_meets, local_of, put_in, taken_by}
use Rattle.jc_effects.specs.Words.{shuffle_effect, takes, word, word_effect}
use Rattle.jc_effects.specs.declared.row.Demand.{Demand}
use Rattle.jc_effects.specs.declared.row.Demand.TheVariants.{Reference}
use Rattle.jc_effects.specs.declared.row.Given.{Given}
use Rattle.jc_effects.specs.declared.row.Given.TheVariants.{Exactly}
use Rattle.jc_effects.specs.declared.row.LocalDemand.{LocalDemand}

both : (a b : Bool) → a ≡ true → b ≡ true → (a && b) ≡ true
both a b h1 h2 = grind arith

each : (a b : Bool) → (a && b) ≡ true → (a ≡ true) × (b ≡ true)
each a b h1 = grind arith

none_some : {A : Type 0} {B : Type 0} (a : A) → ◌≡◌ {A = Option A} None (Some a) → B
none_some a e = absurd cc

the_some : {A : Type 0} (x y : A) → Some x ≡ Some y → x ≡ y
the_some x y h = cc

-- ---- declared types

pub declared_known : (known : ClassName → Bool) (t : DeclaredType ClassName) → is_known_type known t ≡ true → is_known known (type_of_declared t) ≡ true
declared_known known t h1 = grind arith

module _ (known : ClassName → Bool) where
  -- ---- lists of known types

  abbrev all_known : List Ty → Bool
  all_known ts = list_all (is_known known) ts

  append_known : (xs ys : List Ty) → all_known xs ≡ true → all_known ys ≡ true → all_known (xs ++ ys) ≡ true
  append_known xs ys h k = list_all-append (is_known known) xs ys ∙ both (all_known xs) (all_known ys) h k

  pub take_known : (n : ℕ) (xs : List Ty) → all_known xs ≡ true → all_known (take n xs) ≡ true
  take_known (suc n) (x ∷ xs) h =
      let two = each (is_known known x) (all_known xs) h in both (is_known known x) (all_known (take n xs)) two.0 (take_known n xs two.1)
  take_known t xs h = refl

  drop_known : (n : ℕ) (xs : List Ty) → all_known xs ≡ true → all_known (drop n xs) ≡ true
  drop_known zero xs h = h
  drop_known (suc n) [] h = refl
  drop_known (suc n) (x ∷ xs) h = drop_known n xs (each (is_known known x) (all_known xs) h).1

  pub reverse_known : (xs : List Ty) → all_known xs ≡ true → all_known (reverse xs) ≡ true
  reverse_known [] h = refl
  reverse_known (x ∷ xs) h =
      let two = each (is_known known x) (all_known xs) h in
      ap all_known (reverse-cons x xs) ∙ append_known (reverse xs) (x ∷ []) (reverse_known xs two.1) (both (is_known known x) true two.0 refl)

  set_known : (xs : List Ty) (i : ℕ) (x : Ty) → all_known xs ≡ true → is_known known x ≡ true → all_known (slice_set xs i x) ≡ true
  set_known [] i x h k = refl
  set_known (y ∷ ys) zero x h k = both (is_known known x) (all_known ys) k (each (is_known known y) (all_known ys) h).1
  set_known (y ∷ ys) (suc i) x h k =
      let two = each (is_known known y) (all_known ys) h in both (is_known known y) (all_known (slice_set ys i x)) two.0 (set_known ys i x two.1 k)

  at_known : (xs : List Ty) (i : ℕ) → all_known xs ≡ true → is_known known (unwrap_or (slice_get xs i) Top) ≡ true
  at_known [] i h = refl
  at_known (x ∷ xs) zero h = (each (is_known known x) (all_known xs) h).0
  at_known (x ∷ xs) (suc i) h = at_known xs i (each (is_known known x) (all_known xs) h).1

  -- ---- rows

  component_known : (t : Ty) → is_known known t ≡ true → is_known known (component_of t) ≡ true
  component_known t h1 = grind arith

  -- what is given exactly is known
  abbrev is_known_given : Given → Bool
  is_known_given (Exactly t) = is_known known t
  is_known_given t = true

  given_known : (g : Given) (local : Ty) (taken : List Ty) → is_known_given g ≡ true → is_known known local ≡ true → all_known taken ≡ true
      → is_known known (given_type g local taken) ≡ true
  given_known g local taken h1 h2 h3 = grind (arith, at_known, component_known, unwrap_or, slice_get)

  pub local_known : (place : LocalDemand) (locals : List Ty) → all_known locals ≡ true
      → is_known known (local_of place locals) ≡ true
  local_known place locals h1 = grind (arith, at_known)

  put_on_known : (b : Bool) (t : Ty) (operands : List Ty) → is_known known t ≡ true → all_known operands ≡ true → all_known (cond b (t ∷ operands) operands) ≡ true
  put_on_known b t operands h1 h2 = grind (arith, both)

  put_at_known : (b : Bool) (index : ℕ) (t : Ty) (locals : List Ty) → is_known known t ≡ true → all_known locals ≡ true → all_known (cond b (slice_set locals index t) locals) ≡ true
  put_at_known b index t locals h1 h2 = grind (arith, set_known)

  put_in_known : (place : LocalDemand) (g : Given) (t : Ty) (locals : List Ty) → is_known known t ≡ true → all_known locals ≡ true → all_known (put_in place g t locals) ≡ true
  put_in_known place g t locals h1 h2 = grind (arith, put_at_known, nat_lt)

  after_known : (row : Row) (s : Types) → AreKnown known s → is_known_given row.written ≡ true → is_known_given row.pushed ≡ true → AreKnown known (after row s)
  unfolding after
  after_known row s have written pushed =
      let local = local_known row.local s.locals have.locals in
      let taken = reverse_known (take (length row.operands) s.operands) (take_known (length row.operands) s.operands have.operands) in
      record {
        locals = put_in_known row.local row.written _ s.locals (given_known row.written (local_of row.local s.locals) (taken_by row s) written local taken) have.locals;
        operands = put_on_known (nat_lt 0 (count_of row.pushed)) _ (drop (length row.operands) s.operands)
            (given_known row.pushed (local_of row.local s.locals) (taken_by row s) pushed local taken) (drop_known (length row.operands) s.operands have.operands);
      }

  -- a row that fits gives what is known
  abbrev GivesKnown : Option Row → Type 0
  GivesKnown None = Unit {0}
  GivesKnown (Some row) = row.fits ≡ true → (is_known_given row.written ≡ true) × (is_known_given row.pushed ≡ true)

  module _ (below : ClassName → ClassName → Bool) (most : ℕ) where
    applied_known : (row : Option Row) → GivesKnown row → (s t : Types) → applied below most row s ≡ Ok t → AreKnown known s → AreKnown known t
    unfolding applied
    applied_known None gives s t e have = absurd cc
    applied_known (Some row) gives s t e have =
        let r =
        four (not (has_local row.local s.locals)) (nat_lt (length s.operands) (length row.operands)) (not (is_met below row s))
        (nat_lt most (length s.operands - length row.operands + count_of row.pushed)) (after row s) t e in
        let fits = three row.fits (local_meets below row.local (local_of row.local s.locals)) (all_meet below row.operands (taken_by row s)) r.2 in
        let given = gives fits.0 in
        subst (AreKnown known) r.4 (after_known row s have given.0 given.1)

    -- ---- operands that are moved

    moved_known : (s t : Types) (operands : List Ty) → with_operands s operands ≡ t → AreKnown known s → all_known operands ≡ true → AreKnown known t
    moved_known s t operands e have h = subst (AreKnown known) e (record { locals = have.locals; operands = h })

    shuffle_known : (shuffle : shuffles.Shuffle) (s t : Types) → shuffle_effect most shuffle s ≡ Ok t → AreKnown known s → AreKnown known t
    unfolding drop_types duplicate_types swap_types
    shuffle_known (Pop count) s t e have =
        let r = one (nat_lt (length s.operands) count) (with_operands s (drop count s.operands)) t e in
        moved_known s t (drop count s.operands) r.1 have (drop_known count s.operands have.operands)
    shuffle_known (Duplicate count depth) s t e have =
        let r =
        two (nat_lt (length s.operands) (max count depth)) (nat_lt most (length s.operands + count)) (with_operands s (duplicated count depth s.operands)) t e in
        moved_known s t (duplicated count depth s.operands) r.2 have
        (append_known (take depth s.operands ++ take count s.operands) (drop depth s.operands)
        (append_known (take depth s.operands) (take count s.operands) (take_known depth s.operands have.operands) (take_known count s.operands have.operands))
        (drop_known depth s.operands have.operands))
    shuffle_known (Swap upper lower) s t e have =
        let r = one (nat_lt (length s.operands) (upper + lower)) (with_operands s (swapped upper lower s.operands)) t e in
        moved_known s t (swapped upper lower s.operands) r.1 have
        (append_known (take lower (drop upper s.operands) ++ take upper s.operands) (drop (upper + lower) s.operands)
        (append_known (take lower (drop upper s.operands)) (take upper s.operands) (take_known lower (drop upper s.operands) (drop_known upper s.operands have.operands)) (take_known upper s.operands have.operands))
        (drop_known (upper + lower) s.operands have.operands))

    word_known : (returned : Option Ty) (operation : WordOperation) (s t : Types) → word_effect below most returned operation s ≡ Ok t → AreKnown known s → AreKnown known t
    unfolding word_effect
    word_known returned (Words.Shuffle shuffle) = shuffle_known shuffle
    word_known returned t = applied_known _ (λ fits. (refl, refl))

-- ---- the rows of operations on references

module _ (set : Setting) (names : NamesKnown set) where
  abbrev Gives : Option Row → Type 0
  Gives row = GivesKnown (is_class_at set.world) row

  -- what an entry of the pool leads to
  abbrev IsTarget : Option PoolTarget → Type 0
  IsTarget None = Unit {0}
  IsTarget (Some target) = is_known_target set.world target ≡ true

  target_there : (index : ℕ) → IsTarget (slice_get set.targets index)
  target_there index = by_target (slice_get set.targets index) refl
    where
      by_target : (o : Option PoolTarget) → slice_get set.targets index ≡ o → IsTarget o
      by_target o h1 = grind arith

  loaded_known : (form : Form) → is_known_given (is_class_at set.world) (component_loaded form) ≡ true
  loaded_known form = grind arith

  -- fields
  static_known : (fits : Bool) (holder : Holder) (action : FieldAction) (t : Ty) → is_known (is_class_at set.world) t ≡ true
      → Gives (option_map (if_form fits) (static_holder_row holder action t))
  static_known fits holder action t h1 = grind arith

  instance_known : (fits : Bool) (holder : Holder) (action : FieldAction) (class : ClassName) (t : Ty) → is_known (is_class_at set.world) t ≡ true
      → Gives (option_map (if_form fits) (object_holder_row holder action class t))
  instance_known fits holder action class t h1 = grind arith

  field_known : (access : FieldAccess) (o : Option PoolTarget) → IsTarget o → Gives (option_and_then (field_row access) o)
  field_known access o h1 = grind (arith, instance_known, declared_known, static_known)

  -- calls
  call_known : (object : List Demand) (signature : Signature ClassName) → is_known_signature (is_class_at set.world) signature ≡ true → Gives (Some (call object signature))
  call_known object signature h = by_result signature.result (each (list_all (is_known_type (is_class_at set.world)) signature.parameters) (is_known_return (is_class_at set.world) signature.result) h).1
    where
      by_result : (r : ReturnType ClassName) → is_known_return (is_class_at set.world) r ≡ true → Gives (Some (call object (record { parameters = signature.parameters; result = r })))
      by_result r h1 = grind (arith, declared_known)

  virtual_known : (o : Option PoolTarget) → IsTarget o → Gives (option_and_then virtual_row o)
  virtual_known o h1 = grind (arith, call_known)

  special_known : (o : Option PoolTarget) → IsTarget o → Gives (option_and_then special_row o)
  special_known o h1 = grind (arith, call_known)

  static_call_known : (o : Option PoolTarget) → IsTarget o → Gives (option_and_then static_call_row o)
  static_call_known o h1 = grind (arith, call_known)

  -- the type of an interface's method
  interface_type_known : (c : ClassName) (token : ℕ) (t : Signature ClassName) → interface_method_type set.world c token ≡ Some t → is_known_signature (is_class_at set.world) t ≡ true
  interface_type_known c token t e = by_class (class_at set.world c) e
    where
      by_method : (o : Option MethodShape) → option_and_then (λ (m : MethodShape). member_type_of set.world (home_of c) m.signature) o ≡ Some t → is_known_signature (is_class_at set.world) t ≡ true
      by_method o h1 = grind (arith, none_some)

      by_kind : (b : Bool) (k : ClassShape) → cond b None (option_and_then (λ (m : MethodShape). member_type_of set.world (home_of c) m.signature) (find (λ m. m.token == token) k.methods)) ≡ Some t
          → is_known_signature (is_class_at set.world) t ≡ true
      by_kind b k h1 = grind (arith, none_some, by_method)

      by_class : (o : Option ClassShape)
          → option_and_then (λ (k : ClassShape). cond (is_class k.body) None (option_and_then (λ (m : MethodShape). member_type_of set.world (home_of c) m.signature) (find (λ m. m.token == token) k.methods))) o ≡ Some t
          → is_known_signature (is_class_at set.world) t ≡ true
      by_class o h1 = grind (arith, none_some, by_kind)

  interface_known : (arguments token : ℕ) (o : Option PoolTarget) → Gives (option_and_then (interface_target_row set.world arguments token) o)
  interface_known arguments token None = tt
  interface_known arguments token (Some (To.Class c)) = by_type (interface_method_type set.world c token) refl
    where
      by_count : (b : Bool) (t : Signature ClassName) → is_known_signature (is_class_at set.world) t ≡ true → Gives (cond b (Some (call (Reference ∷ []) t)) None)
      by_count b t h1 = grind (arith, call_known)

      by_type : (o : Option (Signature ClassName)) → interface_method_type set.world c token ≡ o → Gives (option_and_then (interface_row arguments) o)
      by_type o h1 = grind (arith, by_count, length, interface_type_known)
  interface_known arguments token (Some (To.InstanceField class cell declared)) = tt
  interface_known arguments token (Some (To.StaticField place declared)) = tt
  interface_known arguments token (Some (To.VirtualMethod class number signature)) = tt
  interface_known arguments token (Some (To.SuperMethod class method signature)) = tt
  interface_known arguments token (Some (To.StaticMethod class method is_static signature)) = tt

  invocation_known : (invocation : Invocation) → Gives (invocation_row set invocation)
  invocation_known (Virtual index) = virtual_known (slice_get set.targets index) (target_there index)
  invocation_known (Special index) = special_known (slice_get set.targets index) (target_there index)
  invocation_known (Static index) = static_call_known (slice_get set.targets index) (target_there index)
  invocation_known (Interface arguments index token) = interface_known arguments token (slice_get set.targets index)

  -- objects that are made and tested
  array_known : (kind : WordKind) → is_known (is_class_at set.world) (word_array kind) ≡ true
  array_known kind = grind arith

  class_there : (o : Option PoolTarget) → IsTarget o → (c : ClassName) → option_and_then class_target o ≡ Some c → is_class_at set.world (counted set.world c) ≡ true
  class_there o h1 c h2 = grind (arith, the_some, none_some)

  pub entry_class : (index : ℕ) (c : ClassName) → class_of_entry set index ≡ Some c
      → is_class_at set.world (counted set.world c) ≡ true
  entry_class index c e = class_there (slice_get set.targets index) (target_there index) c e

  made_class : (c : ClassName) → has_objects set.world c ≡ true → is_class_at set.world c ≡ true
  made_class c e = by_class (class_at set.world c) e
    where
      by_class : (o : Option ClassShape) → option_map_or (λ (k : ClassShape). is_class k.body && not k.is_abstract) o false ≡ true → option_map_or (λ (k : ClassShape). is_class k.body) o false ≡ true
      by_class o h1 = grind (arith, each, not)

  creation_known : (creation : Creation) → Gives (creation_row set creation)
  creation_known (Creations.Object index) = by_class (class_of_entry set index)
    where
      by_class : (o : Option ClassName) → Gives (option_map (λ c. if_form (has_objects set.world c) (takes [] (Exactly (Class c)))) o)
      by_class o = grind (arith, made_class)
  creation_known (Creations.WordArray kind) = λ fits. (refl, array_known kind)
  creation_known (Creations.ReferenceArray index) = by_class (class_of_entry set index) refl
    where
      by_class : (o : Option ClassName) → class_of_entry set index ≡ o → Gives (option_map (λ c. takes (word ∷ []) (Exactly (ReferenceArray (counted set.world c)))) o)
      by_class o h1 = grind (arith, entry_class)

  tested_known : (tested : TestedType) (t : Ty) → tested_type set tested ≡ Some t → is_known (is_class_at set.world) t ≡ true
  tested_known (Tested.Class index) t e = by_class (class_of_entry set index) refl e
    where
      by_class : (o : Option ClassName) → class_of_entry set index ≡ o → option_map (λ c. Class (counted set.world c)) o ≡ Some t → is_known (is_class_at set.world) t ≡ true
      by_class o h1 h2 = grind (arith, none_some, the_some, entry_class)
  tested_known (Tested.WordArray kind) t e = subst (λ t. is_known (is_class_at set.world) t ≡ true) (the_some _ t e) (array_known kind)
  tested_known (Tested.ReferenceArray index) t e = by_class (class_of_entry set index) refl e
    where
      by_class : (o : Option ClassName) → class_of_entry set index ≡ o → option_map (λ c. ReferenceArray (counted set.world c)) o ≡ Some t → is_known (is_class_at set.world) t ≡ true
      by_class o h1 h2 = grind (arith, none_some, the_some, entry_class)

  cast_known : (o : Option Ty) → ((t : Ty) → o ≡ Some t → is_known (is_class_at set.world) t ≡ true) → Gives (option_map (λ t. takes (Reference ∷ []) (Exactly t)) o)
  cast_known o h1 = grind arith

  test_known : (o : Option Ty) → Gives (option_map (λ t. takes (Reference ∷ []) (Exactly Word)) o)
  test_known o = grind arith

  return_known : (o : Option Ty) → Gives (Some (return_row o))
  return_known o = grind arith

  object_known : (operation : ObjectOperation) → Gives (object_row set operation)
  unfolding object_row
  object_known (LoadComponent form) = λ fits. (refl, loaded_known form)
  object_known (Field access index) = field_known access (slice_get set.targets index) (target_there index)
  object_known (Invoke invocation) = invocation_known invocation
  object_known (Create creation) = creation_known creation
  object_known (CheckCast tested) = cast_known (tested_type set tested) (tested_known tested)
  object_known (InstanceOf tested) = test_known (tested_type set tested)
  object_known ReturnReference = return_known set.returned
  object_known t = λ fits. (refl, refl)

  pub effect_known : (most : ℕ) (operation : Operation) (s t : Types) → effect_of set most operation s ≡ Ok t → AreKnown (is_class_at set.world) s → AreKnown (is_class_at set.world) t
  unfolding effect_of
  effect_known most (Operations.Word operation) = word_known (is_class_at set.world) (is_class_below set.world) most set.returned operation
  effect_known most (Operations.Object operation) = applied_known (is_class_at set.world) (is_class_below set.world) most (object_row set operation) (object_known operation)
