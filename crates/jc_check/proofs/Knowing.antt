-- The types of a linked package's methods name classes of its world.
use Rattle.std.proofs.Common.{◌≡◌, ℕ, zero, suc, ◌+◌, ◌-◌, ◌<◌, ◌≤◌, ◌^◌, ◌==◌, ◌&&◌, ◌||◌, Bool, true, false, cond, List, [], ◌∷◌, ◌++◌, length, map, Option, Some, None, refl, sym, ap, ◌∙◌, arith, is_some, nat_lt, unwrap_or, slice_get, slice_index_or}
use Rattle.std.proofs.lemmas.Bool.{ltb-true, ltb-false}
use Rattle.std.proofs.lemmas.List.Folds.{list_all-append}
use Rattle.std.proofs.lemmas.Option.{slice_get-map}
use Rattle.std.specs.List.{Contains, list_all}
use Rattle.std.specs.Option.{option_and_then, option_map, option_map_or}
use Rattle.jc_base.specs.Signature.{Signature}
use Rattle.jc_base.specs.declared.declared_type.DeclaredType.{DeclaredType}
use Rattle.jc_api.specs.Class.{number_of}
use Rattle.jc_api.specs.declared.class.ApiClass.{ApiClass}
use Rattle.jc_api.specs.declared.class.ApiClass.TheVariants.{Throwable}
use Rattle.jc_cap_desc.specs.Shape.{MethodBody, Shape}
use Rattle.jc_cap.specs.declared.method_header.MethodHeader.{MethodHeader}
use Rattle.jc_classes.specs.Members.{DeclaredMethod}
use Rattle.jc_classes.specs.Methods.{method_name}
use Rattle.jc_names.specs.Names.{is_same_name}
use Rattle.jc_classes.specs.Subtype.{is_at_or_above, is_class_at, is_class_below}
use Rattle.jc_classes.specs.Walk.{most_classes}
use Rattle.jc_names.specs.Names.{home_of}
use Rattle.jc_classes.specs.World.{superclass_of}
use Rattle.jc_names.specs.declared.name.ClassName.{ClassName}
use Rattle.jc_link.specs.Classes.{argument_count}
use Rattle.jc_link.specs.Found.{type_found, types_found}
use Rattle.jc_link.specs.KnownTypes.{NameClasses, is_known_return, is_known_target, is_known_type}
use Rattle.jc_link.specs.Linked.{AreHeaded, IsResolved, Linked}
use Rattle.jc_link.specs.MemberType.{declared_type_of}
use Rattle.jc_link.specs.Sound.{HaveMethods}
use Rattle.jc_link.specs.Target.{pool_target_of, pool_targets}
use Rattle.jc_link.specs.declared.target.PoolTarget.{PoolTarget}
use Rattle.jc_link.specs.declared.target.PoolTarget.TheVariants as To
use Rattle.jc_effects.specs.Laws.{NamesKnown}
use Rattle.jc_effects.specs.Method.{own_method}
use Rattle.jc_types.specs.Known.{AreKnown, is_known}
use Rattle.jc_types.specs.State.{entry_types}
use Rattle.jc_types.specs.Ty.{type_of_declared}
use Rattle.jc_types.specs.declared.ty.Ty.{Ty}
use Rattle.jc_types.specs.declared.ty.Ty.TheVariants.{Class}
use Rattle.jc_check.specs.Method.{CheckedHandler, entry_of}
use Rattle.jc_check.specs.Package.{arguments_of, catches_all, caught_class, handler_of, max_locals_of, method_of, own_home, receiver_of, throwable, thrown_class}
use Rattle.jc_check.specs.PrivateKnown.{AreSmallFrames, IsSmallFrame, IsSmallHeader}

the_some : {A : Type 0} (x y : A) → Some x ≡ Some y → x ≡ y
the_some x y h = cc

none_some : {A : Type 0} {B : Type 0} (y : A) → ◌≡◌ {A = Option A} None (Some y) → B
none_some y h = absurd cc

true_false : {A : Type 0} → true ≡ false → A
true_false e = absurd cc

both : (a b : Bool) → a ≡ true → b ≡ true → (a && b) ≡ true
both a b h1 h2 = grind (arith, true_false)

each : (a b : Bool) → (a && b) ≡ true → (a ≡ true) × (b ≡ true)
each a b h1 = grind (arith, true_false)

some_of : {A B : Type 0} (f : A → Option B) (o : Option A) (b : B) → option_and_then f o ≡ Some b → (a : A) × (o ≡ Some a) × (f a ≡ Some b)
some_of f o b h1 = grind (arith, none_some)

mapped : {A B : Type 0} (f : A → B) (o : Option A) (b : B) → option_map f o ≡ Some b → (a : A) × (o ≡ Some a) × (f a ≡ b)
mapped f o b h1 = grind (arith, none_some, the_some)

-- ---- the class of what may be thrown

throwable_number : (a : ApiClass) → (number_of a == number_of Throwable) ≡ true → a ≡ Throwable
throwable_number a h1 = grind arith

is_throwable : (c : ClassName) → is_same_name c throwable ≡ true → c ≡ throwable
is_throwable c h1 = grind (arith, throwable_number, true_false)

-- ---- what entries of the pool lead to

pub names_known : (l : Linked) → NameClasses l.world → (home : ℕ) → IsResolved l.world home l.body → (returned : Option Ty)
    → NamesKnown (record { world = l.world; targets = l.body.targets; returned = returned })
names_known l names home resolved returned = record { world = names; targets = its }
  where
    its : (n : ℕ) (target : PoolTarget) → slice_get l.body.targets n ≡ Some target → is_known_target l.world target ≡ true
    its n target at =
        let one : slice_get (pool_targets l.world home l.body.kept.pool) n ≡ Some (Some target)
        = ap (λ ts. slice_get ts n) (sym resolved) ∙ slice_get-map Some l.body.targets n ∙ ap (option_map Some) at in
        let entry = mapped (pool_target_of l.world home) (slice_get l.body.kept.pool n) (Some target) (sym (slice_get-map (pool_target_of l.world home) l.body.kept.pool n) ∙ one) in
        names.targets home entry.0 target entry.2

-- ---- what methods begin with

module _ (known : ClassName → Bool) (types : (t : DeclaredType ClassName) → is_known_type known t ≡ true → is_known known (type_of_declared t) ≡ true) where
  parameters_known : (ts : List (DeclaredType ClassName)) → list_all (is_known_type known) ts ≡ true → list_all (is_known known) (map type_of_declared ts) ≡ true
  parameters_known [] h = refl
  parameters_known (t ∷ ts) h =
      let two = each (is_known_type known t) (list_all (is_known_type known) ts) h in
      both (is_known known (type_of_declared t)) (list_all (is_known known) (map type_of_declared ts)) (types t two.0) (parameters_known ts two.1)

module _ (world : List Shape) (names : NameClasses world)
    (types : (t : DeclaredType ClassName) → is_known_type (is_class_at world) t ≡ true → is_known (is_class_at world) (type_of_declared t) ≡ true) where
  abbrev all_known : List Ty → Bool
  all_known ts = list_all (is_known (is_class_at world)) ts

  receiver_known : (d : DeclaredMethod) → is_class_at world d.class ≡ true → all_known (receiver_of d) ≡ true
  receiver_known d h = by_static d.method.is_static
    where
      by_static : (b : Bool) → all_known (cond b [] (Class d.class ∷ [])) ≡ true
      by_static b = grind (arith, both)

  arguments_known : (d : DeclaredMethod) → is_class_at world d.class ≡ true → all_known (arguments_of world d) ≡ true
  arguments_known d h =
      list_all-append (is_known (is_class_at world)) (receiver_of d) (option_map_or (λ signature. map type_of_declared signature.parameters) (declared_type_of world d) [])
      ∙ both (all_known (receiver_of d)) (all_known (option_map_or (λ signature. map type_of_declared signature.parameters) (declared_type_of world d) []))
      (receiver_known d h) (by_type (declared_type_of world d) refl)
    where
      by_type : (o : Option (Signature ClassName)) → declared_type_of world d ≡ o → all_known (option_map_or (λ signature. map type_of_declared signature.parameters) o []) ≡ true
      by_type None e = refl
      by_type (Some t) e =
          let signature = names.members (home_of d.class) d.method.signature t e in
          parameters_known (is_class_at world) types t.parameters
          (each (list_all (is_known_type (is_class_at world)) t.parameters) (is_known_return (is_class_at world) t.result) signature).0

  -- ---- what is caught

  -- a class below another one, which isn't Object, is that one or has a superclass
  below_known : (n : ℕ) (c d : ClassName) → is_class_at world d ≡ true → (is_same_name c d ≡ true → c ≡ d) → is_at_or_above world n d c ≡ true → is_class_at world c ≡ true
  below_known zero c d is same e = true_false (sym e)
  below_known (suc n) c d is same e = by_name (is_same_name c d) refl (superclass_of world c) refl e
    where
      by_name : (b : Bool) → is_same_name c d ≡ b → (o : Option ClassName) → superclass_of world c ≡ o → (b || option_map_or (is_at_or_above world n d) o false) ≡ true → is_class_at world c ≡ true
      by_name b h1 o h2 h3 = grind (arith, true_false)

  thrown_known : (c : ClassName) → is_class_below world c throwable ≡ true → is_class_at world c ≡ true
  thrown_known c e = below_known most_classes c throwable names.throwable (is_throwable c) e

  caught_known : (l : Linked) (index : ℕ) (c : ClassName) → l.world ≡ world → caught_class l index ≡ Some c → is_class_at world c ≡ true
  caught_known l index c same e = by_index (index == catches_all) e
    where
      by_thrown : (b : Bool) (d : ClassName) → (b ≡ true → is_class_at world d ≡ true) → cond b (Some d) None ≡ Some c → is_class_at world c ≡ true
      by_thrown b d h1 h2 = grind (arith, the_some, none_some)

      by_target : (t : PoolTarget) → thrown_class l.world t ≡ Some c → is_class_at world c ≡ true
      by_target (To.Class d) f =
          by_thrown (is_class_below l.world d throwable) d (λ below. thrown_known d (ap (λ w. is_class_below w d throwable) (sym same) ∙ below)) f
      by_target (To.InstanceField class cell declared) f = none_some c f
      by_target (To.StaticField place declared) f = none_some c f
      by_target (To.VirtualMethod class token signature) f = none_some c f
      by_target (To.SuperMethod class m signature) f = none_some c f
      by_target (To.StaticMethod class m is_static signature) f = none_some c f

      by_index : (b : Bool) → cond b (Some throwable) (option_and_then (thrown_class l.world) (slice_get l.body.targets index)) ≡ Some c → is_class_at world c ≡ true
      by_index b h1 = grind (arith, the_some, some_of, slice_get, by_target)

-- ---- the clauses

in_map : {A B : Type 0} (f : A → B) (xs : List A) (k : ℕ) (d : B) → k < length (map f xs) → (x : A) × (slice_index_or (map f xs) k d ≡ f x)
in_map f [] k d h = absurd (omega arith)
in_map f (x ∷ xs) zero d h = (x, refl)
in_map f (x ∷ xs) (suc k) d h = in_map f xs k d (omega (arith, h))

pub handler_known : (l : Linked) (b : MethodBody) (h : CheckedHandler) (c : ClassName) → NameClasses l.world
    → ((t : DeclaredType ClassName) → is_known_type (is_class_at l.world) t ≡ true → is_known (is_class_at l.world) (type_of_declared t) ≡ true)
    → Contains (method_of l b).handlers h → h.caught ≡ Some c → is_class_at l.world c ≡ true
handler_known l b h c names types has e =
    let row = in_map (handler_of l b.code_offset) b.handlers has.0 h has.1 in
    let same : handler_of l b.code_offset row.0 ≡ h = sym row.1 ∙ has.2 in
    caught_known l.world names types l (row.0).catch_type c refl (ap (λ (h : CheckedHandler). h.caught) same ∙ e)

pub entry_known : (l : Linked) (b : MethodBody) → NameClasses l.world
    → ((t : DeclaredType ClassName) → is_known_type (is_class_at l.world) t ≡ true → is_known (is_class_at l.world) (type_of_declared t) ≡ true)
    → ((arguments : List Ty) (max_locals : ℕ) → list_all (is_known (is_class_at l.world)) arguments ≡ true → AreKnown (is_class_at l.world) (entry_types arguments max_locals))
    → AreKnown (is_class_at l.world) (entry_of (method_of l b))
entry_known l b names types entries = entries (method_of l b).arguments (method_of l b).max_locals (by_method (own_method l b.offset) refl)
  where
    by_method : (o : Option DeclaredMethod) → own_method l b.offset ≡ o → list_all (is_known (is_class_at l.world)) (option_map_or (arguments_of l.world) o []) ≡ true
    by_method None e = refl
    by_method (Some d) e = arguments_known l.world names types d (names.declared (method_name (own_home l.world) b.offset) d e)

-- ---- how many there are

types_count : {C D : Type 0} (find : C → Option D) (ts : List (DeclaredType C)) (us : List (DeclaredType D)) → types_found find ts ≡ Some us → length us ≡ length ts
types_count find [] us e = ap (λ us. length us) (sym (the_some [] us e))
types_count find (t ∷ ts) us e =
    let a = some_of (λ u. option_map (λ us. u ∷ us) (types_found find ts)) (type_found find t) us e in
    let b = mapped (λ us. a.0 ∷ us) (types_found find ts) us a.2 in
    ap (λ us. length us) (sym b.2) ∙ ap suc (types_count find ts b.0 b.1)

mapped_count : {A B : Type 0} (f : A → B) (xs : List A) → length (map f xs) ≡ length xs
mapped_count f [] = refl
mapped_count f (x ∷ xs) = ap suc (mapped_count f xs)

module _ (world : List Shape) (d : DeclaredMethod) where
  parameters_count : length (option_map_or (λ signature. map type_of_declared signature.parameters) (declared_type_of world d) []) ≤ length d.method.signature.parameters
  parameters_count = by_type (declared_type_of world d) refl
    where
      by_type : (o : Option (Signature ClassName)) → declared_type_of world d ≡ o → length (option_map_or (λ signature. map type_of_declared signature.parameters) o []) ≤ length d.method.signature.parameters
      by_type o h1 = grind (arith, some_of, mapped, length, types_count, mapped_count)

  arguments_count : length (arguments_of world d) ≤ argument_count d.method
  arguments_count = by_static d.method.is_static parameters_count
    where
      rest : List Ty
      rest = option_map_or (λ signature. map type_of_declared signature.parameters) (declared_type_of world d) []

      by_static : (b : Bool) → length rest ≤ length d.method.signature.parameters
          → length (cond b [] (Class d.class ∷ []) ++ rest) ≤ cond b (length d.method.signature.parameters) (length d.method.signature.parameters + 1)
      by_static b h1 = grind arith

-- what a header says is a byte
pub few_locals : (l : Linked) (b : MethodBody) (d : DeclaredMethod) → HaveMethods l.world → AreHeaded l.world (length l.world - 1)
    → own_method l b.offset ≡ Some d → IsSmallHeader d → length (method_of l b).arguments + (method_of l b).max_locals < 2 ^ 16
few_locals l b d have headed own small =
    let arguments : length (method_of l b).arguments ≡ length (arguments_of l.world d) = ap (λ o. length (option_map_or (arguments_of l.world) o [])) own in
    let others : (method_of l b).max_locals ≡ max_locals_of d = ap (λ o. option_map_or max_locals_of o 0) own in
    let count = arguments_count l.world d in
    let words = by_header d.method.header refl (headed b.offset d own) in
    omega (arith, arguments, others, count, words, small.arguments, small.locals)
  where
    by_header : (o : Option MethodHeader) → d.method.header ≡ o → is_some o ≡ true
        → option_map_or (λ h. h.nargs) d.method.header 0 ≡ argument_count d.method
    by_header None at there = true_false (sym there)
    by_header (Some h) at there = ap (λ o. option_map_or (λ (h : MethodHeader). h.nargs) o 0) at ∙ have.words (method_name (length l.world - 1) b.offset) d h own at

pub no_locals : (l : Linked) (b : MethodBody) → own_method l b.offset ≡ None → length (method_of l b).arguments + (method_of l b).max_locals < 2 ^ 16
no_locals l b own = grind (arith, length)

pub few_operands : (l : Linked) (b : MethodBody) (d : DeclaredMethod) → own_method l b.offset ≡ Some d → IsSmallHeader d → (method_of l b).max_stack < 2 ^ 8
few_operands l b d own small =
    let same : (method_of l b).max_stack ≡ option_map_or (λ h. h.max_stack) d.method.header 0
    = ap (λ o. unwrap_or (option_map (λ (h : MethodHeader). h.max_stack) (option_and_then (λ (d : DeclaredMethod). d.method.header) o)) 0) own ∙ by_header d.method.header in
    omega (arith, same, small.stack)
  where
    by_header : (o : Option MethodHeader) → unwrap_or (option_map (λ (h : MethodHeader). h.max_stack) o) 0 ≡ option_map_or (λ h. h.max_stack) o 0
    by_header o = grind arith

pub no_operands : (l : Linked) (b : MethodBody) → own_method l b.offset ≡ None → (method_of l b).max_stack < 2 ^ 8
no_operands l b own = grind (arith, unwrap_or)

-- no method, and one more
pub none_small : (l : Linked) → AreSmallFrames l 0
none_small l = record { each = λ n b h there. absurd (omega (arith, h)) }

pub small_step : (l : Linked) (index : ℕ) (body : MethodBody) → IsSmallFrame l body → slice_get l.body.kept.methods index ≡ Some body → AreSmallFrames l index
    → AreSmallFrames l (index + 1)
small_step l index body small at before = record { each = λ n b h there. by_place n b h there (nat_lt n index) (ltb-true n index) (ltb-false n index) }
  where
    by_place : (n : ℕ) (b : MethodBody) → n < index + 1 → slice_get l.body.kept.methods n ≡ Some b → (c : Bool) → (c ≡ true → n < index) → (c ≡ false → index ≤ n) → IsSmallFrame l b
    by_place n b h1 h2 c h3 h4 = grind (arith, each, the_some, slice_get)

get_within : {A : Type 0} (xs : List A) (i : ℕ) (x : A) → slice_get xs i ≡ Some x → i < length xs
get_within [] i x e = none_some x e
get_within (y ∷ ys) zero x e = omega arith
get_within (y ∷ ys) (suc i) x e = let h = get_within ys i x e in omega (arith, h)

pub all_small : (l : Linked) → AreSmallFrames l (length l.body.kept.methods) → (n : ℕ) (b : MethodBody) → slice_get l.body.kept.methods n ≡ Some b → IsSmallFrame l b
all_small l all n b there = all.each n b (get_within l.body.kept.methods n b there) there
