-- Laws of objects that are alike, for this crate and those above: what is read of them beside components of a hidden
-- one is the same.
use Rattle.std.proofs.Common.{cond, eq-eqb, ◌≡◌, ◌≢◌, ◌<◌, nat_lt, ℕ, zero, suc, ◌==◌, ◌&&◌, ◌||◌, Bool, true, false}
use Rattle.std.proofs.Common.{not, List, [], ◌∷◌, length}
use Rattle.std.proofs.Common.{Option, Some, None, refl, sym, ap, ◌∙◌, subst, arith, eqb-true, slice_get, set}
use Rattle.std.proofs.Common.{length-set}
use Rattle.std.proofs.lemmas.Option.{same_Some}
use Rattle.std.proofs.lemmas.Bool.{and_parts, both_ways, ltb-true}
use Rattle.std.specs.List.{AllByRecursion}
use Rattle.std.specs.Prelude.{⊤}
use Rattle.std.specs.Option.{option_map, option_map_or, option_and_then}
use Rattle.jc_base.specs.declared.declared_type.DeclaredType.{DeclaredType}
use Rattle.jc_base.specs.declared.declared_type.ReturnType.{ReturnType}
use Rattle.jc_base.specs.Signature.{Signature}
use Rattle.jc_cap_desc.specs.Shape.{Shape}
use Rattle.jc_classes.specs.Members.{DeclaredMethod, method_at}
use Rattle.jc_link.specs.MemberType.{declared_type_of}
use Rattle.jc_link.specs.Named.{is_concrete}
use Rattle.jc_machine.specs.Calls.{native_may_begin}
use Rattle.jc_names.specs.declared.name.MethodName.TheVariants.{Api}
use Rattle.jc_names.specs.declared.name.ClassName.{ClassName}
use Rattle.jc_names.specs.declared.owner.Owner.{Owner}
use Rattle.jc_store.specs.Heap.{Heap, Object, cells_in, object_at, with_cell, with_new, with_object}
use Rattle.jc_store.specs.declared.kind.ObjectKind.{ObjectKind}
use Rattle.jc_store.specs.declared.kind.ObjectType.{ObjectType}
use Rattle.jc_machine.specs.Lookup.{are_of_instance, are_of_types, is_given, is_object_of, is_of_class, is_of_type}
use Rattle.jc_machine.specs.Lookup.{leads_to}
use Rattle.jc_machine.specs.Lookup.{mark_of, may_begin_with}
use Rattle.jc_machine.specs.Natives.{KeepsObjects}
use Rattle.jc_machine.specs.Runtime.{HasRuntimeObject, HasRuntimeObjects, RuntimeObject, first_aid_object}
use Rattle.jc_machine.specs.Runtime.{runtime_objects}
use Rattle.jc_machine.proofs.Staying.{they_stay}
use Rattle.jc_machine.specs.Unseen.{AreAlike, IsAlike, IsSeen, is_hidden, is_plain}
use Rattle.jc_words.specs.Values.{Null, Ref, TaggedValue, Unset, Word}

abbrev pub with_cells : Object TaggedValue → List TaggedValue → Object TaggedValue
with_cells o cells = record { kind = o.kind; owner = o.owner; cells = cells }

pub as_cells : (context : ℕ) (o p : Object TaggedValue) → IsAlike context o p → p ≡ with_cells o p.cells
as_cells context o p a =
    ap (λ (k : ObjectKind). record { kind = k; owner = p.owner; cells = p.cells }) (sym a.kind)
    ∙ ap (λ (w : Owner). record { kind = o.kind; owner = w; cells = p.cells }) (sym a.owner)

abbrev pub AlikeAt : ℕ → Option (Object TaggedValue) → Option (Object TaggedValue) → Type 0
AlikeAt context None None = ⊤
AlikeAt context (Some o) (Some p) = IsAlike context o p
AlikeAt context None (Some p) = ⊥
AlikeAt context (Some o) None = ⊥

got_alike : (context : ℕ) (os ps : Heap TaggedValue) → AreAlike context os ps → (n : ℕ)
    → AlikeAt context (slice_get os n) (slice_get ps n)
got_alike context [] [] a n = tt
got_alike context (o ∷ os) (p ∷ ps) a zero = a.0
got_alike context (o ∷ os) (p ∷ ps) a (suc n) = got_alike context os ps a.1 n
got_alike context [] (p ∷ ps) a n = absurd a
got_alike context (o ∷ os) [] a n = absurd a

pub at_alike : (context : ℕ) (os ps : Heap TaggedValue) → AreAlike context os ps → (n : ℕ)
    → AlikeAt context (object_at os n) (object_at ps n)
at_alike context os ps a zero = tt
at_alike context os ps a (suc n) = got_alike context os ps a n

-- ---- changes

set_both : (context : ℕ) (os ps : Heap TaggedValue) → AreAlike context os ps → (n : ℕ) (o p : Object TaggedValue)
    → IsAlike context o p → AreAlike context (set os n o) (set ps n p)
set_both context [] [] a n o p same = tt
set_both context (x ∷ os) (y ∷ ps) a zero o p same = (same, a.1)
set_both context (x ∷ os) (y ∷ ps) a (suc n) o p same = (a.0, set_both context os ps a.1 n o p same)
set_both context [] (y ∷ ps) a n o p same = absurd a
set_both context (x ∷ os) [] a n o p same = absurd a

pub with_both : (context : ℕ) (os ps : Heap TaggedValue) → AreAlike context os ps → (n : ℕ) (o p : Object TaggedValue)
    → IsAlike context o p → AreAlike context (with_object os n o) (with_object ps n p)
with_both context os ps a zero o p same = a
with_both context os ps a (suc n) o p same = set_both context os ps a n o p same

pub cell_both : (context : ℕ) (o p : Object TaggedValue) → IsAlike context o p → (index : ℕ) (v : TaggedValue)
    → IsAlike context (with_cell o index v) (with_cell p index v)
cell_both context o p a index v = record {
  kind = a.kind;
  owner = a.owner;
  size = length-set o.cells index v ∙ a.size ∙ sym (length-set p.cells index v);
  seen = λ e. ap (λ (cells : List TaggedValue). set cells index v) (a.seen e);
}

pub alike_itself : (context : ℕ) (o : Object TaggedValue) → IsAlike context o o
alike_itself context o = record { kind = refl; owner = refl; size = refl; seen = λ e. refl }

pub new_both : (context : ℕ) (os ps : Heap TaggedValue) → AreAlike context os ps → (new : Object TaggedValue)
    → AreAlike context (with_new os new) (with_new ps new)
new_both context [] [] a new = (alike_itself context new, tt)
new_both context (o ∷ os) (p ∷ ps) a new = (a.0, new_both context os ps a.1 new)
new_both context [] (p ∷ ps) a new = absurd a
new_both context (o ∷ os) [] a new = absurd a

-- ---- sizes

pub as_long : (context : ℕ) (os ps : Heap TaggedValue) → AreAlike context os ps → length os ≡ length ps
as_long context [] [] a = refl
as_long context (o ∷ os) (p ∷ ps) a = ap suc (as_long context os ps a.1)
as_long context [] (p ∷ ps) a = absurd a
as_long context (o ∷ os) [] a = absurd a

pub as_large : (context : ℕ) (os ps : Heap TaggedValue) → AreAlike context os ps → cells_in os ≡ cells_in ps
as_large context [] [] a = refl
as_large context (o ∷ os) (p ∷ ps) a =
    let e = as_large context os ps a.1 in
    let f = (a.0).size in omega (arith, e, f)
as_large context [] (p ∷ ps) a = absurd a
as_large context (o ∷ os) [] a = absurd a

-- ---- types and marks

module _ (context : ℕ) (H K : Heap TaggedValue) (a : AreAlike context H K) where
  kinds_both : {A : Type 0} (f : ObjectKind → A) (d : A) (x y : Option (Object TaggedValue)) → AlikeAt context x y
      → option_map_or (λ (o : Object TaggedValue). f o.kind) x d
      ≡ option_map_or (λ (o : Object TaggedValue). f o.kind) y d
  kinds_both f d None None b = refl
  kinds_both f d (Some o) (Some p) b = ap f b.kind
  kinds_both f d None (Some p) b = absurd b
  kinds_both f d (Some o) None b = absurd b

  pub leads_both : (test : ObjectType → Bool) (v : TaggedValue) → leads_to H test v ≡ leads_to K test v
  leads_both test (Word n) = refl
  leads_both test (Ref n) =
      kinds_both (λ (k : ObjectKind). test k.object_type) false (object_at H n) (object_at K n) (at_alike context H K a n)
  leads_both test Null = refl
  leads_both test Unset = refl

  pub type_both : (world : List Shape) (type : DeclaredType ClassName) (v : TaggedValue)
      → is_of_type world H type v ≡ is_of_type world K type v
  type_both world type v = grind (arith, leads_both)

  pub types_both : (world : List Shape) (types : List (DeclaredType ClassName)) (vs : List TaggedValue)
      → are_of_types world H types vs ≡ are_of_types world K types vs
  types_both world [] [] = refl
  types_both world (t ∷ types) (v ∷ vs) =
      ap (λ (b : Bool). b && are_of_types world H types vs) (type_both world t v)
      ∙ ap (λ (b : Bool). is_of_type world K t v && b) (types_both world types vs)
  types_both world [] (v ∷ vs) = refl
  types_both world (t ∷ types) [] = refl

  pub given_both : (world : List Shape) (type : ReturnType ClassName) (v : Option TaggedValue)
      → is_given world H type v ≡ is_given world K type v
  given_both world type v = grind (arith, type_both)

  marks_both : (x y : Option (Object TaggedValue)) → AlikeAt context x y
      → option_map (λ (o : Object TaggedValue). o.kind.mark) x
      ≡ option_map (λ (o : Object TaggedValue). o.kind.mark) y
  marks_both None None b = refl
  marks_both (Some o) (Some p) b = ap (λ (k : ObjectKind). Some k.mark) b.kind
  marks_both None (Some p) b = absurd b
  marks_both (Some o) None b = absurd b

  pub mark_both : (v : TaggedValue) → mark_of H v ≡ mark_of K v
  mark_both (Word n) = refl
  mark_both (Ref n) = marks_both (object_at H n) (object_at K n) (at_alike context H K a n)
  mark_both Null = refl
  mark_both Unset = refl

  pub stored_mark : (v : Option TaggedValue) → option_and_then (mark_of H) v ≡ option_and_then (mark_of K) v
  stored_mark None = refl
  stored_mark (Some v) = mark_both v

  -- ---- whether a method may begin

  object_of_both : (world : List Shape) (c : ClassName) (v : TaggedValue)
      → is_object_of world H c v ≡ is_object_of world K c v
  object_of_both world c (Word n) = refl
  object_of_both world c (Ref n) = leads_both (is_of_class world c) (Ref n)
  object_of_both world c Null = refl
  object_of_both world c Unset = refl

  pub begins_both : (world : List Shape) (d : DeclaredMethod) (values : List TaggedValue)
      → may_begin_with world H d values ≡ may_begin_with world K d values
  begins_both world d values = by_signature (declared_type_of world d)
    where
      of_instance : (c : ClassName) (types : List (DeclaredType ClassName)) (vs : List TaggedValue)
          → are_of_instance world H c types vs ≡ are_of_instance world K c types vs
      of_instance c types [] = refl
      of_instance c types (v ∷ vs) =
          ap (λ (b : Bool). b && are_of_types world H types vs) (object_of_both world c v)
          ∙ ap (λ (b : Bool). is_object_of world K c v && b) (types_both world types vs)

      by_static : (b : Bool) (signature : Signature ClassName)
          → cond b (are_of_types world H signature.parameters values)
          (are_of_instance world H d.class signature.parameters values)
          ≡ cond b (are_of_types world K signature.parameters values)
          (are_of_instance world K d.class signature.parameters values)
      by_static true signature = types_both world signature.parameters values
      by_static false signature = of_instance d.class signature.parameters values

      by_signature : (o : Option (Signature ClassName))
          → option_map_or (λ (signature : Signature ClassName). cond d.method.is_static
          (are_of_types world H signature.parameters values)
          (are_of_instance world H d.class signature.parameters values)) o false
          ≡ option_map_or (λ (signature : Signature ClassName). cond d.method.is_static
          (are_of_types world K signature.parameters values)
          (are_of_instance world K d.class signature.parameters values)) o false
      by_signature None = refl
      by_signature (Some signature) = by_static d.method.is_static signature

  pub native_begins_both : (world : List Shape) (member : ℕ) (values : List TaggedValue)
      → native_may_begin world H member values ≡ native_may_begin world K member values
  native_begins_both world member values =
      ap (λ (b : Bool). is_concrete world (Api member) && b) (by_method (method_at world (Api member)))
    where
      by_method : (o : Option DeclaredMethod)
          → option_map_or (λ d. may_begin_with world H d values) o false
          ≡ option_map_or (λ d. may_begin_with world K d values) o false
      by_method None = refl
      by_method (Some d) = begins_both world d values

-- ---- the runtime's own objects aren't hidden

abbrev pub is_seen_in : List RuntimeObject → ℕ → Bool
is_seen_in [] n = false
is_seen_in (x ∷ xs) n = (x.number == n && not (is_plain x.mark)) || is_seen_in xs n

module _ (context : ℕ) (heap : Heap TaggedValue) where
  one_seen : (x : RuntimeObject) (n : ℕ) → HasRuntimeObject heap x → (x.number == n && not (is_plain x.mark)) ≡ true
      → IsSeen context heap n
  one_seen x n has e o found =
      let parts = and_parts (x.number == n) (not (is_plain x.mark)) e in
      let there : object_at heap n ≡ Some has.object =
      ap (object_at heap) (sym (eqb-true x.number n parts.0)) ∙ has.found in
      let same : o ≡ has.object = same_Some o has.object (sym found ∙ there) in
      not_both (o.owner.context == context) (is_plain o.kind.mark)
      (ap (λ (q : Object TaggedValue). is_plain q.kind.mark) same ∙ ap is_plain has.mark
      ∙ not_true (is_plain x.mark) parts.1)
    where
      not_both : (a b : Bool) → b ≡ false → (a && b) ≡ false
      not_both a b f = grind arith

      not_true : (b : Bool) → not b ≡ true → b ≡ false
      not_true b f = grind arith

  pub own_seen : (xs : List RuntimeObject) (n : ℕ) → AllByRecursion (HasRuntimeObject heap) xs → is_seen_in xs n ≡ true
      → IsSeen context heap n
  own_seen [] n has e = absurd cc
  own_seen (x ∷ xs) n has e = by_first (x.number == n && not (is_plain x.mark)) refl e (own_seen xs n has.1)
    where
      by_first : (b : Bool) → (x.number == n && not (is_plain x.mark)) ≡ b → (b || is_seen_in xs n) ≡ true
          → (is_seen_in xs n ≡ true → IsSeen context heap n) → IsSeen context heap n
      by_first true f g later = one_seen x n has.0 f
      by_first false f g later = later g

-- ---- numbers below the first AID object's are those of objects that aren't hidden

abbrev all_below : (ℕ → Bool) → ℕ → Bool
all_below p zero = true
all_below p (suc k) = p k && all_below p k

is_below : (p : ℕ → Bool) (k n : ℕ) → n < k → all_below p k ≡ true → p n ≡ true
is_below p zero n low all = absurd (omega (arith, low))
is_below p (suc k) n low all =
    let parts = and_parts (p k) (all_below p k) all in
    by_last (n == k) refl parts.0 (λ less. is_below p k n less parts.1)
  where
    by_last : (b : Bool) → (n == k) ≡ b → p k ≡ true → (n < k → p n ≡ true) → p n ≡ true
    by_last true e last less = ap p (eqb-true n k e) ∙ last
    by_last false e last less =
        let apart : n ≢ k = λ f. both_ways (n == k) e (eq-eqb n k f) in less (omega (arith, low, apart))

pub thrown_seen : (context : ℕ) (before after : Heap TaggedValue) → KeepsObjects before after → HasRuntimeObjects before
    → (n : ℕ) → nat_lt n first_aid_object ≡ true → IsSeen context after n
thrown_seen context before after kept own zero e = λ o found. absurd cc
thrown_seen context before after kept own (suc n) e =
    let low = ltb-true (suc n) first_aid_object e in
    own_seen context after runtime_objects (suc n) (they_stay before after kept own)
    (is_below (λ m. is_seen_in runtime_objects (suc m)) 13 n (omega (arith, low)) refl)

set_one : (os : Heap TaggedValue) (n : ℕ) (p q : Object TaggedValue) → slice_get (set os n p) n ≡ Some q → p ≡ q
set_one [] n p q e = absurd cc
set_one (o ∷ os) zero p q e = same_Some p q e
set_one (o ∷ os) (suc n) p q e = set_one os n p q e

-- with another component an object is hidden or not as it was
pub seen_still : (context : ℕ) (heap : Heap TaggedValue) (n : ℕ) (o : Object TaggedValue) (i : ℕ) (v : TaggedValue)
    → is_hidden context o ≡ false → IsSeen context (with_object heap n (with_cell o i v)) n
seen_still context heap zero o i v seen p e = absurd cc
seen_still context heap (suc n) o i v seen p e =
    subst (λ (q : Object TaggedValue). is_hidden context q ≡ false) (set_one heap n (with_cell o i v) p e) seen
