-- Where each object stays, what was typed stays typed.
use Rattle.std.proofs.Common.{◌≡◌, ℕ, zero, suc, List, [], ◌∷◌, length, slice_get, Option, Some, None, arith}
use Rattle.std.proofs.Common.{Bool, true, false, refl, ap, ◌∙◌, subst, inl, inr}
use Rattle.std.specs.List.{AllByRecursion}
use Rattle.std.specs.Option.{option_map_or}
use Rattle.jc_base.specs.declared.declared_type.DeclaredType.{DeclaredType}
use Rattle.jc_base.specs.declared.declared_type.DeclaredType.TheVariants as Declared
use Rattle.jc_cap_desc.specs.Shape.{Shape}
use Rattle.jc_link.specs.Linked.{World}
use Rattle.jc_names.specs.declared.name.ClassName.{ClassName}
use Rattle.jc_store.specs.Heap as heaps
use Rattle.jc_store.specs.Heap.{Heap, object_at, with_new, with_object}
use Rattle.jc_store.specs.declared.kind.ObjectKind.{ObjectKind}
use Rattle.jc_store.specs.declared.kind.ObjectType.{ObjectType}
use Rattle.jc_types.specs.declared.ty.Ty.{Ty}
use Rattle.jc_machine.specs.Lookup.{is_kept_as, is_of_type, leads_to}
use Rattle.jc_machine.specs.Machine.{Frame, StaticValue}
use Rattle.jc_machine.specs.Natives.{KeepsObjects}
use Rattle.jc_machine.specs.Typed.{CellsTyped, HaveTypes, HoldTypes, IsOperand, IsPlaced, ObjectTyped, StaticTyped}
use Rattle.jc_machine.specs.Typed.{StaticsTyped, WaitTyped, WaitsTyped, given_by, has_type, is_cell}
use Rattle.jc_words.specs.Values.{Ref, TaggedValue}
use Rattle.jc_safety.proofs.Lists.{each_mapped, get_joined, get_set, mapped_points}
use Rattle.jc_safety.proofs.Upward.{holds_below}

-- ---- heaps in which each object stays

pub keeps_self : (heap : Heap TaggedValue) → KeepsObjects heap heap
keeps_self heap n o e = record { object = o; found = e; kind = refl; owner = refl; size = refl }

pub keeps_through : (one two three : Heap TaggedValue) → KeepsObjects one two → KeepsObjects two three
    → KeepsObjects one three
keeps_through one two three a b n o e =
    let p = a n o e in
    let q = b n p.object p.found in
    record {
      object = q.object;
      found = q.found;
      kind = q.kind ∙ p.kind;
      owner = q.owner ∙ p.owner;
      size = q.size ∙ p.size;
    }

pub keeps_new : (heap : Heap TaggedValue) (o : heaps.Object TaggedValue) → KeepsObjects heap (with_new heap o)
keeps_new heap o zero p e = absurd cc
keeps_new heap o (suc n) p e =
    record { object = p; found = get_joined heap (o ∷ []) n p e; kind = refl; owner = refl; size = refl }

-- an object in place of another one of its kind, owner and size
pub keeps_changed : (heap : Heap TaggedValue) (n : ℕ) (o p : heaps.Object TaggedValue) → object_at heap n ≡ Some o
    → p.kind ≡ o.kind → p.owner ≡ o.owner → length p.cells ≡ length o.cells
    → KeepsObjects heap (with_object heap n p)
keeps_changed heap zero o p found kind owner size i q e = absurd cc
keeps_changed heap (suc n) o p found kind owner size zero q e = absurd cc
keeps_changed heap (suc n) o p found kind owner size (suc i) q e = elim (get_set heap n i p q e) [
  | inl same ↦ record { object = q; found = same; kind = refl; owner = refl; size = refl }
  | inr changed ↦
      let at_n = subst (λ (k : ℕ). slice_get heap k ≡ Some q) changed.0 e in
      let same : o ≡ q = cc in record {
        object = p;
        found = changed.1;
        kind = kind ∙ ap (λ (x : heaps.Object TaggedValue). x.kind) same;
        owner = owner ∙ ap (λ (x : heaps.Object TaggedValue). x.owner) same;
        size = size ∙ ap (λ (x : heaps.Object TaggedValue). length x.cells) same;
      }
]

-- ---- what leads to an object leads to it still

module _ (before after : Heap TaggedValue) (keeps : KeepsObjects before after) where
  by_object : (test : ObjectType → Bool) (n : ℕ) (found : Option (heaps.Object TaggedValue))
      → object_at before n ≡ found → option_map_or (λ o. test o.kind.object_type) found false ≡ true
      → leads_to after test (Ref n) ≡ true
  by_object test n None e h = absurd cc
  by_object test n (Some o) e h =
      let still = keeps n o e in
      ap (λ (x : Option (heaps.Object TaggedValue)). option_map_or (λ o. test o.kind.object_type) x false) still.found
      ∙ ap (λ (k : ObjectKind). test k.object_type) still.kind ∙ h

  pub leads_still : (test : ObjectType → Bool) (v : TaggedValue) → leads_to before test v ≡ true
      → leads_to after test v ≡ true
  leads_still test v h1 = grind (arith, by_object)

  module _ (world : List Shape) where
    pub type_still : (v : TaggedValue) (t : Ty) → has_type world before v t ≡ true → has_type world after v t ≡ true
    type_still v t h1 = grind (arith, leads_still, holds_below)

    pub operand_still : (v : TaggedValue) (t : Ty) → IsOperand world before v t → IsOperand world after v t
    operand_still v t h = record { type = type_still v t h.type; written = h.written }

    pub types_still : (vs : List TaggedValue) (ts : List Ty) → HaveTypes world before vs ts
        → HaveTypes world after vs ts
    types_still vs ts h = grind (arith, mapped_points, type_still)

    pub operands_still : (vs : List TaggedValue) (ts : List Ty) → HoldTypes world before vs ts
        → HoldTypes world after vs ts
    operands_still vs ts h = mapped_points (IsOperand world before) (IsOperand world after) operand_still vs ts h

    -- ---- what objects and static fields hold

    pub declared_still : (d : DeclaredType ClassName) (v : TaggedValue) → is_of_type world before d v ≡ true
        → is_of_type world after d v ≡ true
    declared_still d v h1 = grind (arith, leads_still, holds_below)

    pub kept_still : (d : DeclaredType ClassName) (v : TaggedValue) → is_kept_as world before d v ≡ true
        → is_kept_as world after d v ≡ true
    kept_still Declared.Boolean v h = h
    kept_still Declared.Byte v h = h
    kept_still Declared.Short v h = h
    kept_still (Declared.Reference c) v h = declared_still (Declared.Reference c) v h
    kept_still Declared.BooleanArray v h = declared_still Declared.BooleanArray v h
    kept_still Declared.ByteArray v h = declared_still Declared.ByteArray v h
    kept_still Declared.ShortArray v h = declared_still Declared.ShortArray v h
    kept_still (Declared.ReferenceArray c) v h = declared_still (Declared.ReferenceArray c) v h

    cell_still : (v : TaggedValue) (field : Option (DeclaredType ClassName)) → is_cell world before field v ≡ true
        → is_cell world after field v ≡ true
    cell_still v field h1 = grind (arith, kept_still)

    pub cells_still : (cells : List TaggedValue) (type : ObjectType) → CellsTyped world before cells type
        → CellsTyped world after cells type
    cells_still cells type h1 = grind (arith, mapped_points, cell_still, each_mapped, leads_still)

    pub object_still : (o : heaps.Object TaggedValue) → ObjectTyped world before o → ObjectTyped world after o
    object_still o h = grind (arith, cells_still)

    pub objects_still : (objects : List (heaps.Object TaggedValue)) → AllByRecursion (ObjectTyped world before) objects
        → AllByRecursion (ObjectTyped world after) objects
    objects_still objects h = each_mapped (ObjectTyped world before) (ObjectTyped world after) object_still objects h

    static_still : (home : ℕ) (x : StaticValue) → StaticTyped world before home x → StaticTyped world after home x
    static_still home x h = grind (arith, kept_still)

    pub static_values_still : (home : ℕ) (fields : List StaticValue)
        → AllByRecursion (StaticTyped world before home) fields → AllByRecursion (StaticTyped world after home) fields
    static_values_still home fields h = grind (arith, each_mapped, static_still)

-- ---- static fields and frames

module _ (w : World) (before after : Heap TaggedValue) (keeps : KeepsObjects before after) where
  pub statics_still : (statics : List (List StaticValue)) → StaticsTyped w before statics
      → StaticsTyped w after statics
  statics_still statics h = record {
    count = h.count;
    typed = λ number fields e. static_values_still before after keeps w.shapes _ fields (h.typed number fields e);
    present = h.present;
  }

  abbrev pub placed_still : (f : Frame) → IsPlaced w before f → IsPlaced w after f
  placed_still f h = record {
    body = h.body;
    loaded = h.loaded;
    code = h.code;
    there = h.there;
    typing = h.typing;
    typed = h.typed;
    shaped = h.shaped;
    state = h.state;
    stated = h.stated;
    locals_typed = types_still before after keeps w.shapes f.locals h.state.locals h.locals_typed;
  }

  waits_still : (result : Option Ty) (f : Frame) → WaitsTyped w before result f → WaitsTyped w after result f
  waits_still result f h = record {
    placed = placed_still f h.placed;
    call = h.call;
    stands = h.stands;
    invocation = h.invocation;
    invokes = h.invokes;
    left = h.left;
    after = h.after;
    after_is = h.after_is;
    effect = h.effect;
    leads = h.leads;
    operands_typed = operands_still before after keeps w.shapes f.operands h.left h.operands_typed;
  }

  pub waiting_still : (result : Option Ty) (fs : List Frame) → WaitTyped w before result fs
      → WaitTyped w after result fs
  waiting_still result [] h = tt
  waiting_still result (f ∷ fs) h = (waits_still result f h.0, waiting_still (given_by w f) fs h.1)
