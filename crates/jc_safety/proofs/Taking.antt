-- What a row that applies to a state says of the values of that state.
use Rattle.std.proofs.Common.{◌≡◌, ℕ, ◌+◌, ◌-◌, List, [], ◌∷◌, length, take, drop, reverse, not, arith, Bool, true}
use Rattle.std.proofs.Common.{false, ◌&&◌, if◌then◌else◌, Option, Some, None, Ok, Err, nat_lt, refl}
use Rattle.jc_base.specs.declared.reason.Reason.TheVariants.{BadLocal, StackOver, StackUnder, WrongType}
use Rattle.jc_cap_desc.specs.Shape.{Shape}
use Rattle.jc_classes.specs.Subtype.{IsOrder, is_class_below}
use Rattle.jc_code.specs.declared.object.Form.TheVariants as Forms
use Rattle.jc_names.specs.declared.name.ClassName.{ClassName}
use Rattle.jc_effects.specs.Row.{Row, after, all_meet, applied, count_of, has_local, local_meets, local_of, meets, taken_by}
use Rattle.jc_effects.specs.Words.{takes}
use Rattle.jc_effects.specs.declared.row.Demand.{Demand}
use Rattle.jc_effects.specs.declared.row.Demand.TheVariants.{Array, Below, Bytes, Reference}
use Rattle.jc_effects.specs.declared.row.Given.TheVariants.{Exactly, Nothing}
use Rattle.jc_store.specs.Heap.{Heap}
use Rattle.jc_store.specs.declared.kind.ObjectType.{ObjectType}
use Rattle.jc_types.specs.State.{Types}
use Rattle.jc_types.specs.Ty.{is_below}
use Rattle.jc_types.specs.declared.ty.Ty.{Ty}
use Rattle.jc_types.specs.declared.ty.Ty.TheVariants as types
use Rattle.jc_machine.specs.Reading.{Pointwise}
use Rattle.jc_machine.specs.Arrays.{is_array_of}
use Rattle.jc_machine.specs.Lookup.{is_array, is_boolean_array, is_byte_array, is_short_array, leads_to}
use Rattle.jc_machine.specs.Typed.{HoldTypes, IsOperand, has_type}
use Rattle.jc_words.specs.Values.{TaggedValue, Word}
use Rattle.jc_safety.proofs.Lists.{both, reversed_points, take_points}
use Rattle.jc_safety.proofs.Upward.{holds_below, leads_up, null_leads, operand_up}

-- ---- a row that applies

four : (a b c d : Bool) (x t : Types)
    → (if a then Err BadLocal else if b then Err StackUnder else if c then Err WrongType else if d then Err StackOver else Ok x) ≡ Ok t
    → (a ≡ false) × (b ≡ false) × (c ≡ false) × (d ≡ false) × (x ≡ t)
four a b c d x t h1 = grind arith

three : (a b c : Bool) → not (a && b && c) ≡ false → (a ≡ true) × (b ≡ true) × (c ≡ true)
three a b c h1 = grind arith

pub not_false : (b : Bool) → not b ≡ false → b ≡ true
not_false b h1 = grind arith

pub record Applied (below : ClassName → ClassName → Bool) (most : ℕ) (row : Row) (s t : Types) : Type 0 where
  pub there : has_local row.local s.locals ≡ true
  pub enough : nat_lt (length s.operands) (length row.operands) ≡ false
  pub fits : row.fits ≡ true
  pub local_met : local_meets below row.local (local_of row.local s.locals) ≡ true
  pub operands_met : all_meet below row.operands (taken_by row s) ≡ true
  pub room : nat_lt most (length s.operands - length row.operands + count_of row.pushed) ≡ false
  pub is : after row s ≡ t

module _ (below : ClassName → ClassName → Bool) (most : ℕ) where
  pub row_applied : (row : Row) (s t : Types) → applied below most (Some row) s ≡ Ok t → Applied below most row s t
  unfolding applied
  row_applied row s t h = grind (arith, four, not, three, not_false)

  -- an instruction without a row never applies
  pub no_row : (A : Type 0) (s t : Types) → applied below most None s ≡ Ok t → A
  unfolding applied
  no_row A s t e = absurd cc

  -- an instruction that applies has a row
  pub record HasRow (row : Option Row) (s t : Types) : Type 0 where
    pub found : Row
    pub is : row ≡ Some found
    pub applied : Applied below most found s t

  pub has_row : (row : Option Row) (s t : Types) → applied below most row s ≡ Ok t → HasRow row s t
  has_row None s t e = no_row (HasRow None s t) s t e
  has_row (Some row) s t e = record { found = row; is = refl; applied = row_applied row s t e }

-- ---- what a value is that is as it has to be

abbrev pub any_object : ObjectType → Bool
any_object object = true

abbrev pub Meets : List Shape → Heap TaggedValue → TaggedValue → Demand → Type 0
Meets world heap v (Below t) = IsOperand world heap v t
Meets world heap v Reference = leads_to heap any_object v ≡ true
Meets world heap v Bytes = leads_to heap (is_array_of Forms.Byte) v ≡ true
Meets world heap v Array = leads_to heap is_array v ≡ true

of_any : (test : ObjectType → Bool) (o : ObjectType) → test o ≡ true → any_object o ≡ true
of_any test o e = refl

boolean_bytes : (o : ObjectType) → is_boolean_array o ≡ true → is_array_of Forms.Byte o ≡ true
boolean_bytes o h1 = grind arith

byte_bytes : (o : ObjectType) → is_byte_array o ≡ true → is_array_of Forms.Byte o ≡ true
byte_bytes o h1 = grind arith

boolean_array : (o : ObjectType) → is_boolean_array o ≡ true → is_array o ≡ true
boolean_array o h1 = grind arith

byte_array : (o : ObjectType) → is_byte_array o ≡ true → is_array o ≡ true
byte_array o h1 = grind arith

short_array : (o : ObjectType) → is_short_array o ≡ true → is_array o ≡ true
short_array o h1 = grind arith

reference_array : (world : List Shape) (c : ClassName) (o : ObjectType) → holds_below world c o ≡ true
    → is_array o ≡ true
reference_array world c o h1 = grind arith

-- types below one another in a world before are so in the world, which is ordered
pub record Orders (world before : List Shape) : Type 0 where
  pub order : IsOrder (is_class_below world)
  pub up : (t u : Ty) → is_below (is_class_below before) t u ≡ true → is_below (is_class_below world) t u ≡ true

module _ (world before : List Shape) (orders : Orders world before) (heap : Heap TaggedValue) where
  pub meets_reference : (v : TaggedValue) (t : Ty) → meets (is_class_below before) Reference t ≡ true
      → has_type world heap v t ≡ true → leads_to heap any_object v ≡ true
  meets_reference v t h1 h2 = grind (arith, null_leads, leads_up, of_any, holds_below)

  meets_bytes : (v : TaggedValue) (t : Ty) → meets (is_class_below before) Bytes t ≡ true
      → has_type world heap v t ≡ true → leads_to heap (is_array_of Forms.Byte) v ≡ true
  meets_bytes v t h1 h2 = grind (arith, null_leads, leads_up, boolean_bytes, byte_bytes)

  meets_array : (v : TaggedValue) (t : Ty) → meets (is_class_below before) Array t ≡ true
      → has_type world heap v t ≡ true → leads_to heap is_array v ≡ true
  meets_array v types.Top e h = absurd cc
  meets_array v types.Word e h = absurd cc
  meets_array v types.Null e h = null_leads heap is_array v h
  meets_array v (types.Class c) e h = absurd cc
  meets_array v types.BooleanArray e h = leads_up heap is_boolean_array is_array v boolean_array h
  meets_array v types.ByteArray e h = leads_up heap is_byte_array is_array v byte_array h
  meets_array v types.ShortArray e h = leads_up heap is_short_array is_array v short_array h
  meets_array v (types.ReferenceArray c) e h = grind (arith, leads_up, holds_below, reference_array)

  pub meets_value : (v : TaggedValue) (d : Demand) (t : Ty) → meets (is_class_below before) d t ≡ true
      → IsOperand world heap v t → Meets world heap v d
  meets_value v d t h1 h2 = grind (arith, operand_up, meets_reference, meets_bytes, meets_array)

  pub meet_all : (ds : List Demand) (vs : List TaggedValue) (ts : List Ty) → HoldTypes world heap vs ts
      → all_meet (is_class_below before) ds ts ≡ true → Pointwise (Meets world heap) vs ds
  meet_all [] [] [] h e = tt
  meet_all [] [] (t ∷ ts) h e = absurd h
  meet_all [] (v ∷ vs) [] h e = absurd h
  meet_all [] (v ∷ vs) (t ∷ ts) h e = absurd cc
  meet_all (d ∷ ds) [] [] h e = absurd cc
  meet_all (d ∷ ds) [] (t ∷ ts) h e = absurd h
  meet_all (d ∷ ds) (v ∷ vs) [] h e = absurd h
  meet_all (d ∷ ds) (v ∷ vs) (t ∷ ts) h e =
      let b = both (meets (is_class_below before) d t) (all_meet (is_class_below before) ds ts) e in
      (meets_value v d t b.0 h.0, meet_all ds vs ts h.1 b.1)

  -- the operands that a row takes, the deepest first
  pub operands_meet : (most : ℕ) (row : Row) (s t : Types) (vs : List TaggedValue)
      → HoldTypes world heap vs s.operands → Applied (is_class_below before) most row s t
      → Pointwise (Meets world heap) (reverse (take (length row.operands) vs)) row.operands
  operands_meet most row s t vs h a = search (arith, meet_all, reverse, take, length, reversed_points, take_points)

-- ---- operands taken off

module _ (world : List Shape) (heap : Heap TaggedValue) (P : List TaggedValue → Type 0) where
  pub take_one : (d : Demand) (vs : List TaggedValue) (ts : List Ty) → HoldTypes world heap vs ts
      → nat_lt (length ts) 1 ≡ false → Pointwise (Meets world heap) (reverse (take 1 vs)) (d ∷ [])
      → ((v : TaggedValue) (us : List TaggedValue) → Meets world heap v d → HoldTypes world heap us (drop 1 ts)
      → P (v ∷ us)) → P vs
  take_one d vs ts h1 h2 h3 h4 = grind arith

  pub take_two : (d e : Demand) (vs : List TaggedValue) (ts : List Ty) → HoldTypes world heap vs ts
      → nat_lt (length ts) 2 ≡ false → Pointwise (Meets world heap) (reverse (take 2 vs)) (d ∷ e ∷ [])
      → ((v u : TaggedValue) (us : List TaggedValue) → Meets world heap v e → Meets world heap u d
      → HoldTypes world heap us (drop 2 ts) → P (v ∷ u ∷ us)) → P vs
  take_two d e vs ts h1 h2 h3 h4 = grind arith

  pub take_three : (d e f : Demand) (vs : List TaggedValue) (ts : List Ty) → HoldTypes world heap vs ts
      → nat_lt (length ts) 3 ≡ false → Pointwise (Meets world heap) (reverse (take 3 vs)) (d ∷ e ∷ f ∷ [])
      → ((w v u : TaggedValue) (us : List TaggedValue) → Meets world heap w f → Meets world heap v e
      → Meets world heap u d → HoldTypes world heap us (drop 3 ts) → P (w ∷ v ∷ u ∷ us)) → P vs
  take_three d e f vs ts h1 h2 h3 h4 = grind arith

-- ---- by what a value is

-- a word
pub word_case : (world : List Shape) (heap : Heap TaggedValue) (P : TaggedValue → Type 0) (v : TaggedValue)
    → IsOperand world heap v types.Word → ((n : ℕ) → nat_lt n 65536 ≡ true → P (Word n)) → P v
word_case world heap P v h1 h2 = grind arith

-- ---- what is left behind rows without a local

module _ (below : ClassName → ClassName → Bool) (most : ℕ) (ds : List Demand) (s t : Types) where
  pub record Leaves (operands : List Ty) : Type 0 where
    pub locals_are : s.locals ≡ t.locals
    pub operands_are : operands ≡ t.operands

  pub leaves_nothing : Applied below most (takes ds Nothing) s t → Leaves (drop (length ds) s.operands)
  unfolding after
  leaves_nothing a = grind arith

  pub leaves_one : (u : Ty) → Applied below most (takes ds (Exactly u)) s t → Leaves (u ∷ drop (length ds) s.operands)
  unfolding after
  leaves_one u a = grind arith
