-- Locals that a row reads, and those that it writes.
use Rattle.std.proofs.Common.{◌≡◌, ℕ, zero, suc, List, [], ◌∷◌, length, drop, set, slice_get}
use Rattle.std.proofs.Common.{true, Option, Some, nat_lt, unwrap_or, refl, ap, subst, arith}
use Rattle.std.proofs.lemmas.Bool.{lt-ltb, ltb-true}
use Rattle.jc_cap_desc.specs.Shape.{Shape}
use Rattle.jc_classes.specs.Subtype.{is_class_below}
use Rattle.jc_effects.specs.Row.{after, meets}
use Rattle.jc_effects.specs.Words.{reads, writes}
use Rattle.jc_effects.specs.declared.row.Demand.{Demand}
use Rattle.jc_effects.specs.declared.row.Given.TheVariants.{Exactly, Nothing, OfLocal}
use Rattle.jc_store.specs.Heap.{Heap}
use Rattle.jc_types.specs.State.{Types}
use Rattle.jc_types.specs.declared.ty.Ty.{Ty}
use Rattle.jc_types.specs.declared.ty.Ty.TheVariants as types
use Rattle.jc_machine.specs.Typed.{HaveTypes, HoldTypes, has_type}
use Rattle.jc_words.specs.Values.{TaggedValue}
use Rattle.jc_safety.proofs.Lists.{both, same_length, set_points}
use Rattle.jc_safety.proofs.Taking.{Applied, Meets, Orders, meets_value}

-- a local that is there, and its type
pub record HasLocal (world : List Shape) (heap : Heap TaggedValue) (vs : List TaggedValue) (ts : List Ty) (index : ℕ)
    : Type 0 where
  pub value : TaggedValue
  pub there : slice_get vs index ≡ Some value
  pub type : Ty
  pub type_there : slice_get ts index ≡ Some type
  pub has : has_type world heap value type ≡ true

pub local_there : (world : List Shape) (heap : Heap TaggedValue) (vs : List TaggedValue) (ts : List Ty) (index : ℕ)
    → HaveTypes world heap vs ts → nat_lt index (length ts) ≡ true → HasLocal world heap vs ts index
local_there world heap [] [] index h e = absurd (omega (arith, ltb-true index 0 e))
local_there world heap [] (t ∷ ts) index h e = absurd h
local_there world heap (v ∷ vs) [] index h e = absurd h
local_there world heap (v ∷ vs) (t ∷ ts) zero h e = grind arith
local_there world heap (v ∷ vs) (t ∷ ts) (suc index) h e =
    let low = ltb-true (suc index) (length (t ∷ ts)) e in
    let l = local_there world heap vs ts index h.1 (lt-ltb index (length ts) (omega (arith, low))) in
    record { value = l.value; there = l.there; type = l.type; type_there = l.type_there; has = l.has }

-- a local of a type that is what it has to be
pub local_type : (ts : List Ty) (index : ℕ) (t : Ty) → slice_get ts index ≡ Some t
    → unwrap_or (slice_get ts index) types.Top ≡ t
local_type ts index t e = ap (λ (o : Option Ty). unwrap_or o types.Top) e

-- what is left behind a row that reads a local, and gives what it is said to
module _ (world before : List Shape) (most index : ℕ) (demand : Demand) (ds : List Demand) (s t : Types) where
  pub record Reads (operands : List Ty) : Type 0 where
    pub locals_are : s.locals ≡ t.locals
    pub operands_are : operands ≡ t.operands

  pub reads_nothing : Applied (is_class_below before) most (reads index demand ds Nothing) s t
      → Reads (drop (length ds) s.operands)
  unfolding after
  reads_nothing a = grind arith

  pub reads_one : (u : Ty) → Applied (is_class_below before) most (reads index demand ds (Exactly u)) s t
      → Reads (u ∷ drop (length ds) s.operands)
  unfolding after
  reads_one u a = grind arith

  pub reads_local : Applied (is_class_below before) most (reads index demand ds OfLocal) s t
      → Reads (unwrap_or (slice_get s.locals index) types.Top ∷ drop (length ds) s.operands)
  unfolding after
  reads_local a = grind arith

-- an operand that goes into a local
pub record Stored (world : List Shape) (heap : Heap TaggedValue) (demand : Demand) (index : ℕ)
    (locals vs : List TaggedValue) (t : Types) : Type 0 where
  pub value : TaggedValue
  pub rest : List TaggedValue
  pub is : vs ≡ value ∷ rest
  pub meets : Meets world heap value demand
  pub within : nat_lt index (length locals) ≡ true
  pub has : HaveTypes world heap (set locals index value) t.locals
  pub holds : HoldTypes world heap rest t.operands

module _ (world before : List Shape) (orders : Orders world before) (heap : Heap TaggedValue) (most index : ℕ)
    (demand : Demand) (locals : List TaggedValue) (ls : List Ty) (t : Types) where
  -- the state behind it, by the type that the operand has
  put_in_local : (u : Ty) (us : List Ty)
      → Applied (is_class_below before) most (writes index demand) (record { locals = ls; operands = u ∷ us }) t
      → ◌≡◌ {A = Types} (record { locals = set ls index u; operands = us }) t
  unfolding after
  put_in_local u us a = a.is

  pub stored : (vs : List TaggedValue) (us : List Ty) → HoldTypes world heap vs us → HaveTypes world heap locals ls
      → Applied (is_class_below before) most (writes index demand) (record { locals = ls; operands = us }) t
      → Stored world heap demand index locals vs t
  stored [] [] h k a = let e = a.enough in absurd cc
  stored [] (u ∷ us) h k a = absurd h
  stored (v ∷ vs) [] h k a = absurd h
  stored (v ∷ vs) (u ∷ us) h k a =
      let is = put_in_local u us a in
      let same = same_length (λ v t. has_type world heap v t ≡ true) locals ls k in
      let low = ltb-true index (length ls) a.there in
      let met = both (meets (is_class_below before) demand u) true a.operands_met in record {
        value = v;
        rest = vs;
        is = refl;
        meets = meets_value world before orders heap v demand u met.0 h.0;
        within = lt-ltb index (length locals) (omega (arith, same, low));
        has =
            subst (λ (x : Types). HaveTypes world heap (set locals index v) x.locals) is
            (set_points (λ v t. has_type world heap v t ≡ true) index locals ls v u k h.0.type);
        holds = subst (λ (x : Types). HoldTypes world heap vs x.operands) is h.1;
      }
