-- What a state allows each state below it allows, with a result below: of rows by their rule, and of moved operands.
use Rattle.std.proofs.Common.{◌≡◌, ℕ, ◌+◌, ◌-◌, max, List, Bool, true, false, ◌&&◌, not, refl, sym, ap, ◌∙◌, length, take, drop, slice_set, Option, Some, None, Ok, Err, nat_lt, if◌then◌else◌, arith}
use Rattle.jc_base.specs.declared.reason.Reason.TheVariants.{BadLocal, StackUnder, WrongType, StackOver}
use Rattle.jc_base.specs.Stack.{duplicated, swapped}
use Rattle.jc_code.specs.declared.instr.Operation.{Operation}
use Rattle.jc_code.specs.declared.instr.Shuffle as shuffles
use Rattle.jc_code.specs.declared.instr.WordOperation.{WordOperation}
use Rattle.jc_classes.specs.Subtype.{is_class_below}
use Rattle.jc_names.specs.declared.name.ClassName.{ClassName}
use Rattle.jc_types.specs.declared.ty.Ty.{Ty}
use Rattle.jc_types.specs.Changes.{with_operands, drop_types, duplicate_types, swap_types}
use Rattle.jc_types.specs.State.{Types, all_below, types_below}
use Rattle.jc_types.specs.Ty.{is_below}
use Rattle.jc_effects.specs.declared.row.Given.{Given}
use Rattle.jc_effects.specs.declared.row.LocalDemand.{LocalDemand}
use Rattle.jc_effects.specs.Effect.{effect_of}
use Rattle.jc_effects.specs.Laws.{IsMonotone}
use Rattle.jc_effects.specs.Objects.{Setting}
use Rattle.jc_effects.specs.Row.{Row, all_meet, has_local, local_of, local_meets, taken_by, is_met, count_of, put_on, put_in, after, applied}
use Rattle.jc_effects.specs.Words.{shuffle_effect, word_effect}
use Rattle.jc_effects.proofs.Order.{IsReflexive, IsTransitive, and_true, at_down, both, given_down, meets_down}
use Rattle.jc_effects.proofs.Lower.{same_length, take_down, drop_down, reverse_down, set_down, all_meet_down, duplicated_down, swapped_down}

-- ---- steps of tests

pub four : (a b c d : Bool) (x t : Types)
    → (if a then Err BadLocal else if b then Err StackUnder else if c then Err WrongType else if d then Err StackOver else Ok x) ≡ Ok t
    → (a ≡ false) × (b ≡ false) × (c ≡ false) × (d ≡ false) × (x ≡ t)
four a b c d x t h1 = grind arith

pub two : (a b : Bool) (x t : Types) → (if a then Err StackUnder else if b then Err StackOver else Ok x) ≡ Ok t
    → (a ≡ false) × (b ≡ false) × (x ≡ t)
two a b x t h1 = grind arith

pub one : (a : Bool) (x t : Types) → (if a then Err StackUnder else Ok x) ≡ Ok t → (a ≡ false) × (x ≡ t)
one a x t h1 = grind arith

pub three : (a b c : Bool) → not (a && b && c) ≡ false → (a ≡ true) × (b ≡ true) × (c ≡ true)
three a b c h1 = grind arith

module _ (below : ClassName → ClassName → Bool) (reflexive : IsReflexive below) (transitive : IsTransitive below) (most : ℕ) where
  -- ---- rows

  -- what a row has to find in a state
  abbrev Allowed : Row → Types → Type 0
  Allowed row s =
      (not (has_local row.local s.locals) ≡ false) × (nat_lt (length s.operands) (length row.operands) ≡ false)
      × (not (is_met below row s) ≡ false)
      × (nat_lt most (length s.operands - length row.operands + count_of row.pushed) ≡ false)

  allowed : (row : Row) (s t : Types) → applied below most (Some row) s ≡ Ok t → Allowed row s × (after row s ≡ t)
  unfolding applied
  allowed row s t h = grind (arith, four, not, nat_lt, length)

  allows : (row : Row) (s : Types) → Allowed row s → applied below most (Some row) s ≡ Ok (after row s)
  unfolding applied
  allows row s a = rw (a.0, a.1, a.2, a.3) refl

  taken_down : (row : Row) (s t : Types) → all_below below s.operands t.operands ≡ true
      → all_below below (taken_by row s) (taken_by row t) ≡ true
  taken_down row s t h = grind (arith, length, reverse_down, take, take_down)

  local_down : (place : LocalDemand) (xs ys : List Ty) → all_below below xs ys ≡ true
      → is_below below (local_of place xs) (local_of place ys) ≡ true
  local_down place xs ys h1 = grind (arith, at_down)

  local_meets_down : (place : LocalDemand) (x y : Ty) → is_below below x y ≡ true → local_meets below place y ≡ true
      → local_meets below place x ≡ true
  local_meets_down place x y h1 h2 = grind (arith, meets_down)

  there_down : (place : LocalDemand) (xs ys : List Ty) → length xs ≡ length ys → has_local place xs ≡ has_local place ys
  there_down place xs ys h1 = grind (arith, nat_lt)

  put_on_down : (g : Given) (x y : Ty) (xs ys : List Ty) → is_below below x y ≡ true → all_below below xs ys ≡ true
      → all_below below (put_on g x xs) (put_on g y ys) ≡ true
  put_on_down g x y xs ys h1 h2 = grind (arith, and_true)

  put_at_down : (index : ℕ) (b : Bool) (x y : Ty) (xs ys : List Ty) → is_below below x y ≡ true → all_below below xs ys ≡ true
      → all_below below (if b then slice_set xs index x else xs) (if b then slice_set ys index y else ys) ≡ true
  put_at_down index b x y xs ys h1 h2 = grind (arith, set_down)

  put_in_down : (place : LocalDemand) (g : Given) (x y : Ty) (xs ys : List Ty) → is_below below x y ≡ true
      → all_below below xs ys ≡ true
      → all_below below (put_in place g x xs) (put_in place g y ys) ≡ true
  put_in_down place g x y xs ys h1 h2 = grind (arith, put_at_down, nat_lt)

  after_down : (row : Row) (s t : Types) → types_below below s t ≡ true → types_below below (after row s) (after row t) ≡ true
  unfolding after
  after_down row s t h =
      let parts = both (all_below below s.locals t.locals) (all_below below s.operands t.operands) h in
      let l = local_down row.local s.locals t.locals parts.0 in
      let o = taken_down row s t parts.1 in
      and_true (all_below below (after row s).locals (after row t).locals) (all_below below (after row s).operands (after row t).operands)
      (put_in_down row.local row.written _ _ s.locals t.locals (given_down below reflexive row.written _ _ _ _ l o) parts.0)
      (put_on_down row.pushed _ _ _ _ (given_down below reflexive row.pushed _ _ _ _ l o)
      (drop_down below (length row.operands) s.operands t.operands parts.1))

  allowed_down : (row : Row) (s t : Types) → types_below below s t ≡ true → Allowed row t → Allowed row s
  allowed_down row s t h a =
      let parts = both (all_below below s.locals t.locals) (all_below below s.operands t.operands) h in
      let n : length s.operands ≡ length t.operands = same_length below s.operands t.operands parts.1 in
      let there : has_local row.local s.locals ≡ has_local row.local t.locals =
      there_down row.local s.locals t.locals (same_length below s.locals t.locals parts.0) in
      let w = three row.fits (local_meets below row.local (local_of row.local t.locals)) (all_meet below row.operands (taken_by row t)) a.2 in
      let l =
      local_meets_down row.local (local_of row.local s.locals) (local_of row.local t.locals)
      (local_down row.local s.locals t.locals parts.0) w.1 in
      let o = all_meet_down below transitive row.operands (taken_by row s) (taken_by row t) (taken_down row s t parts.1) w.2 in
      (rw there a.0, rw n a.1, rw (w.0, l, o) refl, rw n a.3)

  -- an instruction without a row never applies
  refused : (t after_t : Types) (A : Type 0) → applied below most None t ≡ Ok after_t → A
  unfolding applied
  refused t after_t A e = absurd cc

  -- what is below a state is below what that one is
  named : (s t after_t : Types) → t ≡ after_t → types_below below s t ≡ true → types_below below s after_t ≡ true
  named s t after_t e h = ap (types_below below s) (sym e) ∙ h

  pub applied_down : (row : Option Row) → IsMonotone below (applied below most row)
  applied_down (Some row) s t after_t h e =
      let a = allowed row t after_t e in
      (after row s, allows row s (allowed_down row s t h a.0), named (after row s) (after row t) after_t a.1 (after_down row s t h))
  applied_down None s t after_t h e = refused t after_t _ e

  -- ---- operands that are moved

  -- with the locals as they were
  moved_down : (s t : Types) (xs ys : List Ty) → types_below below s t ≡ true → all_below below xs ys ≡ true
      → types_below below (with_operands s xs) (with_operands t ys) ≡ true
  moved_down s t xs ys h k = grind (arith, both, and_true)

  operands_down : (s t : Types) → types_below below s t ≡ true → all_below below s.operands t.operands ≡ true
  operands_down s t h = (both (all_below below s.locals t.locals) (all_below below s.operands t.operands) h).1

  pop_down : (count : ℕ) → IsMonotone below (drop_types count)
  unfolding drop_types
  pop_down count s t after_t h e =
      let under = operands_down s t h in
      let n : length s.operands ≡ length t.operands = same_length below s.operands t.operands under in
      let lower = drop count s.operands in
      let upper = drop count t.operands in
      let r = one (nat_lt (length t.operands) count) (with_operands t upper) after_t e in
      let moved = moved_down s t lower upper h (drop_down below count s.operands t.operands under) in
      (with_operands s lower, rw (n, r.0) refl, named (with_operands s lower) (with_operands t upper) after_t r.1 moved)

  duplicate_down : (count depth : ℕ) → IsMonotone below (duplicate_types most count depth)
  unfolding duplicate_types
  duplicate_down count depth s t after_t h e =
      let under = operands_down s t h in
      let n : length s.operands ≡ length t.operands = same_length below s.operands t.operands under in
      let lower = duplicated count depth s.operands in
      let upper = duplicated count depth t.operands in
      let r =
      two (nat_lt (length t.operands) (max count depth)) (nat_lt most (length t.operands + count)) (with_operands t upper)
      after_t e in
      let moved = moved_down s t lower upper h (duplicated_down below count depth s.operands t.operands under) in
      (with_operands s lower, rw (n, r.0, r.1) refl, named (with_operands s lower) (with_operands t upper) after_t r.2 moved)

  swap_down : (above beneath : ℕ) → IsMonotone below (swap_types above beneath)
  unfolding swap_types
  swap_down above beneath s t after_t h e =
      let under = operands_down s t h in
      let n : length s.operands ≡ length t.operands = same_length below s.operands t.operands under in
      let lower = swapped above beneath s.operands in
      let upper = swapped above beneath t.operands in
      let r = one (nat_lt (length t.operands) (above + beneath)) (with_operands t upper) after_t e in
      let moved = moved_down s t lower upper h (swapped_down below above beneath s.operands t.operands under) in
      (with_operands s lower, rw (n, r.0) refl, named (with_operands s lower) (with_operands t upper) after_t r.1 moved)

  shuffle_down : (shuffle : shuffles.Shuffle) → IsMonotone below (shuffle_effect most shuffle)
  shuffle_down shuffle = grind (arith, pop_down, duplicate_down, swap_down)

  -- ---- all effects

  pub word_down : (returned : Option Ty) (operation : WordOperation)
      → IsMonotone below (word_effect below most returned operation)
  unfolding word_effect
  word_down returned operation = grind (arith, shuffle_down, applied_down)

pub effect_down : (set : Setting) → IsReflexive (is_class_below set.world) → IsTransitive (is_class_below set.world)
    → (most : ℕ) (operation : Operation)
    → IsMonotone (is_class_below set.world) (effect_of set most operation)
unfolding effect_of
effect_down set h1 h2 most operation = grind (arith, word_down, applied_down)
