-- An operation on words that has an effect on types comes to values of the types behind it.
use Rattle.std.proofs.Common.{◌≡◌, ℕ, ℤ, zero, suc, ◌+◌, ◌-◌, ◌<◌, max, List, [], ◌∷◌, ◌++◌, length, take, drop}
use Rattle.std.proofs.Common.{reverse, set, Bool, true, false, ◌&&◌, not, if◌then◌else◌, Option, Some, None, Ok, Err}
use Rattle.std.proofs.Common.{nat_lt, nat_le, slice_get, unwrap_or, refl, sym, ap, subst, arith, length-drop}
use Rattle.std.proofs.lemmas.Bool.{le-leb, lt-ltb, ltb-false, ltb-true}
use Rattle.std.proofs.lemmas.Int.{ints}
use Rattle.std.specs.Int.{w16}
use Rattle.std.specs.Int.RustNames.{FitsSigned}
use Rattle.std.specs.List.{Contains}
use Rattle.std.specs.Option.{option_map_or}
use Rattle.jc_base.specs.Stack.{duplicated, swapped}
use Rattle.jc_base.specs.declared.reason.Reason.TheVariants.{BadLocal, StackOver, StackUnder, WrongType}
use Rattle.jc_cap_desc.specs.Shape.{Shape}
use Rattle.jc_code.specs.Targets.{falls_of, offsets_of}
use Rattle.jc_code.specs.declared.instr.Operation.TheVariants.{Word as OnWords}
use Rattle.jc_code.specs.declared.instr.Shuffle.TheVariants.{Duplicate, Pop, Swap}
use Rattle.jc_code.specs.declared.instr.When.TheVariants.{Always, Compare, Zero}
use Rattle.jc_code.specs.declared.instr.WordOperation.{WordOperation}
use Rattle.jc_code.specs.declared.instr.WordOperation.TheVariants as ops
use Rattle.jc_effects.specs.Row.{Row, after, all_meet, applied, count_of, has_local, local_meets, local_of, taken_by}
use Rattle.jc_effects.specs.Words.{reads, takes, word, word_effect}
use Rattle.jc_effects.specs.declared.row.Given.{Given}
use Rattle.jc_names.specs.declared.name.ClassName.{ClassName}
use Rattle.jc_store.specs.Heap.{Heap}
use Rattle.jc_types.specs.Changes.{drop_types, duplicate_types, swap_types, with_operands}
use Rattle.jc_types.specs.State.{Types}
use Rattle.jc_types.specs.Ty.{is_below, is_word}
use Rattle.jc_types.specs.declared.ty.Ty.{Ty}
use Rattle.jc_types.specs.declared.ty.Ty.TheVariants as types
use Rattle.jc_words.specs.Laws.{WordLaws}
use Rattle.jc_words.specs.Shorts.{binary_of, holds, incremented, lookup_offset, short, stable_offset, unary_of, word_of}
use Rattle.jc_words.specs.Values.{TaggedValue, Word, all_written}
use Rattle.jc_machine.specs.Going.{StepContext, branches, check, gives, leaves_operands, on_operands, on_word, on_word_local}
use Rattle.jc_machine.specs.Machine.{Stepped}
use Rattle.jc_machine.specs.Reading.{Pointwise}
use Rattle.jc_machine.specs.Typed.{HaveTypes, HoldTypes, IsOperand, has_type}
use Rattle.jc_machine.specs.TypedWords.{LeavesTyped, KeepWordsTyped, branching, going, returning, throwing}
use Rattle.jc_machine.specs.Words.{act_word, on_result}

-- ---- values point by point

module _ {A B : Type 0} (R : A → B → Type 0) where
  same_length : (xs : List A) (ys : List B) → Pointwise R xs ys → length xs ≡ length ys
  same_length [] ys h = grind arith
  same_length (x ∷ xs) ys h = grind (arith, same_length xs)

  take_points : (n : ℕ) (xs : List A) (ys : List B) → Pointwise R xs ys → Pointwise R (take n xs) (take n ys)
  take_points zero xs ys h = tt
  take_points (suc n) xs ys h = grind (arith, take_points n)

  drop_points : (n : ℕ) (xs : List A) (ys : List B) → Pointwise R xs ys → Pointwise R (drop n xs) (drop n ys)
  drop_points zero xs ys h = h
  drop_points (suc n) xs ys h = grind (arith, drop_points n)

  joined_points : (xs vs : List A) (ys ws : List B) → Pointwise R xs ys → Pointwise R vs ws
      → Pointwise R (xs ++ vs) (ys ++ ws)
  joined_points [] vs ys ws h k = grind arith
  joined_points (x ∷ xs) vs ys ws h k = grind (arith, joined_points xs)

  -- a member of each is changed
  set_points : (n : ℕ) (xs : List A) (ys : List B) (x : A) (y : B) → Pointwise R xs ys → R x y
      → Pointwise R (set xs n x) (set ys n y)
  set_points n [] ys x y h r = grind arith
  set_points zero (a ∷ xs) ys x y h r = grind arith
  set_points (suc n) (a ∷ xs) ys x y h r = grind (arith, set_points n xs)

  -- one of the first is changed to what is across from that of the second as well
  put_points : (n : ℕ) (xs : List A) (ys : List B) (x : A) (y : B) → Pointwise R xs ys → slice_get ys n ≡ Some y
      → R x y → Pointwise R (set xs n x) ys
  put_points n [] ys x y h e r = grind arith
  put_points zero (a ∷ xs) ys x y h e r = grind arith
  put_points (suc n) (a ∷ xs) ys x y h e r = grind (arith, put_points n xs)

-- ---- a row that applies

four : (a b c d : Bool) (x t : Types)
    → (if a then Err BadLocal else if b then Err StackUnder else if c then Err WrongType else if d then Err StackOver
    else Ok x) ≡ Ok t
    → (a ≡ false) × (b ≡ false) × (c ≡ false) × (d ≡ false) × (x ≡ t)
four a b c d x t h = grind arith

three : (a b c : Bool) → not (a && b && c) ≡ false → (a ≡ true) × (b ≡ true) × (c ≡ true)
three a b c h = grind arith

not_false : (b : Bool) → not b ≡ false → b ≡ true
not_false b h = grind arith

record Applied (below : ClassName → ClassName → Bool) (most : ℕ) (row : Row) (s t : Types) : Type 0 where
  there : has_local row.local s.locals ≡ true
  enough : nat_lt (length s.operands) (length row.operands) ≡ false
  fits : row.fits ≡ true
  local_met : local_meets below row.local (local_of row.local s.locals) ≡ true
  operands_met : all_meet below row.operands (taken_by row s) ≡ true
  room : nat_lt most (length s.operands - length row.operands + count_of row.pushed) ≡ false
  is : after row s ≡ t

row_applied : (below : ClassName → ClassName → Bool) (most : ℕ) (row : Row) (s t : Types)
    → applied below most (Some row) s ≡ Ok t → Applied below most row s t
unfolding applied
row_applied below most row s t h = grind (arith, four, not, three, not_false)

under : (b : Bool) (x t : Types) → (if b then Err StackUnder else Ok x) ≡ Ok t → (b ≡ false) × (x ≡ t)
under b x t h = grind arith

under_over : (a b : Bool) (x t : Types) → (if a then Err StackUnder else if b then Err StackOver else Ok x) ≡ Ok t
    → (a ≡ false) × (b ≡ false) × (x ≡ t)
under_over a b x t h = grind arith

module _ (world : List Shape) (heap : Heap TaggedValue) (below : ClassName → ClassName → Bool) where
  abbrev Have : List TaggedValue → List Ty → Type 0
  Have vs ts = HaveTypes world heap vs ts

  abbrev Hold : List TaggedValue → List Ty → Type 0
  Hold vs ts = HoldTypes world heap vs ts

  -- ---- words

  word_type : (u : Ty) → is_below below u types.Word ≡ true → u ≡ types.Word
  word_type u e = grind arith

  -- the type on top, where a row takes a word
  top_word : (ts : List Ty) → nat_lt (length ts) 1 ≡ false
      → all_meet below (word ∷ []) (reverse (take 1 ts)) ≡ true
      → unwrap_or (slice_get (reverse (take 1 ts)) 0) types.Top ≡ types.Word
  top_word ts n m = grind (arith, word_type)

  -- a value that is a word
  record IsWord (v : TaggedValue) : Type 0 where
    number : ℕ
    small : number < 65536
    is : v ≡ Word number

  as_word : (v : TaggedValue) → has_type world heap v types.Word ≡ true → IsWord v
  as_word v h = grind (arith, ltb-true)

  word_of_type : (v : TaggedValue) (u : Ty) → is_below below u types.Word ≡ true → has_type world heap v u ≡ true
      → IsWord v
  word_of_type v u e h = grind (arith, as_word, word_type)

  word_operand : (n : ℕ) → n < 65536 → IsOperand world heap (Word n) types.Word
  word_operand n h = record { type = lt-ltb n 65536 h; written = refl }

  -- a local that is a word
  record HasWord (vs : List TaggedValue) (ts : List Ty) (index : ℕ) : Type 0 where
    number : ℕ
    small : number < 65536
    there : slice_get vs index ≡ Some (Word number)
    type_there : slice_get ts index ≡ Some types.Word

  word_there : (vs : List TaggedValue) (ts : List Ty) (index : ℕ) → Have vs ts → nat_lt index (length ts) ≡ true
      → is_below below (unwrap_or (slice_get ts index) types.Top) types.Word ≡ true → HasWord vs ts index
  word_there [] [] index h e m = absurd (omega (arith, ltb-true index 0 e))
  word_there [] (t ∷ ts) index h e m = absurd h
  word_there (v ∷ vs) [] index h e m = absurd h
  word_there (v ∷ vs) (t ∷ ts) zero h e m =
      let w = word_of_type v t m h.0 in
      record { number = w.number; small = w.small; there = ap Some w.is; type_there = ap Some (word_type t m) }
  word_there (v ∷ vs) (t ∷ ts) (suc index) h e m =
      let low = ltb-true (suc index) (length (t ∷ ts)) e in
      let l = word_there vs ts index h.1 (lt-ltb index (length ts) (omega (arith, low))) m in
      record { number = l.number; small = l.small; there = l.there; type_there = l.type_there }

  -- operands were written
  all_were_written : (n : ℕ) (vs : List TaggedValue) (ts : List Ty) → Hold vs ts → all_written (take n vs) ≡ true
  all_were_written zero vs ts h = refl
  all_were_written (suc n) [] ts h = refl
  all_were_written (suc n) (v ∷ vs) [] h = absurd h
  all_were_written (suc n) (v ∷ vs) (t ∷ ts) h = grind (arith, all_were_written n vs ts h.1)

  -- room for an operand more, by types
  room_left : (most count : ℕ) (ts : List Ty) (vs : List TaggedValue) → nat_lt (length ts) count ≡ false
      → nat_lt most (length ts - count + 1) ≡ false → Hold vs (drop count ts) → nat_lt (length vs) most ≡ true
  room_left most count ts vs enough room h = grind (arith, same_length, length-drop, ltb-false, lt-ltb)

  -- ---- words that are taken off

  module _ {C : Type 0} (P : Stepped C → Type 0) (go : ℕ → List TaggedValue → Stepped C) where
    on_one : (v : TaggedValue) (vs : List TaggedValue) → IsWord v → ((n : ℕ) → n < 65536 → P (go n vs))
        → P (on_word (v ∷ vs) go)
    on_one v vs w each = subst (λ (x : TaggedValue). P (on_word (x ∷ vs) go)) (sym w.is) (each w.number w.small)

    one_word : (vs : List TaggedValue) (ts : List Ty) → Hold vs ts → nat_lt (length ts) 1 ≡ false
        → all_meet below (word ∷ []) (reverse (take 1 ts)) ≡ true
        → ((n : ℕ) (us : List TaggedValue) → n < 65536 → Hold us (drop 1 ts) → P (go n us)) → P (on_word vs go)
    one_word vs ts h n m each = grind (arith, on_one, word_of_type)

  two_words : {C : Type 0} (P : Stepped C → Type 0) (go : ℕ → ℕ → List TaggedValue → Stepped C)
      → (vs : List TaggedValue) (ts : List Ty) → Hold vs ts → nat_lt (length ts) 2 ≡ false
      → all_meet below (word ∷ word ∷ []) (reverse (take 2 ts)) ≡ true
      → ((n k : ℕ) (us : List TaggedValue) → n < 65536 → k < 65536 → Hold us (drop 2 ts) → P (go n k us))
      → P (on_word vs (λ n us. on_word us (λ k rest. go n k rest)))
  two_words P go vs ts h n m each = grind (arith, on_one, word_of_type)

-- ---- the ways on

module _ {C : Type 0} (laws : WordLaws) (world : List Shape) (heap : Heap TaggedValue)
    (below : ClassName → ClassName → Bool) (h : StepContext C) (returned : Option Ty) (s t : Types)
    (has : HaveTypes world heap h.machine.top.locals s.locals)
    (held : HoldTypes world heap h.machine.top.operands s.operands) where
  abbrev vs : List TaggedValue
  vs = h.machine.top.operands

  abbrev Comes : WordOperation → Stepped C → Type 0
  Comes operation x = LeavesTyped world heap h returned operation t x

  module _ {operation : WordOperation} where
    checked : (b : Bool) {x : Stepped C} → b ≡ true → Comes operation x → Comes operation (check b x)
    checked b {x} e c = subst (λ (b : Bool). Comes operation (check b x)) (sym e) c

    -- the frame goes on, with its locals as they are
    leaves : falls_of (OnWords operation) ≡ true → {us : List TaggedValue} {ts : List Ty}
        → record { locals = s.locals; operands = ts } ≡ t → HoldTypes world heap us ts
        → Comes operation (leaves_operands h us)
    leaves falls {us} is hold =
        going h.machine.top.locals us falls
        (subst (λ (x : Types). HaveTypes world heap h.machine.top.locals x.locals) is has)
        (subst (λ (x : Types). HoldTypes world heap us x.operands) is hold)

    gives_word : falls_of (OnWords operation) ≡ true → (us : List TaggedValue) (n count : ℕ) → n < 65536
        → nat_lt (length s.operands) count ≡ false → nat_lt h.max_stack (length s.operands - count + 1) ≡ false
        → record { locals = s.locals; operands = types.Word ∷ drop count s.operands } ≡ t
        → HoldTypes world heap us (drop count s.operands) → Comes operation (gives h (Word n) us)
    gives_word falls us n count small enough room is hold =
        checked (nat_lt (length us) h.max_stack)
        (room_left world heap below h.max_stack count s.operands us enough room hold)
        (leaves falls is (word_operand world heap below n small, hold))

    jumps_by : (offset : ℤ) → Contains (offsets_of (OnWords operation)) offset → (us : List TaggedValue) {ts : List Ty}
        → record { locals = s.locals; operands = ts } ≡ t → HoldTypes world heap us ts
        → Comes operation (branches h true offset us)
    jumps_by offset there us is hold =
        branching offset us there (subst (λ (x : Types). HaveTypes world heap h.machine.top.locals x.locals) is has)
        (subst (λ (x : Types). HoldTypes world heap us x.operands) is hold)

    branches_by : (taken : Bool) → falls_of (OnWords operation) ≡ true → (offset : ℤ)
        → Contains (offsets_of (OnWords operation)) offset → (us : List TaggedValue) {ts : List Ty}
        → record { locals = s.locals; operands = ts } ≡ t → HoldTypes world heap us ts
        → Comes operation (branches h taken offset us)
    branches_by true falls offset there us is hold = jumps_by offset there us is hold
    branches_by false falls offset there us is hold = leaves falls is hold

    by_result : (us : List TaggedValue) (r : Option ℕ)
        → ((n : ℕ) → r ≡ Some n → Comes operation (gives h (Word n) us))
        → Comes operation (on_result h r (λ n. gives h (Word n) us))
    by_result us None each = throwing
    by_result us (Some n) each = each n refl

    -- on words that a row takes
    on_one_word : {row : Row} → Applied below h.max_stack row s t → row.operands ≡ word ∷ []
        → (go : ℕ → List TaggedValue → Stepped C)
        → ((n : ℕ) (us : List TaggedValue) → n < 65536 → HoldTypes world heap us (drop 1 s.operands)
        → Comes operation (go n us))
        → Comes operation (on_word vs go)
    on_one_word a is go each = grind (arith, one_word)

    on_two_words : {given : Given} → Applied below h.max_stack (takes (word ∷ word ∷ []) given) s t
        → (go : ℕ → ℕ → List TaggedValue → Stepped C)
        → ((n k : ℕ) (us : List TaggedValue) → n < 65536 → k < 65536 → HoldTypes world heap us (drop 2 s.operands)
        → Comes operation (go n k us))
        → Comes operation (on_word vs (λ n us. on_word us (λ k rest. go n k rest)))
    on_two_words a go each =
        two_words world heap below (Comes operation) go vs s.operands held a.enough a.operands_met each

    -- on a word in a local that a row reads
    on_local : {local : ℕ} {given : Given} → Applied below h.max_stack (reads local word [] given) s t
        → (go : ℕ → Stepped C)
        → ((n : ℕ) → n < 65536 → slice_get s.locals local ≡ Some types.Word → Comes operation (go n))
        → Comes operation (on_word_local (slice_get h.machine.top.locals local) go)
    on_local {local} a go each =
        let l = word_there world heap below h.machine.top.locals s.locals local has a.there a.local_met in
        subst (λ (o : Option TaggedValue). Comes operation (on_word_local o go)) (sym l.there)
        (each l.number l.small l.type_there)

    -- on operands that are moved, of which so many are touched
    on_moved : (count : ℕ) {x : Stepped C} → nat_lt (length s.operands) count ≡ false → Comes operation x
        → Comes operation (on_operands count vs x)
    on_moved count enough c =
        checked (if nat_lt (length vs) count then false else all_written (take count vs)) (not_fewer count enough) c
      where
        not_fewer : (count : ℕ) → nat_lt (length s.operands) count ≡ false
            → (if nat_lt (length vs) count then false else all_written (take count vs)) ≡ true
        not_fewer count enough = grind (arith, same_length, all_were_written)

  first : (offset : ℤ) (offsets : List ℤ) → Contains (offset ∷ offsets) offset
  first offset offsets = (zero, omega arith, refl)

  gives_a_word : (r : Option Ty) → option_map_or is_word r false ≡ true → r ≡ Some types.Word
  gives_a_word r e = grind arith

  abbrev R : TaggedValue → Ty → Type 0
  R v t = has_type world heap v t ≡ true

  keep_typed : (operation : WordOperation) → ((value : ℤ) → operation ≡ ops.Push value → FitsSigned w16 value)
      → word_effect below h.max_stack returned operation s ≡ Ok t → Comes operation (act_word h operation)
  unfolding word_effect act_word after drop_types duplicate_types swap_types
  keep_typed ops.Nop fits e = leaves refl (row_applied below h.max_stack _ s t e).is held
  keep_typed (ops.Push value) fits e =
      let a = row_applied below h.max_stack _ s t e in
      let small = fits value refl in
      gives_word refl _ (word_of value) 0 (omega (arith, ints, small)) a.enough a.room a.is held
  keep_typed (ops.Load local) fits e =
      let a = row_applied below h.max_stack _ s t e in
      on_local a _ (λ n small there. gives_word refl _ n 0 small a.enough a.room a.is held)
  keep_typed (ops.Store local) fits e =
      let a = row_applied below h.max_stack _ s t e in
      let locals = h.machine.top.locals in
      let is = top_word world heap below s.operands a.enough a.operands_met in
      on_one_word a refl _ (λ n us small rest.
      checked (nat_lt local (length locals))
      (subst (λ (k : ℕ). nat_lt local k ≡ true) (sym (same_length R locals s.locals has)) a.there)
      (going (set locals local (Word n)) us refl
      (subst (λ (x : Types). HaveTypes world heap (set locals local (Word n)) x.locals) a.is
      (set_points R local locals s.locals (Word n) (unwrap_or (slice_get (reverse (take 1 s.operands)) 0) types.Top) has
      (subst (R (Word n)) (sym is) (word_operand world heap below n small).type)))
      (subst (λ (x : Types). HoldTypes world heap us x.operands) a.is rest)))
  keep_typed (ops.Increment local by) fits e =
      let a = row_applied below h.max_stack _ s t e in
      let locals = h.machine.top.locals in
      on_local a _ (λ n small there.
      let k = incremented n by in
      going (set locals local (Word k)) vs refl
      (subst (λ (x : Types). HaveTypes world heap (set locals local (Word k)) x.locals) a.is
      (put_points R local locals s.locals (Word k) types.Word has there
      (word_operand world heap below k (laws.increment n by)).type))
      (subst (λ (x : Types). HoldTypes world heap vs x.operands) a.is held))
  keep_typed (ops.Shuffle (Pop count)) fits e =
      let u = under (nat_lt (length s.operands) count) (with_operands s (drop count s.operands)) t e in
      on_moved count u.0 (leaves refl u.1 (drop_points (IsOperand world heap) count vs s.operands held))
  keep_typed (ops.Shuffle (Duplicate count depth)) fits e =
      let u = under_over (nat_lt (length s.operands) (max count depth)) (nat_lt h.max_stack (length s.operands + count))
      (with_operands s (duplicated count depth s.operands)) t e in
      let same = same_length (IsOperand world heap) vs s.operands held in
      let few = ltb-false h.max_stack (length s.operands + count) u.1 in
      on_moved (max count depth) u.0
      (checked (nat_le (length vs + count) h.max_stack)
      (le-leb (length vs + count) h.max_stack (omega (arith, same, few)))
      (leaves refl u.2 (grind (arith, joined_points, take_points, drop_points))))
  keep_typed (ops.Shuffle (Swap upper lower)) fits e =
      let u = under (nat_lt (length s.operands) (upper + lower)) (with_operands s (swapped upper lower s.operands)) t e
      in
      on_moved (upper + lower) u.0 (leaves refl u.1 (grind (arith, joined_points, take_points, drop_points)))
  keep_typed (ops.Binary operator) fits e =
      let a = row_applied below h.max_stack _ s t e in
      on_two_words a _ (λ b x us small little rest.
      by_result us (binary_of operator x b) (λ n is.
      gives_word refl _ n 2 (laws.binary operator x b n little small is) a.enough a.room a.is rest))
  keep_typed (ops.Unary operator) fits e =
      let a = row_applied below h.max_stack _ s t e in
      on_one_word a refl _ (λ n us small rest.
      gives_word refl _ (unary_of operator n) 1 (laws.unary operator n) a.enough a.room a.is rest)
  keep_typed (ops.Branch Always offset) fits e =
      jumps_by offset (first offset []) _ (row_applied below h.max_stack _ s t e).is held
  keep_typed (ops.Branch (Zero condition) offset) fits e =
      let a = row_applied below h.max_stack _ s t e in
      on_one_word a refl _ (λ n us small rest.
      branches_by (holds condition n 0) refl offset (first offset []) us a.is rest)
  keep_typed (ops.Branch (Compare condition) offset) fits e =
      let a = row_applied below h.max_stack _ s t e in
      on_two_words a _ (λ b x us small little rest.
      branches_by (holds condition x b) refl offset (first offset []) us a.is rest)
  keep_typed (ops.StableSwitch default low offsets) fits e =
      let a = row_applied below h.max_stack _ s t e in
      on_one_word a refl _ (λ key us small rest.
      jumps_by (stable_offset default low offsets (short key)) (laws.stable default low offsets (short key)) us a.is
      rest)
  keep_typed (ops.LookupSwitch default cases) fits e =
      let a = row_applied below h.max_stack _ s t e in
      on_one_word a refl _ (λ key us small rest.
      jumps_by (lookup_offset default cases (short key)) (laws.lookup default cases (short key)) us a.is rest)
  keep_typed ops.ReturnWord fits e =
      let a = row_applied below h.max_stack _ s t e in
      on_one_word a refl _ (λ n us small rest. returning n small (gives_a_word returned a.fits))

pub words_keep_types : {C : Type 0} → WordLaws → KeepWordsTyped C
words_keep_types laws world heap below h returned s t has held =
    keep_typed laws world heap below h returned s t has held
