-- What the rows of instructions on objects share: a place of the code, and what their operands are.
use Rattle.std.proofs.Common.{◌≡◌, ℕ, ℤ, zero, suc, List, [], ◌∷◌, length, take, drop, reverse, set, slice_get, arith}
use Rattle.std.proofs.Common.{Bool, true, Option, Some, map, refl, sym, ap, ◌∙◌, subst}
use Rattle.std.specs.Option.{option_and_then, option_map}
use Rattle.jc_cap_desc.specs.Shape.{Shape}
use Rattle.jc_check.specs.Typing.{BranchLeads, Leads}
use Rattle.jc_classes.specs.Members.{DeclaredMethod}
use Rattle.jc_classes.specs.Subtype.{is_class_below}
use Rattle.jc_code.specs.Targets.{target_of}
use Rattle.jc_firewall.specs.declared.access.Access.{Access}
use Rattle.jc_link.specs.Linked.{LinkedBody, World}
use Rattle.jc_link.specs.Target.{pool_target_of, pool_targets}
use Rattle.jc_link.specs.declared.target.PoolTarget.{PoolTarget}
use Rattle.jc_names.specs.Names.{home_at}
use Rattle.jc_names.specs.declared.name.ClassName.{ClassName}
use Rattle.jc_effects.specs.Row.{Row}
use Rattle.jc_effects.specs.Words.{takes}
use Rattle.jc_effects.specs.declared.row.Demand.{Demand}
use Rattle.jc_effects.specs.declared.row.Given.TheVariants.{Exactly, Nothing}
use Rattle.jc_store.specs.Heap as heaps
use Rattle.jc_store.specs.Heap.{object_at}
use Rattle.jc_types.specs.State.{Types}
use Rattle.jc_types.specs.declared.ty.Ty.{Ty}
use Rattle.jc_machine.specs.Accepted.{linked_as}
use Rattle.jc_machine.specs.Reading.{Pointwise}
use Rattle.jc_machine.specs.Going.{StepContext, accessed, accessed_to_store, branches, gives, leaves_operands}
use Rattle.jc_machine.specs.Going.{on_target, throws, require, stored_in}
use Rattle.jc_machine.specs.Lookup.{body_at, target_at}
use Rattle.jc_machine.specs.Machine.{Machine, Stepped, Surroundings}
use Rattle.jc_machine.specs.Natives.{IsThrown}
use Rattle.jc_machine.specs.Runtime.{null_pointer_exception}
use Rattle.jc_machine.specs.Typed.{CellsTyped, HaveTypes, HoldTypes, IsOperand, IsTyped}
use Rattle.jc_words.specs.Values.{TaggedValue}
use Rattle.jc_safety.proofs.Goes.{arrives, method, orders_of, placed, room_left, rules, safe_branches}
use Rattle.jc_safety.proofs.Goes.{safe_gives, spot, throws_at}
use Rattle.jc_safety.proofs.Ground.{Ground}
use Rattle.jc_safety.proofs.Growing.{operands_still, statics_still, types_still}
use Rattle.jc_safety.proofs.Safe.{IsSafe, safe_judged, safe_require, safe_some}
use Rattle.jc_safety.proofs.Taking.{Applied, Meets, Orders, leaves_nothing, leaves_one, operands_meet}
use Rattle.jc_safety.proofs.Thrown.{null_pointer, security}
use Rattle.jc_safety.proofs.Writing.{written}

-- ---- entries of constant pools

mapped_at : {A B : Type 0} (f : A → B) (xs : List A) (n : ℕ) → slice_get (map f xs) n ≡ option_map f (slice_get xs n)
mapped_at f [] n = refl
mapped_at f (x ∷ xs) zero = refl
mapped_at f (x ∷ xs) (suc n) = mapped_at f xs n

joined_found : {A : Type 0} (f : A → Option PoolTarget) (o : Option A) (target : PoolTarget)
    → option_map f o ≡ Some (Some target) → option_and_then f o ≡ Some target
joined_found f o target h1 = grind arith

-- what the check read an entry as is what it leads to in the world
pub resolved : (w : World) (number : ℕ) (body : LinkedBody) → body_at w number ≡ Some body
    → map Some body.targets ≡ pool_targets w.shapes (home_at number) body.kept.pool
    → (index : ℕ) (target : PoolTarget) → slice_get body.targets index ≡ Some target
    → target_at w number index ≡ Some target
resolved w number body loaded same index target e =
    let one : slice_get (map Some body.targets) index ≡ Some (Some target) =
    mapped_at Some body.targets index ∙ ap (option_map Some) e in
    let two = mapped_at (pool_target_of w.shapes (home_at number)) body.kept.pool index in
    let three = ap (λ (xs : List (Option PoolTarget)). slice_get xs index) same in
    ap (λ (o : Option LinkedBody).
    option_and_then (pool_target_of w.shapes (home_at number))
    (option_and_then (λ (b : LinkedBody). slice_get b.kept.pool index) o))
    loaded
    ∙ joined_found (pool_target_of w.shapes (home_at number)) (slice_get body.kept.pool index) target
    (sym two ∙ sym three ∙ one)

module _ {C : Type 0} (s : Surroundings C) (ground : Ground s) (m : Machine C) (t : IsTyped s m) where
  abbrev pub world : List Shape
  world = s.world.shapes

  abbrev pub most : ℕ
  most = (method s ground m t).max_stack

  abbrev pub state : Types
  state = (placed s ground m t).state

  abbrev pub before : List Shape
  before = (linked_as s.world m.top.method.number (placed s ground m t).body).world

  abbrev pub below : ClassName → ClassName → Bool
  below = is_class_below before

  abbrev pub LeadsTo : Types → ℕ → Type 0
  LeadsTo after pc = Leads (rules s ground m t) (placed s ground m t).typing after pc

  abbrev pub BranchesTo : Types → ℤ → Type 0
  BranchesTo after offset =
      BranchLeads (rules s ground m t) (placed s ground m t).typing after (target_of m.top.pc offset)

  pub orders : Orders world before
  orders = orders_of s ground m (placed s ground m t)

  pub locals_still : (ls : List Ty) → state.locals ≡ ls → HaveTypes world m.heap m.top.locals ls
  locals_still ls e = grind (arith, placed)

  pub held : (ts us : List Ty) (vs : List TaggedValue) → ts ≡ us → HoldTypes world m.heap vs ts
      → HoldTypes world m.heap vs us
  held ts us vs e h = subst (λ (x : List Ty). HoldTypes world m.heap vs x) e h

  pub met_by : (row : Row) (after : Types) → Applied below most row state after
      → Pointwise (Meets world m.heap) (reverse (take (length row.operands) m.top.operands)) row.operands
  met_by row after a = search (arith, operands_meet, orders)

  -- the entry that an instruction reads
  pub entry : (index : ℕ) (target : PoolTarget) → slice_get (placed s ground m t).body.targets index ≡ Some target
      → target_at s.world m.top.method.number index ≡ Some target
  entry index target e =
      let p = placed s ground m t in
      let stands = ground.packages m.top.method.number p.body p.loaded in
      resolved s.world m.top.method.number p.body p.loaded stands.known.resolved index target e

  module _ (d : DeclaredMethod) (next : ℕ) where
    abbrev pub here : List TaggedValue → StepContext C
    here vs = spot s ground m t d most next vs

    pub safe_target : {A : Type 0} (us : List TaggedValue) (index : ℕ) (wanted : PoolTarget
        → Option A) (target : PoolTarget)
        → (a : A) (go : A → Stepped C)
        → slice_get (placed s ground m t).body.targets index ≡ Some target → wanted target ≡ Some a → IsSafe s (go a)
        → IsSafe s (on_target (here us) index wanted go)
    safe_target us index wanted target a go there is safe =
        safe_some s (option_and_then wanted (target_at s.world m.top.method.number index)) a go
        (ap (option_and_then wanted) (entry index target there) ∙ is) safe

    -- ---- ways on

    -- a value more on these operands
    pub gives_it : (ds : List Demand) (us vs : List TaggedValue) (v : TaggedValue) (u : Ty) (after : Types)
        → Applied below most (takes ds (Exactly u)) state after → IsOperand world m.heap v u
        → HoldTypes world m.heap vs (drop (length ds) state.operands) → LeadsTo after next
        → IsSafe s (gives (here us) v vs)
    gives_it ds us vs v u after a has rest leads =
        let l = leaves_one below most ds state after u a in
        safe_gives s ground m t d most next us after v vs
        (room_left world m.heap most (length ds) state.operands vs a.enough a.room rest)
        (locals_still after.locals l.locals_are)
        (held (u ∷ drop (length ds) state.operands) after.operands (v ∷ vs) l.operands_are (has, rest))
        leads

    -- nothing more, and a component of an object is another value
    pub leaves_stored : (us vs : List TaggedValue) (after : Types) (number : ℕ)
        → (o : heaps.Object TaggedValue) (index : ℕ) (v : TaggedValue) → object_at m.heap number ≡ Some o
        → CellsTyped world m.heap (set o.cells index v) o.kind.object_type
        → HaveTypes world m.heap m.top.locals after.locals → HoldTypes world m.heap vs after.operands
        → LeadsTo after next → IsSafe s (leaves_operands (stored_in (here us) number o index v) vs)
    leaves_stored us vs after number o index v found cells has holds leads =
        let w = written world m.heap t.beside.heap number o index v found cells in
        let heap = heaps.with_object m.heap number (heaps.with_cell o index v) in record {
          fine =
              arrives s ground m t heap m.statics w.typed
              (statics_still s.world m.heap heap w.keeps m.statics t.beside.statics) w.keeps next m.top.locals vs after
              (types_still m.heap heap w.keeps world m.top.locals after.locals has)
              (operands_still m.heap heap w.keeps world vs after.operands holds) leads;
        }

    -- ---- tests

    -- null has no object
    pub safe_null : (us : List TaggedValue) → IsSafe s (throws (here us) null_pointer_exception)
    safe_null us = grind (arith, throws_at, null_pointer)

    pub safe_accessed : (us : List TaggedValue) (access : Access) (n : ℕ) (o : heaps.Object TaggedValue)
        → (x : Stepped C) → IsSafe s x → IsSafe s (accessed (here us) access n o x)
    safe_accessed us access n o x safe = search (arith, safe_judged, throws_at, security)

    pub safe_to_store : (us : List TaggedValue) (access : Access) (n : ℕ) (o : heaps.Object TaggedValue)
        → (v : TaggedValue) (x : Stepped C) → IsSafe s x → IsSafe s (accessed_to_store (here us) access n o v x)
    safe_to_store us access n o v x safe = search (arith, safe_judged, throws_at, security)

    pub safe_required : (us : List TaggedValue) (exception : ℕ) (b : Bool) (x : Stepped C)
        → IsThrown s.world m.heap exception → (b ≡ true → IsSafe s x)
        → IsSafe s (require (here us) exception b x)
    safe_required us exception b x thrown go = grind (arith, safe_require, throws_at)

    -- a branch, or a jump
    pub branch_it : (offset : ℤ) (ds : List Demand) (us vs : List TaggedValue) (taken : Bool) (after : Types)
        → Applied below most (takes ds Nothing) state after
        → HoldTypes world m.heap vs (drop (length ds) state.operands) → BranchesTo after offset → LeadsTo after next
        → IsSafe s (branches (here us) taken offset vs)
    branch_it offset ds us vs taken after a rest goes falls =
        let l = leaves_nothing below most ds state after a in
        safe_branches s ground m t d most next us after vs taken offset (locals_still after.locals l.locals_are)
        (held (drop (length ds) state.operands) after.operands vs l.operands_are rest) goes falls
