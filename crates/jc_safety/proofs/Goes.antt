-- The frame that runs goes on, and the machine is well typed again.
use Rattle.std.proofs.Common.{◌≡◌, ℕ, ℤ, ◌+◌, ◌-◌, List, ◌∷◌, length, drop, Bool, true, false, nat_lt, sym, subst}
use Rattle.std.proofs.Common.{arith, length-drop}
use Rattle.std.proofs.lemmas.Bool.{lt-ltb, ltb-false}
use Rattle.jc_cap_desc.specs.Shape.{Shape}
use Rattle.jc_check.specs.Method.{CheckedMethod}
use Rattle.jc_check.specs.Package.{method_of, package_rules}
use Rattle.jc_check.specs.Rules.{Rules}
use Rattle.jc_check.specs.Typing.{BranchLeads, Leads}
use Rattle.jc_classes.specs.Members.{DeclaredMethod}
use Rattle.jc_classes.specs.Subtype.{is_class_below}
use Rattle.jc_code.specs.Targets.{target_of}
use Rattle.jc_store.specs.Heap.{Heap}
use Rattle.jc_types.specs.State.{Types, all_below}
use Rattle.jc_types.specs.declared.ty.Ty.{Ty}
use Rattle.jc_machine.specs.Accepted.{linked_as}
use Rattle.jc_machine.specs.Going.{StepContext, branches, gives, goes_on, jumps, leaves_operands, moved}
use Rattle.jc_machine.specs.Machine.{Frame, Machine, StaticValue, Surroundings}
use Rattle.jc_machine.specs.Natives.{IsThrown, KeepsObjects}
use Rattle.jc_machine.specs.Typed.{HaveTypes, HeapTyped, HoldTypes, IsPlaced, IsTyped, IsTypedBeside}
use Rattle.jc_machine.specs.Typed.{StaticsTyped, given_by}
use Rattle.jc_words.specs.Values.{TaggedValue}
use Rattle.jc_safety.proofs.Ground.{Ground}
use Rattle.jc_safety.proofs.Growing.{keeps_self, statics_still, types_still, waiting_still}
use Rattle.jc_safety.proofs.Lists.{both, same_length}
use Rattle.jc_safety.proofs.Safe.{IsSafe, MayUnwind, safe_check}
use Rattle.jc_safety.proofs.Taking.{Orders}
use Rattle.jc_safety.proofs.Upward.{operands_up, types_up}

module _ {C : Type 0} (s : Surroundings C) (ground : Ground s) where
  -- ---- what is kept beside the frames

  -- with other objects and static fields
  pub beside_with : (m : Machine C) → IsTypedBeside s m → (heap : Heap TaggedValue) (statics : List (List StaticValue))
      → (top : Frame) (waiting : List Frame)
      → HeapTyped s.world.shapes heap → StaticsTyped s.world heap statics → KeepsObjects m.heap heap
      → IsTypedBeside s (record { heap = heap; statics = statics; runtime = m.runtime; top = top; waiting = waiting })
  beside_with m b heap statics top waiting typed fields keeps = record {
    heap = typed;
    statics = fields;
    runtime_objects = ground.objects_stay m.heap heap keeps b.runtime_objects;
    fits = ground.lawful.stable s.world m.heap heap m.runtime keeps b.fits;
  }

  -- ---- types upward from where a method was checked

  pub orders_of : (m : Machine C) (p : IsPlaced s.world m.heap m.top)
      → Orders s.world.shapes (linked_as s.world m.top.method.number p.body).world
  orders_of m p =
      let stands = ground.packages m.top.method.number p.body p.loaded in
      record { order = ground.order; up = stands.orders.types }

  module _ (m : Machine C) (t : IsTyped s m) where
    abbrev pub placed : IsPlaced s.world m.heap m.top
    placed = t.top.placed

    abbrev pub rules : Rules
    rules = package_rules (linked_as s.world m.top.method.number placed.body)

    abbrev pub method : CheckedMethod
    method = method_of (linked_as s.world m.top.method.number placed.body) placed.code

    -- values of types that lead to a pc, with other objects and static fields
    pub arrives : (heap : Heap TaggedValue) (statics : List (List StaticValue)) → HeapTyped s.world.shapes heap
        → StaticsTyped s.world heap statics → KeepsObjects m.heap heap
        → (pc : ℕ) (locals operands : List TaggedValue) (after : Types)
        → HaveTypes s.world.shapes heap locals after.locals
        → HoldTypes s.world.shapes heap operands after.operands
        → Leads rules placed.typing after pc
        → IsTyped s (record {
          heap = heap;
          statics = statics;
          runtime = m.runtime;
          top = moved m.top pc locals operands;
          waiting = m.waiting;
        })
    arrives heap statics typed fields keeps pc locals operands after has holds leads =
        let stands = ground.packages m.top.method.number placed.body placed.loaded in
        let up = stands.orders.states after leads.state leads.below in
        let b = both (all_below (is_class_below s.world.shapes) after.locals leads.state.locals)
        (all_below (is_class_below s.world.shapes) after.operands leads.state.operands) up in record {
          beside = beside_with m t.beside heap statics (moved m.top pc locals operands) m.waiting typed fields keeps;
          top = record {
            placed = record {
              body = placed.body;
              loaded = placed.loaded;
              code = placed.code;
              there = placed.there;
              typing = placed.typing;
              typed = placed.typed;
              shaped = placed.shaped;
              state = leads.state;
              stated = leads.typed;
              locals_typed = types_up s.world.shapes ground.order heap locals after.locals leads.state.locals b.0 has;
            };
            operands_typed =
                operands_up s.world.shapes ground.order heap operands after.operands leads.state.operands b.1 holds;
          };
          waiting = waiting_still s.world m.heap heap keeps (given_by s.world m.top) m.waiting t.waiting;
        }

    -- the same where nothing but the frame changes
    pub moves : (pc : ℕ) (locals operands : List TaggedValue) (after : Types)
        → HaveTypes s.world.shapes m.heap locals after.locals
        → HoldTypes s.world.shapes m.heap operands after.operands
        → Leads rules placed.typing after pc
        → IsTyped s (record {
          heap = m.heap;
          statics = m.statics;
          runtime = m.runtime;
          top = moved m.top pc locals operands;
          waiting = m.waiting;
        })
    moves pc locals operands after has holds leads = search (arith, arrives, keeps_self)

    -- the frame where it is, with other operands
    replaced : (heap : Heap TaggedValue) → KeepsObjects m.heap heap → (vs : List TaggedValue)
        → IsPlaced s.world heap (moved m.top m.top.pc m.top.locals vs)
    replaced heap keeps vs = grind (arith, types_still)

    -- an object is thrown, with other objects, whatever the operands are
    pub throws_with : (heap : Heap TaggedValue) → HeapTyped s.world.shapes heap → KeepsObjects m.heap heap
        → (vs : List TaggedValue) (number : ℕ) → IsThrown s.world heap number
        → MayUnwind s (record {
          heap = heap;
          statics = m.statics;
          runtime = m.runtime;
          top = moved m.top m.top.pc m.top.locals vs;
          waiting = m.waiting;
        }) number
    throws_with heap typed keeps vs number thrown = search (arith, beside_with, statics_still, replaced, waiting_still)

    pub throws_at : (vs : List TaggedValue) (number : ℕ) → IsThrown s.world m.heap number
        → MayUnwind s (record {
          heap = m.heap;
          statics = m.statics;
          runtime = m.runtime;
          top = moved m.top m.top.pc m.top.locals vs;
          waiting = m.waiting;
        }) number
    throws_at vs number thrown = throws_with m.heap t.beside.heap (keeps_self m.heap) vs number thrown

    -- ---- the ways on, in a place of the code with so many operands at most

    module _ (d : DeclaredMethod) (most next : ℕ) where
      -- the place, with these operands
      abbrev pub spot : List TaggedValue → StepContext C
      spot operands = record {
        around = s;
        machine = record {
          heap = m.heap;
          statics = m.statics;
          runtime = m.runtime;
          top = moved m.top m.top.pc m.top.locals operands;
          waiting = m.waiting;
        };
        method = d;
        max_stack = most;
        next_pc = next;
      }

      pub safe_on : (vs : List TaggedValue) (after : Types) (locals operands : List TaggedValue)
          → HaveTypes s.world.shapes m.heap locals after.locals
          → HoldTypes s.world.shapes m.heap operands after.operands
          → Leads rules placed.typing after next → IsSafe s (goes_on (spot vs) locals operands)
      safe_on vs after locals operands has holds leads = search (arith, moves)

      pub safe_leaves : (vs : List TaggedValue) (after : Types) (operands : List TaggedValue)
          → HaveTypes s.world.shapes m.heap m.top.locals after.locals
          → HoldTypes s.world.shapes m.heap operands after.operands
          → Leads rules placed.typing after next → IsSafe s (leaves_operands (spot vs) operands)
      safe_leaves vs after operands has holds leads = safe_on vs after m.top.locals operands has holds leads

      -- an operand more, where there is room for it
      pub safe_gives : (vs : List TaggedValue) (after : Types) (v : TaggedValue) (operands : List TaggedValue)
          → nat_lt (length operands) most ≡ true
          → HaveTypes s.world.shapes m.heap m.top.locals after.locals
          → HoldTypes s.world.shapes m.heap (v ∷ operands) after.operands
          → Leads rules placed.typing after next → IsSafe s (gives (spot vs) v operands)
      safe_gives vs after v operands room has holds leads = search (arith, safe_check, nat_lt, length, safe_leaves)

      -- to a place of the code to which it leads
      safe_to : (vs : List TaggedValue) (after : Types) (operands : List TaggedValue) (place : ℤ)
          → HaveTypes s.world.shapes m.heap m.top.locals after.locals
          → HoldTypes s.world.shapes m.heap operands after.operands
          → BranchLeads rules placed.typing after place → IsSafe s (jumps (spot vs) place operands)
      safe_to vs after operands place has holds leads =
          let P : ℤ → Type 0 = λ z. IsSafe s (jumps (spot vs) z operands) in
          subst P (sym leads.is)
          (record { fine = moves leads.pc m.top.locals operands after has holds leads.leads })

      pub safe_jumps : (vs : List TaggedValue) (after : Types) (operands : List TaggedValue) (offset : ℤ)
          → HaveTypes s.world.shapes m.heap m.top.locals after.locals
          → HoldTypes s.world.shapes m.heap operands after.operands
          → BranchLeads rules placed.typing after (target_of m.top.pc offset)
          → IsSafe s (branches (spot vs) true offset operands)
      safe_jumps vs after operands offset has holds leads = search (arith, safe_to)

      pub safe_branches : (vs : List TaggedValue) (after : Types) (operands : List TaggedValue) (taken : Bool)
          → (offset : ℤ)
          → HaveTypes s.world.shapes m.heap m.top.locals after.locals
          → HoldTypes s.world.shapes m.heap operands after.operands
          → BranchLeads rules placed.typing after (target_of m.top.pc offset)
          → Leads rules placed.typing after next
          → IsSafe s (branches (spot vs) taken offset operands)
      safe_branches vs after operands taken offset h1 h2 h3 h4 = grind (arith, safe_to, safe_leaves)

-- room for an operand more, by types
pub room_left : (world : List Shape) (heap : Heap TaggedValue) (most count : ℕ) (ts : List Ty) (vs : List TaggedValue)
    → nat_lt (length ts) count ≡ false → nat_lt most (length ts - count + 1) ≡ false
    → HoldTypes world heap vs (drop count ts) → nat_lt (length vs) most ≡ true
room_left world heap most count ts vs enough room h = grind (arith, same_length, length-drop, ltb-false, lt-ltb)
