-- What is thrown is caught by the nearest handler, or leaves the call; the machine is never stuck on the way.
use Rattle.std.proofs.Common.{◌≡◌, ℕ, ◌+◌, ◌-◌, List, [], ◌∷◌, length, map, slice_get, Bool, true, false, ◌&&◌, cond}
use Rattle.std.proofs.Common.{Option, Some, None, nat_lt, nat_le, filter, find, refl, sym, ap, ◌∙◌, subst, arith}
use Rattle.std.proofs.lemmas.Bool.{le-leb, leb-true, lt-ltb, ltb-true}
use Rattle.std.specs.List.{AllByRecursion, list_all}
use Rattle.std.specs.Option.{option_and_then, option_map, option_map_or}
use Rattle.jc_api.specs.declared.class.ApiClass.TheVariants as api
use Rattle.jc_cap_desc.specs.Shape.{MethodBody, Shape}
use Rattle.jc_cap.specs.declared.handler.Handler as rows
use Rattle.jc_cap.specs.declared.method_header.MethodHeader.{MethodHeader}
use Rattle.jc_check.specs.Method.{CheckedMethod, caught_types}
use Rattle.jc_check.specs.Method as checked
use Rattle.jc_check.specs.Package.{caught_class, handler_of, method_of, package_rules, thrown_class, throwable}
use Rattle.jc_check.specs.Typing.{CatchLeads, HandlerLeads}
use Rattle.jc_classes.specs.Members.{DeclaredMethod}
use Rattle.jc_classes.specs.Subtype.{is_class_at, is_class_below}
use Rattle.jc_link.specs.Linked.{LinkedBody}
use Rattle.jc_link.specs.declared.target.PoolTarget.{PoolTarget}
use Rattle.jc_link.specs.declared.target.PoolTarget.TheVariants as To
use Rattle.jc_names.specs.declared.name.ClassName.{ClassName}
use Rattle.jc_names.specs.declared.name.ClassName.TheVariants.{Api}
use Rattle.jc_effects.specs.Objects.{class_target}
use Rattle.jc_store.specs.Heap as heaps
use Rattle.jc_store.specs.Heap.{object_at}
use Rattle.jc_types.specs.State.{all_below}
use Rattle.jc_types.specs.Ty.{is_below}
use Rattle.jc_types.specs.declared.ty.Ty.{Ty}
use Rattle.jc_types.specs.declared.ty.Ty.TheVariants as types
use Rattle.jc_machine.specs.Accepted.{linked_as}
use Rattle.jc_machine.specs.Going.{moved}
use Rattle.jc_machine.specs.Lookup.{body_at, class_of, code_at, is_throwable}
use Rattle.jc_machine.specs.Machine.{Frame, Machine, Next, Outcome, Stuck, Surroundings, Throws}
use Rattle.jc_machine.specs.Returns.{room_of}
use Rattle.jc_machine.specs.Step.{catch_class, catches_all, caught_in, covering, handler_for, is_caught, is_covered, is_found}
use Rattle.jc_machine.specs.Step.{settled, through, unwound}
use Rattle.jc_machine.specs.Typed.{IsPlaced, IsTyped, IsTypedBeside, WaitTyped, given_by, has_type}
use Rattle.jc_words.specs.Values.{Ref, TaggedValue}
use Rattle.jc_safety.proofs.Ground.{Ground, heir_there, method_of_code}
use Rattle.jc_safety.proofs.Lists.{and_true, both}
use Rattle.jc_safety.proofs.Rows.{resolved}
use Rattle.jc_safety.proofs.Safe.{MayUnwind}
use Rattle.jc_safety.proofs.Upward.{operands_up, types_up}
use Rattle.jc_safety.specs.Safety.{StaysTyped}

-- ---- handlers

-- a handler that covers a pc among the bytes of the Method component covers it in the code
covered : (h : rows.Handler) (code_offset pc : ℕ) → nat_le h.start (code_offset + pc) ≡ true
    → nat_lt (code_offset + pc) (h.start + h.active_length) ≡ true
    → (nat_le (h.start - code_offset) pc && nat_lt pc (h.start - code_offset + h.active_length)) ≡ true
covered h code_offset pc from to = grind (arith, leb-true, ltb-true, and_true, nat_le, le-leb, lt-ltb)

-- what holds of each member holds of one that is found among those that pass a test
record Among {A B : Type 0} (P : B → Type 0) (f : A → B) (passes wanted : A → Bool) (x : A) : Type 0 where
  holds : P (f x)
  passed : passes x ≡ true
  is_wanted : wanted x ≡ true

among : {A B : Type 0} (P : B → Type 0) (f : A → B) (passes wanted : A → Bool) (xs : List A) (x : A)
    → AllByRecursion P (map f xs) → find wanted (filter passes xs) ≡ Some x → Among P f passes wanted x
among P f passes wanted [] x h e = absurd cc
among {A} {B} P f passes wanted (y ∷ xs) x h e = grind (arith, filter, among P f passes wanted xs x h.1)

-- each that passes one test passes another
all_pass : {A B : Type 0} (P : B → Type 0) (f : A → B) (passes wanted : A → Bool) (xs : List A)
    → AllByRecursion P (map f xs) → ((x : A) → P (f x) → passes x ≡ true → wanted x ≡ true)
    → list_all wanted (filter passes xs) ≡ true
all_pass P f passes wanted [] h each = refl
all_pass {A} {B} P f passes wanted (y ∷ xs) h each = by_pass (passes y) refl (all_pass P f passes wanted xs h.1 each)
  where
    by_pass : (b : Bool) → passes y ≡ b → list_all wanted (filter passes xs) ≡ true
        → list_all wanted (cond b (y ∷ filter passes xs) (filter passes xs)) ≡ true
    by_pass b h1 h2 = grind (arith, and_true, filter)

-- the class that a target is, where its objects may be thrown
record IsThrownClass (world : List Shape) (target : PoolTarget) (class : ClassName) : Type 0 where
  is : target ≡ To.Class class
  below : is_class_below world class throwable ≡ true

thrown_target : (world : List Shape) (target : PoolTarget) (class : ClassName)
    → thrown_class world target ≡ Some class → IsThrownClass world target class
thrown_target world (To.Class c) class e = by_below (is_class_below world c throwable) refl e
  where
    by_below : (b : Bool) → is_class_below world c throwable ≡ b → cond b (Some c) None ≡ Some class
        → IsThrownClass world (To.Class c) class
    by_below true below e = search arith
    by_below false below e = absurd cc
thrown_target world (To.InstanceField c cell declared) class e = absurd cc
thrown_target world (To.StaticField place declared) class e = absurd cc
thrown_target world (To.VirtualMethod c token signature) class e = absurd cc
thrown_target world (To.SuperMethod c method signature) class e = absurd cc
thrown_target world (To.StaticMethod c method is_static signature) class e = absurd cc

record FromTarget {A : Type 0} (f : PoolTarget → Option A) (o : Option PoolTarget) (a : A) : Type 0 where
  target : PoolTarget
  is : o ≡ Some target
  gives : f target ≡ Some a

from_target : {A : Type 0} (f : PoolTarget → Option A) (o : Option PoolTarget) (a : A) → option_and_then f o ≡ Some a
    → FromTarget f o a
from_target f o a h1 = grind arith

-- types that lie below others are as many
pub below_lengths : (below : ClassName → ClassName → Bool) (ts us : List Ty) → all_below below ts us ≡ true
    → length ts ≡ length us
below_lengths below [] [] e = refl
below_lengths below [] (u ∷ us) e = absurd cc
below_lengths below (t ∷ ts) [] e = absurd cc
below_lengths below (t ∷ ts) (u ∷ us) e =
    let k = below_lengths below ts us (both (is_below below t u) (all_below below ts us) e).1 in omega arith

module _ {C : Type 0} (s : Surroundings C) (ground : Ground s) where
  -- what a handler catches, as the machine looks it up
  data Catches (number : ℕ) (h : rows.Handler) (class : ClassName) : Type 0 where
    all_thrown : catches_all h ≡ true → class ≡ Api api.Throwable → Catches number h class
    one_class : catches_all h ≡ false → catch_class s.world number h ≡ Some class
        → is_class_at s.world.shapes class ≡ true → Catches number h class

  catches : (number : ℕ) (body : LinkedBody) → body_at s.world number ≡ Some body → (h : rows.Handler)
      → (class : ClassName) → caught_class (linked_as s.world number body) h.catch_type ≡ Some class
      → Catches number h class
  catches number body loaded h class e = by_all (catches_all h) refl e
    where
      by_all : (b : Bool) → catches_all h ≡ b
          → cond b (Some throwable) (option_and_then (thrown_class (linked_as s.world number body).world)
          (slice_get body.targets h.catch_type)) ≡ Some class → Catches number h class
      by_all true all e = all_thrown all cc
      by_all false some e =
          let f = from_target (thrown_class (linked_as s.world number body).world)
          (slice_get body.targets h.catch_type) class e in
          let t = thrown_target (linked_as s.world number body).world f.target class f.gives in
          let stands = ground.packages number body loaded in
          let there = resolved s.world number body loaded stands.known.resolved h.catch_type f.target f.is in
          one_class some (ap (option_and_then class_target) there ∙ ap class_target t.is)
          (heir_there s ground class throwable
          (ground.sound.superclasses.heirs class throwable (stands.lookups.still_below class throwable t.below))
          ground.names.throwable)

  found_if : (number : ℕ) (h : rows.Handler) (class : ClassName) → Catches number h class
      → is_found s.world number h ≡ true
  found_if number h class h1 = grind arith

  -- an object that a handler is found for is of the class that the check saw
  class_caught : (number : ℕ) (h : rows.Handler) (class thrown : ClassName) → Catches number h class
      → is_class_below s.world.shapes thrown (Api api.Throwable) ≡ true → is_caught s.world number thrown h ≡ true
      → is_class_below s.world.shapes thrown class ≡ true
  class_caught number h class thrown h1 h2 h3 = grind arith

  -- ---- one frame

  module _ (m : Machine C) (beside : IsTypedBeside s m) (number : ℕ) (o : heaps.Object TaggedValue)
      (found : object_at m.heap number ≡ Some o) (may : is_throwable s.world.shapes o.kind.object_type ≡ true) where
    abbrev shapes : List Shape
    shapes = s.world.shapes

    abbrev thrown : ClassName
    thrown = class_of o.kind.object_type

    -- the machine goes on in a frame, at the handler's place
    abbrev resumed_at : Frame → List Frame → ℕ → Machine C
    resumed_at f waiting pc = record {
      heap = m.heap;
      statics = m.statics;
      runtime = m.runtime;
      top = moved f pc f.locals (Ref number ∷ []);
      waiting = waiting;
    }

    module _ (f : Frame) (p : IsPlaced s.world m.heap f) (waiting : List Frame)
        (wait : WaitTyped s.world m.heap (given_by s.world f) waiting) where
      abbrev body : LinkedBody
      body = p.body

      abbrev check_method : CheckedMethod
      check_method = method_of (linked_as s.world f.method.number p.body) p.code

      -- what the typing says of the handlers of the frame's method
      abbrev Lead : checked.CheckedHandler → Type 0
      Lead h = HandlerLeads (package_rules (linked_as s.world f.method.number p.body)) p.typing f.pc p.state h

      its_handlers : AllByRecursion Lead check_method.handlers
      its_handlers =
          let fine = p.typed.each f.pc p.state p.stated in
          let has = ground.listing.has p.code.code p.typed.listing f.pc fine.instr p.typed.whole fine.stands in
          subst (λ (pc : ℕ).
          AllByRecursion (HandlerLeads (package_rules (linked_as s.world f.method.number p.body)) p.typing pc p.state)
          check_method.handlers) has.0 fine.fine.handled

      abbrev seen_as : rows.Handler → checked.CheckedHandler
      seen_as h = handler_of (linked_as s.world f.method.number p.body) p.code.code_offset h

      -- a handler that covers the frame's pc leads on
      leads_on : (h : rows.Handler) → Lead (seen_as h) → is_covered p.code f.pc h ≡ true
          → CatchLeads (package_rules (linked_as s.world f.method.number p.body)) p.typing p.state (seen_as h)
      leads_on h lead covers_it = grind (arith, both, nat_le, covered)

      caught_by : (h : rows.Handler) → Lead (seen_as h) → is_covered p.code f.pc h ≡ true
          → (class : ClassName) × Catches f.method.number h class
      caught_by h lead covers_it =
          let l = leads_on h lead covers_it in
          (l.class, catches f.method.number p.body p.loaded h l.class l.catches)

      all_found : list_all (is_found s.world f.method.number) (covering p.code f.pc) ≡ true
      all_found =
          all_pass Lead seen_as (is_covered p.code f.pc) (is_found s.world f.method.number) p.code.handlers its_handlers
          (λ h lead covers_it.
          let c = caught_by h lead covers_it in found_if f.method.number h c.0 c.1)

      -- the machine at the handler's place is well typed
      resumed_typed : (h : rows.Handler) → Lead (seen_as h) → is_covered p.code f.pc h ≡ true
          → is_caught s.world f.method.number thrown h ≡ true
          → IsTyped s (resumed_at f waiting (h.handler - p.code.code_offset))
      resumed_typed h lead covers_it caught =
          let l = leads_on h lead covers_it in
          let c = catches f.method.number p.body p.loaded h l.class l.catches in
          let stands = ground.packages f.method.number p.body p.loaded in
          let up = stands.orders.states (caught_types l.class p.state) l.leads.state l.leads.below in
          let b = both (all_below (is_class_below shapes) p.state.locals l.leads.state.locals)
          (all_below (is_class_below shapes) (types.Class l.class ∷ []) l.leads.state.operands) up in
          let of_class = class_caught f.method.number h l.class thrown c may caught in
          let has : has_type shapes m.heap (Ref number) (types.Class l.class) ≡ true =
          ap (λ (x : Option (heaps.Object TaggedValue)).
          option_map_or (λ (o : heaps.Object TaggedValue). is_class_below shapes (class_of o.kind.object_type) l.class) x
          false) found
          ∙ of_class in record {
            beside = record {
              heap = beside.heap;
              statics = beside.statics;
              runtime_objects = beside.runtime_objects;
              fits = beside.fits;
            };
            top = record {
              placed = record {
                body = p.body;
                loaded = p.loaded;
                code = p.code;
                there = p.there;
                typing = p.typing;
                typed = p.typed;
                shaped = p.shaped;
                state = l.leads.state;
                stated = l.leads.typed;
                locals_typed =
                    types_up shapes ground.order m.heap f.locals p.state.locals l.leads.state.locals b.0 p.locals_typed;
              };
              operands_typed =
                  operands_up shapes ground.order m.heap (Ref number ∷ []) (types.Class l.class ∷ [])
                  l.leads.state.operands b.1 (record { type = has; written = refl }, tt);
            };
            waiting = wait;
          }

      -- it has room for the object
      has_room : (h : rows.Handler) → Lead (seen_as h) → is_covered p.code f.pc h ≡ true
          → option_map_or (nat_lt 0) (room_of s f) false ≡ true
      has_room h lead covers_it =
          let l = leads_on h lead covers_it in
          let shape = p.shaped (seen_as h).goes_on l.leads.state l.leads.typed in
          let method = method_of_code s.world f.method.offset p.body p.code f.method.number p.loaded
          (ground.packages f.method.number p.body p.loaded) p.there in
          let same = below_lengths (is_class_below (linked_as s.world f.method.number p.body).world)
          (types.Class l.class ∷ []) l.leads.state.operands
          (both (all_below (is_class_below (linked_as s.world f.method.number p.body).world) p.state.locals
          l.leads.state.locals)
          (all_below (is_class_below (linked_as s.world f.method.number p.body).world) (types.Class l.class ∷ [])
          l.leads.state.operands)
          l.leads.below).1 in
          let few = shape.operands in
          let most = method.max_stack in
          let room : room_of s f ≡ Some method.header.max_stack =
          ap (λ (x : Option DeclaredMethod). option_map (λ (h : MethodHeader). h.max_stack)
          (option_and_then (λ (d : DeclaredMethod). d.method.header) x))
          method.found
          ∙ ap (option_map (λ (h : MethodHeader). h.max_stack)) method.header_is in
          ap (λ (x : Option ℕ). option_map_or (nat_lt 0) x false) room
          ∙ lt-ltb 0 method.header.max_stack (omega (arith, same, few, most))

      -- it catches the object, or the frames further out do
      one_frame : (outward : Outcome C) → StaysTyped s outward
          → StaysTyped s (through s m number thrown f waiting outward (code_at s.world f.method))
      one_frame outward rest =
          let P : Option MethodBody → Type 0 = λ x. StaysTyped s (through s m number thrown f waiting outward x) in
          let Q : Bool → Type 0 =
          λ b. StaysTyped s (cond b (caught_in m number f waiting p.code (room_of s f) outward
          (handler_for s.world f thrown p.code)) Stuck) in
          subst P (sym p.there)
          (subst Q (sym all_found) (by_handler (handler_for s.world f thrown p.code) refl))
        where
          by_handler : (x : Option rows.Handler) → handler_for s.world f thrown p.code ≡ x
              → StaysTyped s (caught_in m number f waiting p.code (room_of s f) outward x)
          by_handler None e = rest
          by_handler (Some h) e =
              let a = among Lead seen_as (is_covered p.code f.pc) (is_caught s.world f.method.number thrown)
              p.code.handlers h
              its_handlers e in
              let R : Bool → Type 0 =
              λ b. StaysTyped s (cond b (Next (resumed_at f waiting (h.handler - p.code.code_offset))) Stuck) in
              subst R (sym (has_room h a.holds a.passed)) (resumed_typed h a.holds a.passed a.is_wanted)

    -- ---- outward

    unwinds : (result : Option Ty) (fs : List Frame) → WaitTyped s.world m.heap result fs
        → StaysTyped s (unwound s m number thrown fs)
    unwinds result [] wait = beside
    unwinds result (f ∷ fs) wait = search (arith, one_frame, unwinds (given_by s.world f) fs wait.1)

  pub settles : (m : Machine C) (number : ℕ) → MayUnwind s m number → StaysTyped s (settled s (Throws m number))
  settles m number u = grind (arith, one_frame, unwinds)
