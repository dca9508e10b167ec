-- Each step keeps the law of accesses, where native members keep theirs; and what is apart stays so.
use Rattle.std.proofs.Common.{◌≡◌, ◌⊎◌, inl, inr, ℕ, zero, suc, ◌-◌, Bool, true, false, cond, List, [], ◌∷◌, Option}
use Rattle.std.proofs.Common.{arith}
use Rattle.std.proofs.Common.{Some, None, refl, sym, ap, ◌∙◌, subst, nat_lt, slice_get}
use Rattle.std.proofs.lemmas.Bool.{and_parts, both_ways}
use Rattle.std.proofs.lemmas.Option.{none-some, same_Some}
use Rattle.std.specs.List.{AllByRecursion, list_all}
use Rattle.std.specs.Option.{option_map_or}
use Rattle.jc_cap_desc.specs.Shape.{MethodBody}
use Rattle.jc_cap.specs.declared.handler.Handler.{Handler}
use Rattle.jc_code.specs.declared.instr.Operation.{Operation}
use Rattle.jc_code.specs.declared.instr.Operation.TheVariants as operations
use Rattle.jc_firewall.specs.Verdict.{runtime_context}
use Rattle.jc_names.specs.declared.name.ClassName.{ClassName}
use Rattle.jc_names.specs.declared.owner.Owner.{Owner}
use Rattle.jc_store.specs.Heap.{Heap, Object, object_at}
use Rattle.jc_machine.specs.Apart.{AreNativesApart, HaveApiMembers, IsApart, SparesPlain, StaysApart, is_applets}
use Rattle.jc_machine.specs.Going.{StepContext, moved}
use Rattle.jc_machine.specs.Guarded.{AreGuarded, ChangesAccessed, IsAccessed, IsGuarded, IsRefused, KeepsPlain}
use Rattle.jc_machine.specs.Guarded.{KeepsStatics, StandsAt, are_allowed, machine_of}
use Rattle.jc_machine.specs.Keeping.{MembersKeep}
use Rattle.jc_machine.specs.Lookup.{class_of, code_at, declared_at, instruction_at, is_throwable}
use Rattle.jc_machine.specs.Machine.{Ends, Frame, Machine, Next, Outcome, Stuck, Surroundings, Throws, Touch, UsedUp}
use Rattle.jc_machine.specs.Natives.{AreNativesGuarded, KeepsObjects}
use Rattle.jc_machine.specs.Returns.{room_of}
use Rattle.jc_machine.specs.Runtime.{security_exception}
use Rattle.jc_machine.specs.Step.{act, act_at, caught_in, covering, defensive_step, handler_for, here, is_found}
use Rattle.jc_machine.specs.Step.{settled, settled_object, through, unwound}
use Rattle.jc_words.specs.Values.{Ref, TaggedValue}
use Rattle.jc_machine.proofs.Guarding.{KeepsLaw, at_some, still_kept}
use Rattle.jc_machine.proofs.GuardingHeaps.{KeepsHeap, mapped}
use Rattle.jc_machine.proofs.GuardingObjects.{object_keeps}
use Rattle.jc_machine.proofs.GuardingWords.{word_keeps}
use Rattle.jc_machine.proofs.StayingApart.{IsApartPart, are_applets}

-- ---- one instruction

act_keeps : {C : Type 0} (h : StepContext C) → AreNativesGuarded h.around.natives → (operation : Operation)
    → StandsAt h.around h.machine operation → KeepsLaw h.around h.machine [] (act h operation)
act_keeps h natives (operations.Word operation) at = word_keeps h operation
act_keeps h natives (operations.Object operation) at = object_keeps h natives operation at

at_keeps : {C : Type 0} (s : Surroundings C) → AreNativesGuarded s.natives → (m : Machine C)
    → KeepsLaw s m [] (act_at s m)
unfolding act_at
at_keeps s natives m =
    at_some (declared_at s.world m.top.method) _ (λ method e. at_some method.method.header _ (λ header e.
    at_some (code_at s.world m.top.method) _ (λ body has. at_some (instruction_at body.code m.top.pc) _ (λ instr e.
    act_keeps (here s m method header instr) natives instr.operation
    (record { body = body; instr = instr; has_code = has; stands = e; is = refl })))))

-- ---- what is thrown: no object changes, and no frame is active otherwise

-- what an outcome leaves has these objects, and is apart where the machine is
record LeavesHeap {C : Type 0} (m : Machine C) (o : Outcome C) : Type 0 where
  same : (after : Machine C) → machine_of o ≡ Some after → m.heap ≡ after.heap
  apart : (keeps : C → Bool) → IsApart keeps m → (after : Machine C) → machine_of o ≡ Some after → IsApart keeps after
  kept : (after : Machine C) → machine_of o ≡ Some after → m.runtime ≡ after.runtime
  statics : (after : Machine C) → machine_of o ≡ Some after → m.statics ≡ after.statics

of_machine : {C : Type 0} (m : Machine C) (o : Outcome C) (x : Machine C) → machine_of o ≡ Some x
    → m.heap ≡ x.heap → m.runtime ≡ x.runtime → m.statics ≡ x.statics
    → ((keeps : C → Bool) → IsApart keeps m → IsApart keeps x) → LeavesHeap m o
of_machine {C = C} m o x e same kept statics a = record {
  same = λ after f. same ∙ ap (λ (y : Machine C). y.heap) (same_Some x after (sym e ∙ f));
  apart = λ keeps p after f. subst (IsApart keeps) (same_Some x after (sym e ∙ f)) (a keeps p);
  kept = λ after f. kept ∙ ap (λ (y : Machine C). y.runtime) (same_Some x after (sym e ∙ f));
  statics = λ after f. statics ∙ ap (λ (y : Machine C). y.statics) (same_Some x after (sym e ∙ f));
}

of_stuck : {C : Type 0} (m : Machine C) → LeavesHeap m Stuck
of_stuck m = grind (arith, none-some)

either : {C : Type 0} (m : Machine C) (b : Bool) (o p : Outcome C) → LeavesHeap m o → LeavesHeap m p
    → LeavesHeap m (cond b o p)
either m b o p h1 h2 = grind arith

-- frames are active as applets, where those of a machine are
abbrev AreOf : {C : Type 0} → Machine C → List Frame → Type 0
AreOf {C} m frames = (keeps : C → Bool) → IsApart keeps m → are_applets frames ≡ true

outer_are : {C : Type 0} (m : Machine C) (f : Frame) (frames : List Frame) → AreOf m (f ∷ frames) → AreOf m frames
outer_are m f frames h keeps p = (and_parts (is_applets f.active) (are_applets frames) (h keeps p)).1

caught_leaves : {C : Type 0} (m : Machine C) (object : ℕ) (f : Frame) (waiting : List Frame) (body : MethodBody)
    (room : Option ℕ) (outward : Outcome C) (handler : Option Handler) → AreOf m (f ∷ waiting)
    → LeavesHeap m outward → LeavesHeap m (caught_in m object f waiting body room outward handler)
caught_leaves m object f waiting body room outward None are h = h
caught_leaves {C = C} m object f waiting body room outward (Some handler) are h =
    let caught : Machine C = record {
      heap = m.heap;
      statics = m.statics;
      runtime = m.runtime;
      top = moved f (handler.handler - body.code_offset) f.locals (Ref object ∷ []);
      waiting = waiting;
    } in
    either m (option_map_or (nat_lt 0) room false) (Next caught) Stuck
    (of_machine m (Next caught) caught refl refl refl refl (λ keeps p. record {
      objects = p.objects;
      statics = p.statics;
      frames = are keeps p;
      kept = p.kept;
    })) (of_stuck m)

through_leaves : {C : Type 0} (s : Surroundings C) (m : Machine C) (object : ℕ) (class : ClassName) (f : Frame)
    (waiting : List Frame) (outward : Outcome C) (body : Option MethodBody) → AreOf m (f ∷ waiting)
    → LeavesHeap m outward → LeavesHeap m (through s m object class f waiting outward body)
through_leaves s m object class f waiting outward None are h = of_stuck m
through_leaves s m object class f waiting outward (Some body) are h =
    either m (list_all (is_found s.world f.method.number) (covering body f.pc))
    (caught_in m object f waiting body (room_of s f) outward (handler_for s.world f class body)) Stuck
    (caught_leaves m object f waiting body (room_of s f) outward (handler_for s.world f class body) are h)
    (of_stuck m)

unwound_leaves : {C : Type 0} (s : Surroundings C) (m : Machine C) (object : ℕ) (class : ClassName)
    (waiting : List Frame) → AreOf m waiting → LeavesHeap m (unwound s m object class waiting)
unwound_leaves s m object class [] are = of_machine m (Throws m object) m refl refl refl refl (λ keeps p. p)
unwound_leaves s m object class (f ∷ waiting) are =
    through_leaves s m object class f waiting (unwound s m object class waiting) (code_at s.world f.method) are
    (unwound_leaves s m object class waiting (outer_are m f waiting are))

object_leaves : {C : Type 0} (s : Surroundings C) (m : Machine C) (number : ℕ) (o : Option (Object TaggedValue))
    → LeavesHeap m (settled_object s m number o)
object_leaves s m number None = of_stuck m
object_leaves s m number (Some o) =
    either m (is_throwable s.world.shapes o.kind.object_type)
    (unwound s m number (class_of o.kind.object_type) (m.top ∷ m.waiting)) Stuck
    (unwound_leaves s m number (class_of o.kind.object_type) (m.top ∷ m.waiting) (λ keeps p. p.frames)) (of_stuck m)

-- what an outcome changes is what it changes when it is settled
settled_changes : {C : Type 0} (s : Surroundings C) (owner : Owner) (touches : List Touch) (heap : Heap TaggedValue)
    (o : Outcome C)
    → ((x : Machine C) → machine_of o ≡ Some x → KeepsHeap owner touches heap x.heap) → (after : Machine C)
    → machine_of (settled s o) ≡ Some after → KeepsHeap owner touches heap after.heap
settled_changes s owner touches heap (Next m) h after e = h after e
settled_changes s owner touches heap (Throws m object) h after e =
    subst (λ (x : Heap TaggedValue). KeepsHeap owner touches heap x)
    ((object_leaves s m object (object_at m.heap object)).same after e) (h m refl)
settled_changes s owner touches heap (Ends m value) h after e = h after e
settled_changes s owner touches heap (UsedUp m) h after e = h after e
settled_changes s owner touches heap Stuck h after e = absurd (none-some after e)

-- a machine that is apart is so behind what is caught
settled_apart : {C : Type 0} (s : Surroundings C) (keeps : C → Bool) (o : Outcome C)
    → ((x : Machine C) → machine_of o ≡ Some x → IsApart keeps x) → (after : Machine C)
    → machine_of (settled s o) ≡ Some after → IsApart keeps after
settled_apart s keeps (Next m) h after e = h after e
settled_apart s keeps (Throws m object) h after e =
    (object_leaves s m object (object_at m.heap object)).apart keeps (h m refl) after e
settled_apart s keeps (Ends m value) h after e = h after e
settled_apart s keeps (UsedUp m) h after e = h after e
settled_apart s keeps Stuck h after e = absurd (none-some after e)

-- a test that holds of what an outcome keeps holds of it behind what is caught
settled_kept : {C : Type 0} (s : Surroundings C) (keeps : C → Bool) (o : Outcome C)
    → ((x : Machine C) → machine_of o ≡ Some x → keeps x.runtime ≡ true) → (after : Machine C)
    → machine_of (settled s o) ≡ Some after → keeps after.runtime ≡ true
settled_kept s keeps (Next m) h after e = h after e
settled_kept s keeps (Throws m object) h after e =
    subst (λ k. keeps k ≡ true) ((object_leaves s m object (object_at m.heap object)).kept after e) (h m refl)
settled_kept s keeps (Ends m value) h after e = h after e
settled_kept s keeps (UsedUp m) h after e = h after e
settled_kept s keeps Stuck h after e = absurd (none-some after e)

-- static fields that an outcome keeps are kept behind what is caught
settled_statics : {C : Type 0} (s : Surroundings C) (first : Machine C) (o : Outcome C)
    → ((x : Machine C) → machine_of o ≡ Some x → KeepsStatics s first x) → (after : Machine C)
    → machine_of (settled s o) ≡ Some after → KeepsStatics s first after
settled_statics s first (Next m) h after e = h after e
settled_statics s first (Throws m object) h after e =
    still_kept (h m refl) ((object_leaves s m object (object_at m.heap object)).statics after e)
settled_statics s first (Ends m value) h after e = h after e
settled_statics s first (UsedUp m) h after e = h after e
settled_statics s first Stuck h after e = absurd (none-some after e)

-- ---- a step

steps_keep_heap : {C : Type 0} (s : Surroundings C) → AreNativesGuarded s.natives → (m after : Machine C)
    → machine_of (defensive_step s m).outcome ≡ Some after
    → KeepsHeap m.top.active (defensive_step s m).touches m.heap after.heap
unfolding defensive_step
steps_keep_heap s natives m after e =
    settled_changes s m.top.active (act_at s m).touches m.heap (act_at s m).outcome (at_keeps s natives m).changes after
    e

pub steps_keep : {C : Type 0} (s : Surroundings C) → AreNativesGuarded s.natives → (m : Machine C) → IsGuarded s m
unfolding defensive_step
steps_keep {C = C} s natives m =
    let k = at_keeps s natives m in record {
      made = k.made tt;
      accesses =
          mapped (act_at s m).touches ((act_at s m).outcome ≡ Throws m security_exception)
          (settled s (act_at s m).outcome ≡ settled s (Throws m security_exception))
          (λ e. ap (λ (o : Outcome C). settled s o) e) k.accesses;
      changes = λ after e. (steps_keep_heap s natives m after e).changes;
      adds = λ after e. (steps_keep_heap s natives m after e).adds;
      statics = settled_statics s m (act_at s m).outcome k.statics;
    }

-- what the runtime accesses isn't plain
all_at : {A : Type 0} (P : A → Type 0) (xs : List A) (k : ℕ) (x : A) → AllByRecursion P xs → slice_get xs k ≡ Some x
    → P x
all_at P [] k x h e = absurd (none-some x e)
all_at P (y ∷ xs) zero x h e = subst P (same_Some y x e) h.0
all_at P (y ∷ xs) (suc k) x h e = all_at P xs k x h.1 e

plain_kept : (active : ℕ) (touches : List Touch) (before after : Heap TaggedValue)
    → AllByRecursion (SparesPlain before) touches → ChangesAccessed active touches before after
    → KeepsPlain active before after
plain_kept active touches before after spares changes n o p e f plain =
    elim (changes n o p e f) [ inl same ↦ inl same | inr a ↦ inr (own_of a (a.own plain)) ]
  where
    own_of : (a : IsAccessed active touches n o)
        → (active ≡ o.owner.context) ⊎ (a.touch.active ≡ runtime_context) → active ≡ o.owner.context
    own_of a h1 = grind (arith, all_at)

pub steps_stay_apart : {C : Type 0} (keeps : C → Bool) (s : Surroundings C) → AreNativesGuarded s.natives
    → AreNativesApart keeps s.natives → HaveApiMembers s.world.shapes → (m : Machine C) → IsApart keeps m
    → StaysApart keeps s m
unfolding defensive_step
steps_stay_apart {C = C} keeps s natives apart members m a =
    let p : IsApartPart keeps m (act_at s m) =
    (at_keeps s natives m).apart keeps (record { members = members; natives = apart; machine = a }) in record {
      spares = p.spares;
      plain = λ after e.
          plain_kept m.top.active.context (act_at s m).touches m.heap after.heap p.spares
          (steps_keep_heap s natives m after e).changes;
      after = λ after e. settled_apart s keeps (act_at s m).outcome p.after after e;
    }

-- a test that native members keep holds of what a step keeps
pub steps_keep_kept : {C : Type 0} (keeps : C → Bool) (s : Surroundings C) → AreNativesGuarded s.natives
    → MembersKeep keeps s.natives → (m : Machine C) → keeps m.runtime ≡ true → (after : Machine C)
    → machine_of (defensive_step s m).outcome ≡ Some after → keeps after.runtime ≡ true
unfolding defensive_step
steps_keep_kept keeps s natives members m now after e =
    settled_kept s keeps (act_at s m).outcome
    ((at_keeps s natives m).kept keeps (record { natives = members; now = now })) after e

-- ---- what follows

of_denied : (touches : List Touch) (R : Type 0) → AreGuarded touches R → are_allowed touches ≡ false → R
of_denied touches R h1 h2 = grind (arith, both_ways)

pub denied_are_refused : {C : Type 0} (s : Surroundings C) → AreNativesGuarded s.natives → (m : Machine C)
    → are_allowed (defensive_step s m).touches ≡ false → IsRefused s m (defensive_step s m)
denied_are_refused s natives m e =
    of_denied (defensive_step s m).touches (IsRefused s m (defensive_step s m)) (steps_keep s natives m).accesses e

pub objects_are_kept : {C : Type 0} (s : Surroundings C) → AreNativesGuarded s.natives → (m after : Machine C)
    → machine_of (defensive_step s m).outcome ≡ Some after → KeepsObjects m.heap after.heap
objects_are_kept s natives m after e = (steps_keep_heap s natives m after e).kept
