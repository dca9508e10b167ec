-- A call of the runtime's, none of whose steps runs in a context, sees no component of a plain object of that context.
use Rattle.std.proofs.Common.{◌≡◌, ℕ, zero, suc, ◌+◌, ◌==◌, ◌&&◌, Bool, true, false, cond, not, List, [], ◌∷◌, ◌++◌}
use Rattle.std.proofs.Common.{length}
use Rattle.std.proofs.Common.{Option, Some, None, refl, ap, ◌∙◌, subst, arith, eq-eqb}
use Rattle.std.proofs.lemmas.Bool.{and_parts, both_ways}
use Rattle.std.specs.Option.{option_map_or}
use Rattle.jc_base.specs.Signature.{Signature}
use Rattle.jc_cap.specs.declared.method_header.MethodHeader.{MethodHeader}
use Rattle.jc_classes.specs.Members.{DeclaredMethod}
use Rattle.jc_names.specs.declared.name.ClassName.{ClassName}
use Rattle.jc_names.specs.declared.name.MethodName.{MethodName}
use Rattle.jc_names.specs.declared.name.MethodName.TheVariants.{Api, Loaded}
use Rattle.jc_names.specs.declared.owner.Owner.{Owner}
use Rattle.jc_store.specs.Heap.{Heap, object_at}
use Rattle.jc_machine.specs.Apart.{AreNativesApart, HaveApiMembers, IsApart, StaysApart, is_applets}
use Rattle.jc_machine.specs.Calls.{frame_of, has_room, native_may_begin, native_type, takes}
use Rattle.jc_machine.specs.Going.{with_heap}
use Rattle.jc_machine.specs.Guarded.{machine_of}
use Rattle.jc_machine.specs.Lookup.{declared_at, is_given, is_throwable, may_begin_with}
use Rattle.jc_machine.specs.Machine.{Calls, Frame, Gives, IsStuck, Machine, MethodPlace, NativeAnswer, NativeEnd, Next}
use Rattle.jc_machine.specs.Machine.{Outcome, Surroundings, ThrowsObject, Touch, last_denied}
use Rattle.jc_machine.specs.Natives.{AreNativesGuarded}
use Rattle.jc_machine.specs.Step.{Called, Gave, RanOut, Start, Threw, WasStuck, after_first_native, begun, begun_by}
use Rattle.jc_machine.specs.Step.{called_so_far, continued, defensive_step, ended_by, first_answer, first_native_call}
use Rattle.jc_machine.specs.Step.{native_called, native_ended, native_gave, native_started, native_threw, no_frame}
use Rattle.jc_machine.specs.Step.{point_of, ran_in, room_lacking, runtime_call, standing, started, started_by}
use Rattle.jc_machine.specs.Step.{steps_of}
use Rattle.jc_machine.specs.Unseen as unseen
use Rattle.jc_machine.specs.Unseen.{AreAlike, AreNativesBlind, CallsAlike, ComesAlike, EndsAlike, IsBlindAnswer, IsSeen}
use Rattle.jc_machine.specs.Unseen.{StepsAlike, from_objects, next, stays_out, stuck_both}
use Rattle.jc_machine.specs.declared.stop.Budget.{Budget}
use Rattle.jc_machine.specs.declared.stop.Budget.TheVariants as budgets
use Rattle.jc_machine.specs.declared.stop.CodePoint.{CodePoint}
use Rattle.jc_machine.specs.declared.stop.DeniedAccess.{DeniedAccess}
use Rattle.jc_words.specs.Values.{Ref, TaggedValue}
use Rattle.jc_machine.proofs.GuardingSteps.{steps_stay_apart}
use Rattle.jc_machine.proofs.AlikeLaws.{begins_both, given_both, leads_both, native_begins_both}
use Rattle.jc_machine.proofs.StayingApart.{top_is_applets}
use Rattle.jc_machine.proofs.UnseeingCalls.{steps_are_blind}

outside : (context active : ℕ) → not (active == context) ≡ true → active ≡ context → ⊥
outside context active e f = both_ways (active == context) (not_true (active == context) e) (eq-eqb active context f)
  where
    not_true : (b : Bool) → not b ≡ true → b ≡ false
    not_true b g = grind arith

module _ {C : Type 0} (context : ℕ) (s : Surroundings C) (guarded : AreNativesGuarded s.natives)
    (blind : AreNativesBlind s.natives) (keeps : C → Bool) (apart : AreNativesApart keeps s.natives)
    (members : HaveApiMembers s.world.shapes) where
  far_both : (ts us : List Touch) (c d : Called C) → ts ≡ us → CallsAlike context c d
      → CallsAlike context (called_so_far ts c) (called_so_far us d)
  far_both ts us c d e k = record {
    touches = ap (λ (xs : List Touch). xs ++ c.touches) e ∙ ap (λ (xs : List Touch). us ++ xs) k.touches;
    ran = k.ran;
    ends = k.ends;
  }

  continued_both : (go : Machine C → Called C) (lacking : Budget) (at : Option CodePoint) (d e : Option DeniedAccess)
      → d ≡ e → (o p : Outcome C)
      → ComesAlike context o p
      → ((m : Machine C) (heap : Heap TaggedValue) → AreAlike context m.heap heap → o ≡ Next m
      → CallsAlike context (go m) (go (with_heap m heap)))
      → CallsAlike context (continued lacking at d go o) (continued lacking at e go p)
  continued_both go lacking at d e same o p (next m heap a) k = k m heap a refl
  continued_both go lacking at d e same o p (unseen.throws m heap object a seen) k =
      subst (λ (x : Option DeniedAccess). CallsAlike context (ended_by (Threw m object at d))
      (ended_by (Threw (with_heap m heap) object at x))) same
      (record { touches = refl; ran = refl; ends = unseen.threw m heap object at d a seen })
  continued_both go lacking at d e same o p (unseen.ends m heap value a) k =
      record { touches = refl; ran = refl; ends = unseen.gave m heap value a }
  continued_both go lacking at d e same o p (unseen.used_up m heap a) k =
      record { touches = refl; ran = refl; ends = unseen.ran_out m heap lacking at a }
  continued_both go lacking at d e same o p stuck_both k =
      record { touches = refl; ran = refl; ends = unseen.were_stuck }

  -- behind a step
  ran_both : (active : ℕ) (c d : Called C) → CallsAlike context c d
      → CallsAlike context (ran_in active c) (ran_in active d)
  ran_both active c d k =
      record { touches = k.touches; ran = ap (λ (ns : List ℕ). active ∷ ns) k.ran; ends = k.ends }

  -- a call sees none
  pub steps_alike : (n : ℕ) (m : Machine C) (heap : Heap TaggedValue) → AreAlike context m.heap heap → IsApart keeps m
      → stays_out context (steps_of s n m).ran ≡ true
      → CallsAlike context (steps_of s n m) (steps_of s n (with_heap m heap))
  unfolding steps_of
  steps_alike zero m heap alike a out =
      record { touches = refl; ran = refl; ends = unseen.ran_out m heap budgets.Steps (Some (point_of m.top)) alike }
  steps_alike (suc n) m heap alike a out =
      let parts = and_parts (not (m.top.active.context == context)) _ out in
      let k : StepsAlike context (defensive_step s m) (defensive_step s (with_heap m heap)) =
      steps_are_blind context s m heap alike (record {
        guarded = guarded;
        blind = blind;
        own = a.objects.own;
        applet = top_is_applets keeps m a;
        other = outside context m.top.active.context parts.0;
      }) in
      let stays : StaysApart keeps s m = steps_stay_apart keeps s guarded apart members m a in
      ran_both m.top.active.context _ _
      (far_both (defensive_step s m).touches (defensive_step s (with_heap m heap)).touches _ _ k.touches
      (continued_both (steps_of s n) (room_lacking s (m.top ∷ m.waiting)) (Some (point_of m.top))
      (last_denied (defensive_step s m).touches) (last_denied (defensive_step s (with_heap m heap)).touches)
      (ap last_denied k.touches) (defensive_step s m).outcome (defensive_step s (with_heap m heap)).outcome k.outcome
      (λ m2 heap2 alike2 e.
      steps_alike n m2 heap2 alike2 (stays.after m2 (ap machine_of e)) (out_behind e parts.1))))
    where
      out_behind : {m2 : Machine C} → (defensive_step s m).outcome ≡ Next m2
          → stays_out context (continued (room_lacking s (m.top ∷ m.waiting)) (Some (point_of m.top))
          (last_denied (defensive_step s m).touches) (steps_of s n) (defensive_step s m).outcome).ran ≡ true → stays_out context (steps_of s n m2).ran ≡ true
      out_behind e f =
          subst (λ (o : Outcome C). stays_out context (continued (room_lacking s (m.top ∷ m.waiting))
          (Some (point_of m.top)) (last_denied (defensive_step s m).touches) (steps_of s n) o).ran ≡ true) e f

-- ---- a call of the runtime's

module _ {C : Type 0} (context : ℕ) (s : Surroundings C) (guarded : AreNativesGuarded s.natives)
    (blind : AreNativesBlind s.natives) (keeps : C → Bool) (apart : AreNativesApart keeps s.natives)
    (members : HaveApiMembers s.world.shapes) (start : Start C) (heap : Heap TaggedValue)
    (alike : AreAlike context start.heap heap) (first : IsApart keeps (standing start (no_frame start.owner))) where
  abbrev other : Start C
  other = from_objects start heap

  abbrev Both : Called C → Called C → Type 0
  Both c d = stays_out context c.ran ≡ true → CallsAlike context c d

  stuck_both_calls : Both (ended_by WasStuck) (ended_by WasStuck)
  stuck_both_calls out = record { touches = refl; ran = refl; ends = unseen.were_stuck }

  if_both : (b : Bool) (c d : Called C) → Both c d → Both (cond b c (ended_by WasStuck)) (cond b d (ended_by WasStuck))
  if_both true c d k = k
  if_both false c d k = stuck_both_calls

  -- a method of a package
  stands_apart : (f : Frame) → f.active ≡ start.owner → IsApart keeps (standing start f)
  stands_apart f e = record {
    objects = first.objects;
    statics = first.statics;
    frames = ap (λ (owner : Owner). is_applets owner && true) e ∙ first.frames;
    kept = first.kept;
  }

  begun_both : (steps : ℕ) (place : MethodPlace) (header : MethodHeader)
      → Both (begun s steps start place header) (begun s steps other place header)
  begun_both steps place header =
      by_room (has_room s [] (length f.locals + header.max_stack))
    where
      f : Frame
      f = frame_of place header start.arguments start.owner None

      by_room : (b : Bool)
          → Both (cond b (steps_of s steps (standing start f))
          (ended_by (RanOut (standing start f) (room_lacking s []) None)))
          (cond b (steps_of s steps (standing other f)) (ended_by (RanOut (standing other f) (room_lacking s []) None)))
      by_room true out =
          steps_alike context s guarded blind keeps apart members steps (standing start f) heap alike
          (stands_apart f refl) out
      by_room false out = record {
        touches = refl;
        ran = refl;
        ends = unseen.ran_out (standing start f) heap (room_lacking s []) None alike;
      }

  method_both : (steps : ℕ) (place : MethodPlace) (d : DeclaredMethod) (o : Option MethodHeader)
      → Both (begun_by s steps start place d o) (begun_by s steps other place d o)
  method_both steps place d None = stuck_both_calls
  method_both steps place d (Some header) =
      subst (λ (b : Bool). Both (cond (takes header start.arguments && may_begin_with s.world.shapes start.heap d
      start.arguments)
      (begun s steps start place header) (ended_by WasStuck))
      (cond (takes header start.arguments && b) (begun s steps other place header) (ended_by WasStuck)))
      (begins_both context start.heap heap alike s.world.shapes d start.arguments)
      (if_both (takes header start.arguments && may_begin_with s.world.shapes start.heap d start.arguments) _ _
      (begun_both steps place header))

  started_both : (steps : ℕ) (place : MethodPlace) (o : Option DeclaredMethod)
      → Both (started s steps start place o) (started s steps other place o)
  started_both steps place None = stuck_both_calls
  started_both steps place (Some d) = method_both steps place d d.method.header

  -- a native member
  abbrev a : ℕ → NativeAnswer C
  a member = first_answer s start member

  abbrev b : ℕ → NativeAnswer C
  b member = first_answer s other member

  gave_both : (m : Machine C) (heap2 : Heap TaggedValue) (member : ℕ) (value : Option TaggedValue)
      → AreAlike context m.heap heap2
      → EndsAlike context (native_gave s m member value) (native_gave s (with_heap m heap2) member value)
  gave_both m heap2 member value alike2 = by_type (native_type s.world.shapes member)
    where
      by_given : (x y : Bool) → x ≡ y
          → EndsAlike context (cond x (Gave m value) WasStuck) (cond y (Gave (with_heap m heap2) value) WasStuck)
      by_given x y e = subst (λ (z : Bool). EndsAlike context (cond x (Gave m value) WasStuck)
          (cond z (Gave (with_heap m heap2) value) WasStuck)) e (by_one x)
        where
          by_one : (x : Bool)
              → EndsAlike context (cond x (Gave m value) WasStuck) (cond x (Gave (with_heap m heap2) value) WasStuck)
          by_one true = unseen.gave m heap2 value alike2
          by_one false = unseen.were_stuck

      by_type : (o : Option (Signature ClassName))
          → EndsAlike context
          (cond (option_map_or (λ (signature : Signature ClassName). is_given s.world.shapes m.heap signature.result
          value)
          o false) (Gave m value) WasStuck)
          (cond (option_map_or (λ (signature : Signature ClassName). is_given s.world.shapes heap2 signature.result
          value)
          o false) (Gave (with_heap m heap2) value) WasStuck)
      by_type None = unseen.were_stuck
      by_type (Some signature) =
          by_given _ _ (given_both context m.heap heap2 alike2 s.world.shapes signature.result value)

  threw_both : (m : Machine C) (heap2 : Heap TaggedValue) (denied : Option DeniedAccess) (object : ℕ)
      → AreAlike context m.heap heap2 → IsSeen context m.heap object
      → EndsAlike context (native_threw s m denied object) (native_threw s (with_heap m heap2) denied object)
  threw_both m heap2 denied object alike2 seen =
      subst (λ (x : Bool). EndsAlike context (native_threw s m denied object)
      (cond x (Threw (with_heap m heap2) object None denied) WasStuck))
      (leads_both context m.heap heap2 alike2 (is_throwable s.world.shapes) (Ref object))
      (by_one (option_map_or (λ o. is_throwable s.world.shapes o.kind.object_type) (object_at m.heap object) false))
    where
      by_one : (x : Bool)
          → EndsAlike context (cond x (Threw m object None denied) WasStuck)
          (cond x (Threw (with_heap m heap2) object None denied) WasStuck)
      by_one true = unseen.threw m heap2 object None denied alike2 seen
      by_one false = unseen.were_stuck

  ended_both : (m : Machine C) (heap2 : Heap TaggedValue) (member : ℕ) (denied : Option DeniedAccess)
      (ends : NativeEnd) → AreAlike context m.heap heap2
      → ((number : ℕ) → ends ≡ ThrowsObject number → IsSeen context m.heap number)
      → EndsAlike context (native_ended s m member denied ends) (native_ended s (with_heap m heap2) member denied ends)
  ended_both m heap2 member denied (Gives value) alike2 seen = gave_both m heap2 member value alike2
  ended_both m heap2 member denied (ThrowsObject object) alike2 seen =
      threw_both m heap2 denied object alike2 (seen object refl)
  ended_both m heap2 member denied (Calls callback) alike2 seen = unseen.were_stuck
  ended_both m heap2 member denied IsStuck alike2 seen = unseen.were_stuck

  answered_both : (member : ℕ) → IsBlindAnswer context (a member) (b member)
      → CallsAlike context (native_called s start member (a member)) (native_called s other member (b member))
  answered_both member same = record {
    touches = same.touches;
    ran = refl;
    ends =
        subst (λ (r : C). EndsAlike context (native_ended s (after_first_native start (a member)) member
        (last_denied (a member).touches) (a member).ends)
        (native_ended s (after_first_native start (record {
          touches = (b member).touches;
          heap = (b member).heap;
          runtime = r;
          ends = (b member).ends;
        })) member (last_denied (b member).touches) (b member).ends)) same.runtime
        (subst (λ (ts : List Touch). EndsAlike context
        (native_ended s (after_first_native start (a member)) member (last_denied (a member).touches) (a member).ends)
        (native_ended s (with_heap (after_first_native start (a member)) (b member).heap) member (last_denied ts)
        (b member).ends)) same.touches
        (subst (λ (e : NativeEnd). EndsAlike context
        (native_ended s (after_first_native start (a member)) member (last_denied (a member).touches) (a member).ends)
        (native_ended s (with_heap (after_first_native start (a member)) (b member).heap) member
        (last_denied (a member).touches) e)) same.ends
        (ended_both (after_first_native start (a member)) (b member).heap member (last_denied (a member).touches)
        (a member).ends same.heap same.thrown)));
  }

  native_both_calls : (steps member : ℕ) → Both (native_started s steps start member)
      (native_started s steps other member)
  native_both_calls zero member = λ out. record {
    touches = refl;
    ran = refl;
    ends = unseen.ran_out (standing start (no_frame start.owner)) heap budgets.Steps None alike;
  }
  native_both_calls (suc n) member =
      subst (λ (x : Bool). Both (native_started s (suc n) start member)
      (cond x (native_called s other member (b member)) (ended_by WasStuck)))
      (native_begins_both context start.heap heap alike s.world.shapes member start.arguments)
      (if_both (native_may_begin s.world.shapes start.heap member start.arguments) _ _ (λ out.
      answered_both member (blind.members context s.world (first_native_call s start member) heap first.objects.own
      (and_parts (is_applets start.owner) true first.frames).0
      (outside context start.owner.context (and_parts (not (start.owner.context == context)) true out).0) alike)))

  called_both : (steps : ℕ) (method : MethodName)
      → Both (started_by s steps start method) (started_by s steps other method)
  called_both steps (Loaded number offset) =
      started_both steps (record { number = number; offset = offset })
      (declared_at s.world (record { number = number; offset = offset }))
  called_both steps (Api member) = native_both_calls steps member

  pub runs_alike : (steps : ℕ) → Both (runtime_call s steps start) (runtime_call s steps other)
  unfolding runtime_call
  runs_alike steps = called_both steps start.method
