-- New frames, and native members and what they call, keep the law of accesses, where native members keep theirs.
use Rattle.std.proofs.Common.{◌≡◌, ℕ, Bool, true, false, List, [], ◌∷◌, ◌++◌, length, Option, Some, None, arith}
use Rattle.std.proofs.Common.{cond, refl, sym, ap, ◌∙◌, subst, ◌&&◌, append-nil, eqb-true}
use Rattle.std.proofs.lemmas.Bool.{and_from, and_parts}
use Rattle.std.specs.List.{AllByRecursion}
use Rattle.jc_base.specs.Signature.{Signature}
use Rattle.jc_classes.specs.Methods.{virtual_method_of}
use Rattle.jc_link.specs.Found.{is_same_return}
use Rattle.jc_names.specs.declared.name.ClassName.{ClassName}
use Rattle.jc_names.specs.declared.name.MethodName.{MethodName}
use Rattle.jc_names.specs.declared.name.MethodName.TheVariants.{Api, Loaded}
use Rattle.jc_names.specs.declared.owner.Owner.{Owner}
use Rattle.jc_store.specs.Heap.{Heap, Object, object_at}
use Rattle.jc_machine.specs.Apart.{IsApartAnswer, IsSetApart, SparesPlain, is_applets}
use Rattle.jc_machine.specs.Calls.{VirtualMember, active_in, after_native, called_as, callback_fits, calls_back}
use Rattle.jc_machine.specs.Calls.{entered, enters, inner_native_ends, is_in_place_of, is_member_or_loaded}
use Rattle.jc_machine.specs.Calls.{native_answer, native_call, native_ends, native_gives, native_may_begin, on_native}
use Rattle.jc_machine.specs.Calls.{type_of_member, virtual_member, with_given}
use Rattle.jc_machine.specs.Going.{StepContext, check, moved, plain, stuck, throws, touched}
use Rattle.jc_machine.specs.Guarded.{AreGuarded, AreMade, IsCalledBack, IsJudged, as_owner, as_they_were, by_callback}
use Rattle.jc_machine.specs.Guarded.{by_frame, frame_answer, setting_of}
use Rattle.jc_machine.specs.Lookup.{are_of_types, class_of, is_of_class}
use Rattle.jc_machine.specs.Machine.{Callback, Calls, Frame, Gives, IsStuck, Machine, MethodPlace, NativeAnswer}
use Rattle.jc_machine.specs.Machine.{NativeCall, NativeEnd, Next, Stepped, Surroundings, Throws, ThrowsObject, Touch}
use Rattle.jc_machine.specs.Machine.{UsedUp}
use Rattle.jc_machine.specs.Natives.{AreNativesGuarded, IsGuardedAnswer, IsModest, IsOfReceiver, shareable_member}
use Rattle.jc_machine.specs.Runtime.{security_exception}
use Rattle.jc_words.specs.Values.{Ref, TaggedValue}
use Rattle.jc_machine.proofs.Guarding.{KeepsLaw, at_check, at_checked, at_some, behind, behind_made, gives_changed}
use Rattle.jc_machine.proofs.Guarding.{goes, is_stuck, leaves, stays}
use Rattle.jc_machine.proofs.GuardingHeaps.{KeepsHeap, all_joined, changes_later, mapped, nothing_changes}
use Rattle.jc_machine.proofs.StayingApart.{IsApartIn, IsKeptIn, LeadsApart, RunsApplets, are_applets, is_apart_itself}
use Rattle.jc_machine.proofs.StayingApart.{objects_stay_apart, top_runs}
use Rattle.jc_machine.proofs.Storing.{fields_still}
use Rattle.jc_machine.proofs.Switching.{called_runs}

-- ---- frames

abbrev above : {C : Type 0} → StepContext C → Frame → List TaggedValue → Machine C
above h f operands = record {
  heap = h.machine.heap;
  statics = h.machine.statics;
  runtime = h.machine.runtime;
  top = f;
  waiting = moved h.machine.top h.machine.top.pc h.machine.top.locals operands ∷ h.machine.waiting;
}

-- a frame that is active as an applet
above_apart : {C : Type 0} (h : StepContext C) (f : Frame) (operands : List TaggedValue)
    → RunsApplets h.around h.machine f.active → LeadsApart h.around h.machine (above h f operands)
above_apart h f operands runs = record {
  apart = λ keeps p. record {
    objects = p.machine.objects;
    statics = p.machine.statics;
    frames =
        and_from (is_applets f.active) (are_applets (h.machine.top ∷ h.machine.waiting)) (runs keeps p)
        p.machine.frames;
    kept = p.machine.kept;
  };
  kept = λ keeps q. q.now;
  statics = as_they_were refl;
}

by_room : {C : Type 0} {before : List Touch} (h : StepContext C) (f : Frame) (operands : List TaggedValue) (room : Bool)
    → RunsApplets h.around h.machine f.active
    → KeepsLaw h.around h.machine before (cond room (plain (Next (above h f operands))) (plain (UsedUp h.machine)))
by_room h f operands true runs =
    stays (Next (above h f operands)) (above h f operands) refl refl (above_apart h f operands runs)
by_room h f operands false runs = stays (UsedUp h.machine) h.machine refl refl (is_apart_itself h.around h.machine)

entered_keeps : {C : Type 0} {before : List Touch} (h : StepContext C) (f : Frame) (max_stack : ℕ)
    (operands : List TaggedValue) → RunsApplets h.around h.machine f.active
    → KeepsLaw h.around h.machine before (entered h f max_stack operands)
entered_keeps h f max_stack operands runs = search (arith, by_room, length)

pub enters_keeps : {C : Type 0} {before : List Touch} (h : StepContext C) (switch : Option Owner) (place : MethodPlace)
    (arguments operands : List TaggedValue)
    → RunsApplets h.around h.machine (active_in h.machine.top switch)
    → KeepsLaw h.around h.machine before (enters h switch place arguments operands)
enters_keeps h switch place arguments operands runs = search (arith, at_some, at_check, entered_keeps)

-- ---- native members

-- an answer has changed nothing in a machine; and what the law of native members says of it there
record IsAsWas {C : Type 0} (m : Machine C) (a : NativeAnswer C) : Type 0 where
  heap : a.heap ≡ m.heap
  runtime : a.runtime ≡ m.runtime

record IsNativeRefusal {C : Type 0} (m : Machine C) (a : NativeAnswer C) : Type 0 where
  unchanged : IsAsWas m a
  throws : a.ends ≡ ThrowsObject security_exception

-- and what it is that is apart
record IsFineApart {C : Type 0} (keeps : C → Bool) (m : Machine C) (a : NativeAnswer C) : Type 0 where
  spares : AllByRecursion (SparesPlain m.heap) a.touches
  objects : IsSetApart a.heap
  kept : keeps a.runtime ≡ true

record IsFineAnswer {C : Type 0} (around : Surroundings C) (m : Machine C) (before : List Touch) (a : NativeAnswer C)
    : Type 0 where
  made : AllByRecursion (IsJudged (setting_of around m)) before → AreMade around m (before ++ a.touches)
  guarded : AreGuarded a.touches (IsNativeRefusal m a)
  changes : KeepsHeap m.top.active a.touches m.heap a.heap
  apart : (keeps : C → Bool) → IsApartIn keeps around m → IsFineApart keeps m a
  remembers : (keeps : C → Bool) → IsKeptIn keeps around m → keeps a.runtime ≡ true

refused_as : {C : Type 0} (h : StepContext C) (active : Owner) (previous : Option Owner) (member : ℕ)
    (arguments : List TaggedValue)
    → IsGuardedAnswer h.around.natives h.around.world (native_call h.around h.machine active previous member arguments)
    (native_answer h active previous member arguments)
    → AreGuarded (native_answer h active previous member arguments).touches
    (IsNativeRefusal h.machine (native_answer h active previous member arguments))
refused_as h active previous member arguments h1 = grind (arith, mapped)

apart_as : {C : Type 0} (h : StepContext C) (active : Owner) (previous : Option Owner) (member : ℕ)
    (arguments : List TaggedValue) → RunsApplets h.around h.machine active
    → IsGuardedAnswer h.around.natives h.around.world (native_call h.around h.machine active previous member arguments)
    (native_answer h active previous member arguments) → (keeps : C → Bool) → IsApartIn keeps h.around h.machine
    → IsFineApart keeps h.machine (native_answer h active previous member arguments)
apart_as {C = C} h active previous member arguments runs g keeps p =
    let call : NativeCall C = native_call h.around h.machine active previous member arguments in
    let a : NativeAnswer C = native_answer h active previous member arguments in
    let n : IsApartAnswer keeps call a =
    p.natives h.around.world call p.machine.objects (runs keeps p) p.machine.kept in record {
      spares = n.spares;
      objects =
          objects_stay_apart h.machine.heap a.heap active p.machine.objects g.kept (runs keeps p) g.adds n.stored;
      kept = n.kept;
    }

-- one that the frame calls
frame_fine : {C : Type 0} (h : StepContext C) → AreNativesGuarded h.around.natives → (before : List Touch) (member : ℕ)
    (arguments : List TaggedValue)
    → IsFineAnswer h.around h.machine before (frame_answer h.around h.machine member arguments)
frame_fine {C = C} h natives before member arguments =
    let active = h.machine.top.active in
    let previous = h.machine.top.previous in
    let a : NativeAnswer C = frame_answer h.around h.machine member arguments in
    let g : IsGuardedAnswer h.around.natives h.around.world
    (native_call h.around h.machine active previous member arguments) a =
    natives h.around.world (native_call h.around h.machine active previous member arguments) in record {
      made = λ all.
          by_frame (before ++ a.touches)
          (all_joined (IsJudged (setting_of h.around h.machine)) before a.touches all g.touches);
      guarded = refused_as h active previous member arguments g;
      changes = record { changes = g.changes; kept = g.kept; adds = g.adds };
      apart = λ keeps p. apart_as h active previous member arguments (top_runs h.around h.machine) g keeps p;
      remembers = λ keeps q.
          q.natives h.around.world (native_call h.around h.machine active previous member arguments) q.now;
    }

-- the frame's call of one that makes this call, with its accesses behind others
record IsCalling {C : Type 0} (h : StepContext C) (before : List Touch) (callback : Callback) : Type 0 where
  member : ℕ
  arguments : List TaggedValue
  first : List Touch
  begins : native_may_begin h.around.world.shapes h.machine.heap member arguments ≡ true
  calls : (frame_answer h.around h.machine member arguments).ends ≡ Calls callback
  before_is : before ≡ first ++ (frame_answer h.around h.machine member arguments).touches
  asks : callback.member ≡ shareable_member

both_all : {A : Type 0} (P Q R : A → Type 0) (xs : List A) → ((x : A) → P x → Q x → R x) → AllByRecursion P xs
    → AllByRecursion Q xs → AllByRecursion R xs
both_all P Q R [] f h k = tt
both_all P Q R (x ∷ xs) f h k = (f x h.0 k.0, both_all P Q R xs f h.1 k.1)

-- one that is called so on an object
callee_fine : {C : Type 0} (h : StepContext C) → AreNativesGuarded h.around.natives → (before : List Touch)
    (callback : Callback) → IsCalling h before callback → (object : Object TaggedValue)
    → object_at h.machine.heap callback.object ≡ Some object → RunsApplets h.around h.machine object.owner
    → (member : ℕ) → member ≡ callback.member
    → IsFineAnswer h.around h.machine before
    (native_answer h object.owner (Some h.machine.top.active) member (Ref callback.object ∷ callback.arguments))
callee_fine {C = C} h natives before callback calling object there runs member is =
    let arguments = Ref callback.object ∷ callback.arguments in
    let previous = Some h.machine.top.active in
    let setting = setting_of h.around h.machine in
    let b : NativeAnswer C = native_answer h object.owner previous member arguments in
    let g : IsGuardedAnswer h.around.natives h.around.world
    (native_call h.around h.machine object.owner previous member arguments) b =
    natives h.around.world (native_call h.around h.machine object.owner previous member arguments) in
    let modest : IsModest callback.object (native_call h.around h.machine object.owner previous member arguments) b =
    g.modest callback.object callback.arguments (is ∙ calling.asks) refl in
    let called : AllByRecursion (IsCalledBack setting callback.object) b.touches =
    both_all (IsJudged (as_owner setting object)) (IsOfReceiver callback.object) (IsCalledBack setting callback.object)
    b.touches (λ t judged of. record {
      object = object;
      found = there;
      is = of.is;
      access = of.access;
      by = of.by;
      judged = judged;
    }) g.touches modest.touches in record {
      made = λ all.
          subst (λ (l : List Touch). AreMade h.around h.machine (l ++ b.touches)) (sym calling.before_is)
          (by_callback calling.member calling.arguments callback calling.first b.touches calling.begins calling.calls
          (subst (λ (l : List Touch). AllByRecursion (IsJudged setting) l) calling.before_is all) called);
      guarded = refused_as h object.owner previous member arguments g;
      changes =
          subst (λ (x : Heap TaggedValue). KeepsHeap h.machine.top.active b.touches h.machine.heap x)
          (sym modest.unchanged.heap) (nothing_changes h.machine.top.active b.touches h.machine.heap);
      apart = λ keeps p. apart_as h object.owner previous member arguments runs g keeps p;
      remembers = λ keeps q.
          q.natives h.around.world (native_call h.around h.machine object.owner previous member arguments) q.now;
    }

-- the machine behind it
answer_apart : {C : Type 0} {before : List Touch} (h : StepContext C) (a : NativeAnswer C)
    → IsFineAnswer h.around h.machine before a → LeadsApart h.around h.machine (after_native h a).machine
answer_apart h a fine = record {
  apart = λ keeps p. record {
    objects = (fine.apart keeps p).objects;
    statics = fields_still h.machine.heap a.heap fine.changes.kept h.machine.statics p.machine.statics;
    frames = p.machine.frames;
    kept = (fine.apart keeps p).kept;
  };
  kept = λ keeps q. fine.remembers keeps q;
  statics = as_they_were refl;
}

same_place : {C : Type 0} (h : StepContext C) (a : NativeAnswer C) → IsAsWas h.machine a → after_native h a ≡ h
same_place h a h1 = grind arith

same_machine : {C : Type 0} (h : StepContext C) (a : NativeAnswer C) → IsAsWas h.machine a
    → (after_native h a).machine ≡ h.machine
same_machine {C = C} h a same = ap (λ (x : StepContext C). x.machine) (same_place h a same)

-- what an end that isn't an exception says of a refusal
not_given : (ends : NativeEnd) (value : Option TaggedValue) → ends ≡ Gives value
    → ends ≡ ThrowsObject security_exception → ⊥
not_given ends value e f = cc

not_called : (ends : NativeEnd) (callback : Callback) → ends ≡ Calls callback
    → ends ≡ ThrowsObject security_exception → ⊥
not_called ends callback e f = cc

not_stuck : (ends : NativeEnd) → ends ≡ IsStuck → ends ≡ ThrowsObject security_exception → ⊥
not_stuck ends e f = cc

same_thrown : (ends : NativeEnd) (number : ℕ) → ends ≡ ThrowsObject number
    → ends ≡ ThrowsObject security_exception → number ≡ security_exception
same_thrown ends number e f = cc

-- ---- what makes no access

check_none : {C : Type 0} (b : Bool) (s : Stepped C) → s.touches ≡ [] → (check b s).touches ≡ []
check_none b s h1 = grind arith

given_none : {C : Type 0} (h : StepContext C) (value : Option TaggedValue) (operands : List TaggedValue)
    → (with_given h value operands).touches ≡ []
given_none h value operands = grind (arith, check_none)

gives_none : {C : Type 0} (h : StepContext C) (signature : Signature ClassName) (value : Option TaggedValue)
    (operands : List TaggedValue) → (native_gives h signature value operands).touches ≡ []
gives_none h signature value operands = grind (arith, check_none, given_none)

-- ---- behind an answer

-- what makes no access
ends_behind : {C : Type 0} {before : List Touch} (h : StepContext C) (a : NativeAnswer C) (s : Stepped C)
    → s.touches ≡ [] → IsFineAnswer h.around h.machine before a
    → AreGuarded a.touches (s ≡ plain (Throws h.machine security_exception))
    → KeepsLaw h.around h.machine (before ++ a.touches) s → KeepsLaw h.around h.machine before (touched a.touches s)
ends_behind {before = before} h a s none fine guarded k =
    behind_made before a.touches s guarded (λ keeps p. (fine.apart keeps p).spares) k (λ all.
    subst (λ (l : List Touch). AreMade h.around h.machine (before ++ l))
    (sym (ap (λ (l : List Touch). a.touches ++ l) none ∙ append-nil a.touches)) (fine.made all))

-- one that isn't a refusal
unrefused : {C : Type 0} {before : List Touch} (h : StepContext C) (a : NativeAnswer C) (s : Stepped C)
    → IsFineAnswer h.around h.machine before a → (a.ends ≡ ThrowsObject security_exception → ⊥)
    → AreGuarded a.touches (s ≡ plain (Throws h.machine security_exception))
unrefused h a s fine other = grind (arith, mapped)

-- it gives what it gives
given_keeps : {C : Type 0} {around : Surroundings C} {m : Machine C} {before : List Touch} (h : StepContext C)
    (value : Option TaggedValue)
    (operands : List TaggedValue) → KeepsHeap m.top.active before m.heap h.machine.heap
    → LeadsApart around m h.machine → KeepsLaw around m before (with_given h value operands)
given_keeps h None operands changes apart = goes h h.next_pc h.machine.top.locals operands changes apart
given_keeps h (Some v) operands changes apart = gives_changed h v operands changes apart

gives_keeps : {C : Type 0} {around : Surroundings C} {m : Machine C} {before : List Touch} (h : StepContext C)
    (signature : Signature ClassName)
    (value : Option TaggedValue) (operands : List TaggedValue)
    → KeepsHeap m.top.active before m.heap h.machine.heap
    → LeadsApart around m h.machine → KeepsLaw around m before (native_gives h signature value operands)
gives_keeps h signature value operands changes apart = search (arith, at_check, given_keeps)

gave_keeps : {C : Type 0} {before : List Touch} (h : StepContext C) (a : NativeAnswer C) (signature : Signature ClassName)
    (value : Option TaggedValue) (operands : List TaggedValue) → IsFineAnswer h.around h.machine before a
    → a.ends ≡ Gives value
    → KeepsLaw h.around h.machine before (touched a.touches (native_gives (after_native h a) signature value operands))
gave_keeps {before = before} h a signature value operands fine e =
    let s = native_gives (after_native h a) signature value operands in
    ends_behind h a s (gives_none (after_native h a) signature value operands) fine
    (unrefused h a s fine (not_given a.ends value e))
    (gives_keeps (after_native h a) signature value operands
    (changes_later h.machine.top.active before a.touches h.machine.heap a.heap fine.changes) (answer_apart h a fine))

-- it throws, as where an access of its own was denied
threw_keeps : {C : Type 0} {before : List Touch} (h : StepContext C) (a : NativeAnswer C) (number : ℕ)
    → IsFineAnswer h.around h.machine before a → a.ends ≡ ThrowsObject number
    → KeepsLaw h.around h.machine before (touched a.touches (throws (after_native h a) number))
threw_keeps {C = C} {before = before} h a number fine e =
    ends_behind h a (throws (after_native h a) number) refl fine
    (mapped a.touches (IsNativeRefusal h.machine a)
    (throws (after_native h a) number ≡ plain (Throws h.machine security_exception)) (λ r.
    ap (λ (m : Machine C). plain (Throws m number)) (same_machine h a r.unchanged)
    ∙ ap (λ n. plain (Throws h.machine n)) (same_thrown a.ends number e r.throws)) fine.guarded)
    (leaves (Throws (after_native h a).machine number) (after_native h a).machine refl
    (changes_later h.machine.top.active before a.touches h.machine.heap a.heap fine.changes) (answer_apart h a fine))

stuck_keeps : {C : Type 0} {before : List Touch} (h : StepContext C) (a : NativeAnswer C)
    → IsFineAnswer h.around h.machine before a → (a.ends ≡ ThrowsObject security_exception → ⊥)
    → KeepsLaw h.around h.machine before (touched a.touches stuck)
stuck_keeps h a fine other = ends_behind h a stuck refl fine (unrefused h a stuck fine other) is_stuck

-- ---- a native member that another one called

inner_end_keeps : {C : Type 0} {before : List Touch} (h : StepContext C) (a : NativeAnswer C)
    (signature : Signature ClassName) (operands : List TaggedValue) → IsFineAnswer h.around h.machine before a
    → (ends : NativeEnd) → a.ends ≡ ends
    → KeepsLaw h.around h.machine before
    (touched a.touches (inner_native_ends operands (after_native h a) signature ends))
inner_end_keeps h a signature operands fine (Gives value) e = gave_keeps h a signature value operands fine e
inner_end_keeps h a signature operands fine (ThrowsObject number) e = threw_keeps h a number fine e
inner_end_keeps h a signature operands fine (Calls callback) e = stuck_keeps h a fine (not_called a.ends callback e)
inner_end_keeps h a signature operands fine IsStuck e = stuck_keeps h a fine (not_stuck a.ends e)

inner_keeps : {C : Type 0} {before : List Touch} (h : StepContext C) (active : Owner) (previous : Option Owner) (member : ℕ)
    (arguments operands : List TaggedValue)
    → IsFineAnswer h.around h.machine before (native_answer h active previous member arguments)
    → KeepsLaw h.around h.machine before (on_native h active previous member arguments (inner_native_ends operands))
inner_keeps h active previous member arguments operands fine = search (arith, at_check, at_some, inner_end_keeps)

called_as_keeps : {C : Type 0} {before : List Touch} (h : StepContext C) → AreNativesGuarded h.around.natives
    → (callback : Callback) → IsCalling h before callback → (object : Object TaggedValue)
    → object_at h.machine.heap callback.object ≡ Some object → RunsApplets h.around h.machine object.owner
    → (method : MethodName) → is_member_or_loaded callback.member method ≡ true → (operands : List TaggedValue)
    → KeepsLaw h.around h.machine before
    (called_as h object.owner method (Ref callback.object ∷ callback.arguments) operands)
called_as_keeps h natives callback calling object there runs (Loaded number offset) is operands =
    enters_keeps h (Some object.owner) (record { number = number; offset = offset })
    (Ref callback.object ∷ callback.arguments) operands runs
called_as_keeps {before = before} h natives callback calling object there runs (Api member) is operands =
    inner_keeps h object.owner (Some h.machine.top.active) member (Ref callback.object ∷ callback.arguments) operands
    (callee_fine h natives before callback calling object there runs member (eqb-true member callback.member is))

called_owner : {C : Type 0} (h : StepContext C) (given signature : Signature ClassName) (callback : Callback)
    → callback.member ≡ shareable_member → (object : Object TaggedValue)
    → object_at h.machine.heap callback.object ≡ Some object
    → (member : VirtualMember) → virtual_member h.around.world.shapes callback.member ≡ Some member
    → callback_fits h given signature member.class object callback.arguments ≡ true
    → RunsApplets h.around h.machine object.owner
called_owner h given signature callback asks object there member e fits keeps p =
    called_runs h.around.world.shapes p.members h.machine.heap p.machine.objects callback asks object there
    member e
    (and_parts (is_of_class h.around.world.shapes member.class object.kind.object_type)
    (is_same_return given.result signature.result)
    (and_parts
    (is_of_class h.around.world.shapes member.class object.kind.object_type
    && is_same_return given.result signature.result)
    (are_of_types h.around.world.shapes h.machine.heap signature.parameters callback.arguments) fits).0).0

calls_back_keeps : {C : Type 0} {before : List Touch} (h : StepContext C) → AreNativesGuarded h.around.natives
    → (given : Signature ClassName) (callback : Callback) (operands : List TaggedValue)
    → IsCalling h before callback → KeepsLaw h.around h.machine before (calls_back h given callback operands)
calls_back_keeps h natives given callback operands calling =
    at_some (object_at h.machine.heap callback.object) _ (λ object there.
    at_some (type_of_member h.around.world.shapes callback.member) _ (λ signature e.
    at_some (virtual_member h.around.world.shapes callback.member) _ (λ member is.
    at_checked (callback_fits h given signature member.class object callback.arguments) _ (λ fits.
    at_some (virtual_method_of h.around.world.shapes (class_of object.kind.object_type) member.token 0) _ (λ method e.
    at_checked (is_in_place_of h.around.world.shapes callback.member member.class signature method) _ (λ in_place.
    called_as_keeps h natives callback calling object there
    (called_owner h given signature callback calling.asks object there member is fits) method
    (first_part (is_member_or_loaded callback.member method) _ _ in_place) operands))))))
  where
    first_part : (a b c : Bool) → (a && b && c) ≡ true → a ≡ true
    first_part a b c e = (and_parts a b (and_parts (a && b) c e).0).0

-- a native member that makes a call has changed nothing
called_back_keeps : {C : Type 0} {before : List Touch} (h : StepContext C) → AreNativesGuarded h.around.natives
    → (a : NativeAnswer C) (given : Signature ClassName) (callback : Callback) (operands : List TaggedValue)
    → IsAsWas h.machine a → IsCalling h before callback
    → KeepsLaw h.around h.machine before (calls_back (after_native h a) given callback operands)
called_back_keeps {C = C} {before = before} h natives a given callback operands same calling =
    subst (λ (x : StepContext C). KeepsLaw h.around h.machine before (calls_back x given callback operands))
    (sym (same_place h a same)) (calls_back_keeps h natives given callback operands calling)

-- ---- a native member that the frame calls

module _ {C : Type 0} (h : StepContext C) (natives : AreNativesGuarded h.around.natives) (member : ℕ)
    (arguments operands : List TaggedValue) where
  abbrev a : NativeAnswer C
  a = frame_answer h.around h.machine member arguments

  guarded_so : IsGuardedAnswer h.around.natives h.around.world
      (native_call h.around h.machine h.machine.top.active h.machine.top.previous member arguments) a
  guarded_so = grind arith

  asks_keeps : {before : List Touch} (signature : Signature ClassName) (callback : Callback)
      → native_may_begin h.around.world.shapes h.machine.heap member arguments ≡ true → a.ends ≡ Calls callback
      → KeepsLaw h.around h.machine before
      (touched a.touches (calls_back (after_native h a) signature callback operands))
  asks_keeps {before = before} signature callback begins e =
      let fine = frame_fine h natives before member arguments in
      let s = calls_back (after_native h a) signature callback operands in
      let same = guarded_so.calls callback e in
      behind a.touches s guarded_so.touches (unrefused h a s fine (not_called a.ends callback e))
      (λ keeps p. (fine.apart keeps p).spares)
      (called_back_keeps h natives a signature callback operands
      (record { heap = same.heap; runtime = same.runtime }) (record {
        member = member;
        arguments = arguments;
        first = before;
        begins = begins;
        calls = e;
        before_is = refl;
        asks = guarded_so.asks callback e;
      }))

  end_keeps : {before : List Touch} (signature : Signature ClassName)
      → native_may_begin h.around.world.shapes h.machine.heap member arguments ≡ true → (ends : NativeEnd)
      → a.ends ≡ ends
      → KeepsLaw h.around h.machine before (touched a.touches (native_ends operands (after_native h a) signature ends))
  end_keeps {before = before} signature begins (Gives value) e =
      gave_keeps h a signature value operands (frame_fine h natives before member arguments) e
  end_keeps {before = before} signature begins (ThrowsObject number) e =
      threw_keeps h a number (frame_fine h natives before member arguments) e
  end_keeps signature begins (Calls callback) e = asks_keeps signature callback begins e
  end_keeps {before = before} signature begins IsStuck e =
      stuck_keeps h a (frame_fine h natives before member arguments) (not_stuck a.ends e)

  pub native_keeps : {before : List Touch}
      → KeepsLaw h.around h.machine before
      (on_native h h.machine.top.active h.machine.top.previous member arguments (native_ends operands))
  native_keeps = search (arith, at_checked, at_some, end_keeps)
