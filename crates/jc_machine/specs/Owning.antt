-- The owners of frames: a step changes the active owner only by calls, returns and catches. A call that switches does
-- so to the owner that the verdict on its access names, or to the owner of the object that a native member asks for a
-- shareable object (Java Card Runtime Environment Specification, Contexts and Context Switching).
use Rattle.std.specs.Prelude.{⊤, ◌≡◌, ℕ, List, [], ◌∷◌, drop, Option, Some, None, unwrap_or}
use Rattle.jc_firewall.specs.declared.access.Verdict.{Verdict}
use Rattle.jc_firewall.specs.declared.access.Verdict.TheVariants.{Allowed, AllowedSwitch, Denied}
use Rattle.jc_names.specs.declared.owner.Owner.{Owner}
use Rattle.jc_store.specs.Heap.{Object, object_at}
use Rattle.jc_machine.specs.Guarded.{frame_answer}
use Rattle.jc_machine.specs.Machine.{Callback, Calls, Ends, Frame, Machine, Next, Outcome, Stuck}
use Rattle.jc_machine.specs.Machine.{Surroundings, Throws, Touch, UsedUp}
use Rattle.jc_machine.specs.Natives.{shareable_member}
use Rattle.jc_machine.specs.Step.{defensive_step}
use Rattle.jc_words.specs.Values.{TaggedValue}

-- ---- frames

-- a frame of the same call: its method and its owners are unchanged
pub record IsOfCall (before after : Frame) : Type 0 where
  pub method : after.method ≡ before.method
  pub active : after.active ≡ before.active
  pub previous : after.previous ≡ before.previous

-- the frame waits at its call: only operands were popped
pub record Waits (before after : Frame) : Type 0 where
  pub call : IsOfCall before after
  pub pc : after.pc ≡ before.pc
  pub locals : after.locals ≡ before.locals
  pub taken : ℕ
  pub operands : after.operands ≡ drop taken before.operands

-- the waiting frame continues, after its call or at an exception handler, with its locals
pub record GoesOn (before after : Frame) : Type 0 where
  pub call : IsOfCall before after
  pub locals : after.locals ≡ before.locals

-- ---- owners of a called frame

-- the owner to which a call's access switches, if it switches
abbrev pub switch_of : Verdict → Option Owner
switch_of Allowed = None
switch_of (AllowedSwitch owner) = Some owner
switch_of (Denied rule) = None

abbrev pub switch_in : List Touch → Option Owner
switch_in [] = None
switch_in (t ∷ touches) = switch_of t.verdict

-- a called frame has its caller's owners; or, after a switch, the new active owner, with the caller's as the previous
-- one
abbrev pub previous_by : Frame → Option Owner → Option Owner
previous_by f None = f.previous
previous_by f (Some owner) = Some f.active

pub record IsCalledBy (caller called : Frame) (switch : Option Owner) : Type 0 where
  pub active : called.active ≡ unwrap_or switch caller.active
  pub previous : called.previous ≡ previous_by caller switch

-- ---- a step

-- a native member that the frame may call asks an object for its shareable object
pub record AsksFor {C : Type 0} (s : Surroundings C) (m : Machine C) (owner : Owner) : Type 0 where
  pub member : ℕ
  pub arguments : List TaggedValue
  pub callback : Callback
  pub ends : (frame_answer s m member arguments).ends ≡ Calls callback
  pub asks : callback.member ≡ shareable_member
  pub object : Object TaggedValue
  pub there : object_at m.heap callback.object ≡ Some object
  pub whose : object.owner ≡ owner

-- the frames after a step, innermost first: the running frame continues and the waiting ones are unchanged; or it waits
-- and another frame is called, by the verdict on the first access, or as the owner of the object asked; or a return or
-- a catch drops the frames inside a waiting one
pub data FramesGo {C : Type 0} (s : Surroundings C) (m : Machine C) (touches : List Touch) : List Frame → Type 0 where
  runs : (top : Frame) → IsOfCall m.top top → FramesGo s m touches (top ∷ m.waiting)
  called : (top caller : Frame) → Waits m.top caller → IsCalledBy m.top top (switch_in touches)
      → FramesGo s m touches (top ∷ caller ∷ m.waiting)
  called_back : (top caller : Frame) (owner : Owner) → Waits m.top caller → AsksFor s m owner
      → IsCalledBy m.top top (Some owner) → FramesGo s m touches (top ∷ caller ∷ m.waiting)
  back : (k : ℕ) (f top : Frame) (waiting : List Frame) → drop k (m.top ∷ m.waiting) ≡ f ∷ waiting → GoesOn f top
      → FramesGo s m touches (top ∷ waiting)

-- frames change this way in a step that continues; a step that throws doesn't change them
abbrev pub OwnersGo : {C : Type 0} → Surroundings C → Machine C → List Touch → Outcome C → Type 0
OwnersGo s m touches (Next after) = FramesGo s m touches (after.top ∷ after.waiting)
OwnersGo s m touches (Throws after object) = (after.top ∷ after.waiting) ≡ (m.top ∷ m.waiting)
OwnersGo s m touches (Ends after value) = ⊤
OwnersGo s m touches (UsedUp after) = ⊤
OwnersGo s m touches Stuck = ⊤

abbrev pub StepsOwned : {C : Type 0} → Surroundings C → Machine C → Type 0
StepsOwned s m = OwnersGo s m (defensive_step s m).touches (defensive_step s m).outcome
