-- Where the accesses of a call of the runtime's lead.
use Rattle.std.proofs.Common.{◌≡◌, ℕ, zero, suc, List, [], ◌∷◌, ◌++◌, Option, Some, None, Bool, true, arith, cond}
use Rattle.std.proofs.Common.{refl, ap, ◌&&◌, IfSome, append-nil}
use Rattle.jc_link.specs.Built.{IsBuilt}
use Rattle.jc_machine.specs.Apart.{IsApart, IsApartAnswer, IsSetApart, StaysApart, is_applets}
use Rattle.jc_natives.specs.Apart.{names_applets}
use Rattle.jc_card.proofs.Leading.{left_at_end, IsPart}
use Rattle.jc_card.proofs.ContentsKept.{EndKeeps, KeepsHeap, call_keeps_out}
use Rattle.jc_card.proofs.Sparing.{spared}
use Rattle.jc_machine.specs.Unseen.{stays_out}
use Rattle.jc_card.specs.Accesses.{IsApartCard, IsLawfulStep, law_of_accesses, law_of_plain_objects}
use Rattle.jc_card.specs.Order.{Claims, IsCallOf, Order, RunsAs, Steps, call_as, machine_at_end, machine_with}
use Rattle.jc_card.specs.Order.RunsAs.{by_method, by_native, by_none}
use Rattle.jc_card.specs.Order.Steps.{last, onward, spent}
use Rattle.jc_card.specs.Card.{left_by, CardState, around}
use Rattle.jc_card.specs.Parts.{Normally, OutOfBudget, Uncaught, Ended, ended, ended_call, start_on}
use Rattle.jc_classes.specs.Members.{DeclaredMethod}
use Rattle.jc_cap.specs.declared.method_header.MethodHeader.{MethodHeader}
use Rattle.jc_link.specs.Linked.{World}
use Rattle.jc_machine.specs.Calls.{frame_of, native_may_begin}
use Rattle.jc_machine.specs.Guarded.{machine_of}
use Rattle.jc_machine.specs.Storable.{FieldsHoldStorable}
use Rattle.jc_machine.specs.Lookup.{declared_at}
use Rattle.jc_machine.specs.Machine.{Frame, Machine, MethodPlace, NativeAnswer, NativeCall}
use Rattle.jc_machine.specs.Machine.{NativeEnd, Next, Outcome, Surroundings, Touch, last_denied}
use Rattle.jc_machine.specs.Natives.{IsGuardedAnswer}
use Rattle.jc_machine.specs.Step.{Called, CallEnd, Gave, RanOut, Start, Threw, WasStuck, after_first_native, begun}
use Rattle.jc_machine.specs.Step.{begun_by, called_so_far, continued, defensive_step, ended_by, first_answer, may_begin}
use Rattle.jc_machine.specs.Step.{native_called, native_ended, native_started, no_frame, point_of, room_lacking}
use Rattle.jc_machine.specs.Step.{runtime_call, started, started_by, steps_of}
use Rattle.jc_machine.specs.declared.stop.Budget.{Budget}
use Rattle.jc_machine.specs.declared.stop.CodePoint.{CodePoint}
use Rattle.jc_machine.specs.declared.stop.DeniedAccess.{DeniedAccess}
use Rattle.jc_names.specs.declared.name.MethodName.{MethodName}
use Rattle.jc_names.specs.declared.name.MethodName.TheVariants.{Api, Loaded}
use Rattle.jc_names.specs.declared.owner.Owner.{Owner}
use Rattle.jc_natives.specs.Kept.{Kept}
use Rattle.jc_natives.specs.Meaning.{meaning}
use Rattle.jc_words.specs.Values.{TaggedValue}
use Rattle.jc_card.specs.Order.Leads.{by_call}
use Rattle.jc_card.specs.PrivateGuarded.{StepsGuarded}

module _ (laws : StepsGuarded) (c : CardState) (owner : Owner) where
  abbrev s : Surroundings Kept
  s = around c (Some owner.context)

  abbrev w : World
  w = c.world

  -- ---- steps

  -- a machine that is apart, in a world that is built
  record IsFit (m : Machine Kept) : Type 0 where
    built : IsBuilt w.shapes
    apart : IsApart names_applets m

  -- at most so many steps lead so; and, if the first machine is apart, so is the last, and plain objects are kept
  record AreLed (n : ℕ) (m : Machine Kept) (touches : List Touch) (after : Machine Kept) : Type 0 where
    steps : Steps law_of_accesses s n m touches after
    fit : IsFit m → IsFit after
    plain : IsFit m → Steps law_of_plain_objects s n m touches after

  abbrev led_end : ℕ → Machine Kept → List Touch → CallEnd Kept → Type 0
  led_end n m touches (Gave after value) = AreLed n m touches after
  led_end n m touches (Threw after object at denied) = AreLed n m touches after
  led_end n m touches (RanOut after lack at) = AreLed n m touches after
  led_end n m touches WasStuck = Unit {0}

  abbrev leads_to : ℕ → Machine Kept → Called Kept → Type 0
  leads_to n m called = led_end n m called.touches called.ends

  lawful : (m : Machine Kept) → IsLawfulStep s m
  lawful m =
      record {
        guarded = laws.steps s laws.members m;
        accesses = laws.accesses s laws.members m;
        frames = laws.owned s laws.members m;
        thrown = laws.thrown s m;
        kept = λ after e. laws.kept s laws.members m after e;
      }

  stays_apart : (m : Machine Kept) → IsFit m → StaysApart names_applets s m
  stays_apart m p = laws.apart_steps s laws.members laws.apart_members (laws.api w.shapes p.built) m p.apart

  fit_behind : (m after : Machine Kept) → machine_of (defensive_step s m).outcome ≡ Some after → IsFit m → IsFit after
  fit_behind m after e p = record { built = p.built; apart = (stays_apart m p).after after e }

  -- a step that ends the call
  module _ (n : ℕ) (m after : Machine Kept) (e : machine_at_end (defensive_step s m).outcome ≡ Some after) where
    nothing_more : (claims : Claims) → Steps claims s (suc n) m (defensive_step s m).touches after
        → Steps claims s (suc n) m ((defensive_step s m).touches ++ []) after
    nothing_more claims h = grind (arith, append-nil)

    end_led : AreLed (suc n) m ((defensive_step s m).touches ++ []) after
    end_led = record {
      steps = nothing_more law_of_accesses (last n m after (lawful m) e);
      fit = fit_behind m after (left_at_end (defensive_step s m).outcome after e);
      plain = λ p. nothing_more law_of_plain_objects (last n m after (stays_apart m p).plain e);
    }

  -- one that doesn't
  module _ (n : ℕ) (m next : Machine Kept) (e : (defensive_step s m).outcome ≡ Next next) where
    led_on : (more : List Touch) (after : Machine Kept) → AreLed n next more after
        → AreLed (suc n) m ((defensive_step s m).touches ++ more) after
    led_on more after h = record {
      steps = onward n m next after more (lawful m) e h.steps;
      fit = λ p. h.fit (fit_behind m next (ap (λ (o : Outcome Kept). machine_of o) e) p);
      plain = λ p.
          onward n m next after more (stays_apart m p).plain e
          (h.plain (fit_behind m next (ap (λ (o : Outcome Kept). machine_of o) e) p));
    }

    end_joined : (more : List Touch) (ends : CallEnd Kept) → led_end n next more ends
        → led_end (suc n) m ((defensive_step s m).touches ++ more) ends
    end_joined more ends h1 = grind (arith, led_on)

  by_outcome : (n : ℕ) (m : Machine Kept) (lacking : Budget) (at : Option CodePoint) (denied : Option DeniedAccess)
      (o : Outcome Kept) → (defensive_step s m).outcome ≡ o
      → ((next : Machine Kept) → leads_to n next (steps_of s n next))
      → leads_to (suc n) m
      (called_so_far (defensive_step s m).touches (continued lacking at denied (steps_of s n) o))
  by_outcome n m lacking at denied o h1 h2 = grind (arith, end_joined, end_led)

  steps_lead : (n : ℕ) (m : Machine Kept) → leads_to n m (steps_of s n m)
  unfolding steps_of
  steps_lead zero m = record { steps = spent m; fit = λ p. p; plain = λ p. spent m }
  steps_lead (suc n) m =
      by_outcome n m (room_lacking s (m.top ∷ m.waiting)) (Some (point_of m.top))
      (last_denied (defensive_step s m).touches) (defensive_step s m).outcome refl (steps_lead n)

  -- ---- a call

  -- what is called as an applet
  record IsFitStart : Type 0 where
    built : IsBuilt w.shapes
    objects : IsSetApart c.heap
    statics : FieldsHoldStorable c.heap c.statics
    instances : names_applets c.kept ≡ true
    applets : is_applets owner ≡ true

  record IsCallLed (arguments : List TaggedValue) (method : MethodName) (touches : List Touch) (after : Machine Kept)
      : Type 0 where
    runs : RunsAs law_of_accesses c owner arguments method touches after
    fit : IsFitStart → IsFit after
    plain : IsFitStart → RunsAs law_of_plain_objects c owner arguments method touches after

  begin_fit : (f : Frame) → f.active ≡ owner → IsFitStart → IsFit (machine_with c f)
  begin_fit f is p = grind arith

  module _ (arguments : List TaggedValue) (name : MethodName) where
    abbrev call_end : List Touch → CallEnd Kept → Type 0
    call_end touches (Gave after value) = IsCallLed arguments name touches after
    call_end touches (Threw after object at denied) = IsCallLed arguments name touches after
    call_end touches (RanOut after lack at) = IsCallLed arguments name touches after
    call_end touches WasStuck = Unit {0}

    abbrev from : Called Kept → Type 0
    from called = call_end called.touches called.ends

    either : (b : Bool) (x y : Called Kept) → from x → from y → from (cond b x y)
    either b x y h1 h2 = grind arith

    -- no step
    none_led : (f : Frame) → f.active ≡ owner → IsCallLed arguments name [] (machine_with c f)
    none_led f is = record { runs = by_none name f is; fit = begin_fit f is; plain = λ p. by_none name f is }

  module _ (method : MethodName) (arguments : List TaggedValue) where
    abbrev start : Start Kept
    start = start_on c owner method arguments

    -- ---- the first frame

    module _ (place : MethodPlace) where
      abbrev name : MethodName
      name = Loaded place.number place.offset

      module _ (d : DeclaredMethod) (header : MethodHeader) (there : declared_at w place ≡ Some d)
          (has_header : d.method.header ≡ Some header) where
        abbrev first : Frame
        first = frame_of place header arguments owner None

        of_steps : (touches : List Touch) (after : Machine Kept) → AreLed c.steps (machine_with c first) touches after
            → IsCallLed arguments name touches after
        of_steps touches after h = record {
          runs = by_method place d header touches after there has_header h.steps;
          fit = λ p. h.fit (begin_fit first refl p);
          plain = λ p. by_method place d header touches after there has_header (h.plain (begin_fit first refl p));
        }

        of_end : (touches : List Touch) (ends : CallEnd Kept) → led_end c.steps (machine_with c first) touches ends
            → call_end arguments name touches ends
        of_end touches ends h1 = grind (arith, of_steps)

        begun_leads : from arguments name (begun s c.steps start place header)
        begun_leads = grind (arith, either, of_end, steps_lead, none_led)

      begun_by_leads : (d : DeclaredMethod) → declared_at w place ≡ Some d → (header : Option MethodHeader)
          → d.method.header ≡ header → from arguments name (begun_by s c.steps start place d header)
      begun_by_leads d there None has_header = tt
      begun_by_leads d there (Some header) has_header =
          either arguments name (may_begin s start d header) (begun s c.steps start place header) (ended_by WasStuck)
          (begun_leads d header there has_header) tt

      started_leads : (found : Option DeclaredMethod) → declared_at w place ≡ found
          → from arguments name (started s c.steps start place found)
      started_leads None there = tt
      started_leads (Some d) there = begun_by_leads d there d.method.header refl

    -- ---- a native member

    gave_leads : (called : MethodName) (touches : List Touch) (m : Machine Kept) (value : Option TaggedValue) (b : Bool)
        → IsCallLed arguments called touches m → call_end arguments called touches (cond b (Gave m value) WasStuck)
    gave_leads called touches m value b h1 = grind arith

    threw_leads : (called : MethodName) (touches : List Touch) (m : Machine Kept) (object : ℕ)
        (denied : Option DeniedAccess) (b : Bool) → IsCallLed arguments called touches m
        → call_end arguments called touches (cond b (Threw m object None denied) WasStuck)
    threw_leads called touches m object denied b h1 = grind arith

    native_ended_leads : (touches : List Touch) (m : Machine Kept) (member : ℕ) (denied : Option DeniedAccess)
        (ends : NativeEnd) → IsCallLed arguments (Api member) touches m
        → call_end arguments (Api member) touches (native_ended s m member denied ends)
    native_ended_leads touches m member denied ends h1 = grind (arith, gave_leads, threw_leads)

    -- behind a native member
    module _ (member : ℕ) where
      abbrev call : NativeCall Kept
      call = call_as c owner member arguments

      abbrev a : NativeAnswer Kept
      a = meaning.answer w call

      answer_guarded : IsGuardedAnswer meaning w call a
      answer_guarded = laws.members w call

      answer_apart : IsFitStart → IsApartAnswer names_applets call a
      answer_apart p = laws.apart_members w call p.objects p.applets p.instances

      member_led : IsCallLed arguments (Api member) a.touches (after_first_native start a)
      member_led = record {
        runs = by_native member (no_frame owner) refl answer_guarded;
        fit = λ p. record {
          built = p.built;
          apart = record {
            objects =
                laws.apart_objects c.heap a.heap owner p.objects answer_guarded.kept p.applets answer_guarded.adds
                (answer_apart p).stored;
            statics = laws.fields c.heap a.heap answer_guarded.kept c.statics p.statics;
            frames = ap (λ (b : Bool). b && true) p.applets;
            kept = (answer_apart p).kept;
          };
        };
        plain = λ p.
            by_native member (no_frame owner) refl
            (spared owner.context a.touches c.heap a.heap answer_guarded.changes (answer_apart p).spares);
      }

      native_leads : from arguments (Api member) (native_called s start member a)
      native_leads =
          native_ended_leads a.touches (after_first_native start a) member (last_denied a.touches) a.ends member_led

    native_started_leads : (steps member : ℕ) → from arguments (Api member) (native_started s steps start member)
    native_started_leads zero member = none_led arguments (Api member) (no_frame owner) refl
    native_started_leads (suc n) member =
        either arguments (Api member) (native_may_begin s.world.shapes c.heap member arguments)
        (native_called s start member (first_answer s start member)) (ended_by WasStuck) (native_leads member) tt

    -- ---- whatever is called

    started_by_leads : (name : MethodName) → from arguments name (started_by s c.steps start name)
    started_by_leads (Loaded number offset) =
        let place : MethodPlace = record { number = number; offset = offset } in
        started_leads place (declared_at s.world place) refl
    started_by_leads (Api member) = native_started_leads c.steps member

    call_leads : from arguments method (runtime_call s c.steps start)
    unfolding runtime_call
    call_leads = started_by_leads method

    -- ---- as a part of a command

    module _ (order : Order) (called : IsCallOf c order owner method arguments)
        (is_owner : IsApartCard c → is_applets owner ≡ true) where
      fit_start : IsApartCard c → IsFitStart
      fit_start p = grind arith

      left_apart : (ended : Called Kept) (m : Machine Kept) (ends : Ended)
          → IsCallLed arguments method ended.touches m
          → (IsApartCard c → (context : ℕ) → stays_out context ended.ran ≡ true → KeepsHeap context c.heap m.heap)
          → IsPart order c
          (record { touches = ended.touches; ran = ended.ran; card = left_by c m; value = ends })
      left_apart ended m ends h keeps = record {
        accesses = by_call order c owner method arguments ended.touches m called h.runs;
        packages = refl;
        apart = λ p. record {
          card = record {
            packages = p.packages;
            objects = (h.fit (fit_start p)).apart.objects;
            statics = (h.fit (fit_start p)).apart.statics;
            instances = (h.fit (fit_start p)).apart.kept;
          };
          plain = by_call order c owner method arguments ended.touches m called (h.plain (fit_start p));
        };
        out = λ p context e. (keeps p context e).contents;
      }

      ended_part : (ended : Called Kept) (ends : CallEnd Kept) → call_end arguments method ended.touches ends
          → ((p : IsApartCard c) (context : ℕ) → stays_out context ended.ran ≡ true
          → EndKeeps laws context c owner p c.heap ends) → IfSome (ended_call c ended ends) (IsPart order c)
      ended_part ended (Gave m value) h keeps = left_apart ended m (Normally value) h keeps
      ended_part ended (Threw m object at denied) h keeps =
          left_apart ended m (Uncaught object at denied) h keeps
      ended_part ended (RanOut m lack at) h keeps = left_apart ended m (OutOfBudget lack at) h keeps
      ended_part ended WasStuck h keeps = tt

      pub call_part : IfSome (ended c (runtime_call s c.steps start)) (IsPart order c)
      call_part =
          let called = runtime_call s c.steps start in
          ended_part called called.ends call_leads
          (λ p context. call_keeps_out laws context c owner p (is_owner p) method arguments)
