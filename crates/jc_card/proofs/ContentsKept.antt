-- What a context's plain objects hold stays as long as no step runs in that context: of heaps, of steps and of calls.
use Rattle.std.proofs.Common.{◌≡◌, inl, inr, ℕ, zero, suc, ◌==◌, ◌&&◌, Bool, true, false, cond, not, List}
use Rattle.std.proofs.Common.{◌+◌, length, [], ◌∷◌, ◌++◌, Option, Some, None, refl, sym, ap, ◌∙◌, arith, eqb-true}
use Rattle.std.proofs.Common.{eq-eqb}
use Rattle.std.proofs.lemmas.Bool.{and_parts, both_ways}
use Rattle.std.proofs.lemmas.List.Folds.{list_all-append}
use Rattle.std.proofs.lemmas.Option.{same_Some}
use Rattle.jc_cap.specs.declared.method_header.MethodHeader.{MethodHeader}
use Rattle.jc_classes.specs.Members.{DeclaredMethod}
use Rattle.jc_machine.specs.Apart.{IsApart, is_applets}
use Rattle.jc_machine.specs.Calls.{frame_of, has_room, native_may_begin}
use Rattle.jc_machine.specs.Guarded.{KeepsPlain, machine_of}
use Rattle.jc_machine.specs.Lookup.{declared_at}
use Rattle.jc_machine.specs.Machine.{Ends, Frame, Machine, MethodPlace, NativeEnd, Next, Outcome, Stuck}
use Rattle.jc_machine.specs.Machine.{Surroundings, Throws, UsedUp, last_denied}
use Rattle.jc_machine.specs.Natives.{KeepsObjects}
use Rattle.jc_machine.specs.Step.{CallEnd, Called, Gave, RanOut, Start, Threw, WasStuck, after_first_native, begun}
use Rattle.jc_machine.specs.Step.{begun_by, continued, defensive_step, ended_by, first_answer, may_begin, native_called}
use Rattle.jc_machine.specs.Step.{native_ended, native_started, point_of, room_lacking, runtime_call, standing}
use Rattle.jc_machine.specs.Step.{started, started_by, steps_of}
use Rattle.jc_machine.specs.Unseen.{is_hidden, is_plain, stays_out}
use Rattle.jc_machine.specs.declared.stop.Budget.{Budget}
use Rattle.jc_machine.specs.declared.stop.CodePoint.{CodePoint}
use Rattle.jc_machine.specs.declared.stop.DeniedAccess.{DeniedAccess}
use Rattle.jc_names.specs.declared.name.MethodName.{MethodName}
use Rattle.jc_names.specs.declared.name.MethodName.TheVariants.{Api, Loaded}
use Rattle.jc_names.specs.declared.owner.Owner.{Owner}
use Rattle.jc_natives.specs.Apart.{names_applets}
use Rattle.jc_natives.specs.Kept.{Kept}
use Rattle.jc_natives.specs.Meaning.{meaning}
use Rattle.jc_store.specs.Heap.{Heap, Object}
use Rattle.jc_store.specs.declared.kind.ObjectKind.{ObjectKind}
use Rattle.jc_store.specs.declared.kind.Mark.{Mark}
use Rattle.jc_store.specs.declared.kind.Mark.TheVariants.{Plain}
use Rattle.jc_words.specs.Values.{TaggedValue}
use Rattle.jc_card.proofs.Sparing.{spared}
use Rattle.jc_card.specs.Accesses.{IsApartCard}
use Rattle.jc_card.specs.Card.{CardState, around}
use Rattle.jc_card.specs.Order.{call_as}
use Rattle.jc_card.specs.Parts.{start_on}
use Rattle.jc_card.specs.PrivateGuarded.{StepsGuarded}
use Rattle.jc_card.specs.Unseen.{KeepsContents}

pub both_out : (context : ℕ) (xs ys : List ℕ) → stays_out context (xs ++ ys) ≡ true
    → (stays_out context xs ≡ true) × (stays_out context ys ≡ true)
both_out context xs ys e =
    and_parts (stays_out context xs) (stays_out context ys)
    (sym (list_all-append (λ (n : ℕ). not (n == context)) xs ys) ∙ e)

outside : (context active : ℕ) → not (active == context) ≡ true → active ≡ context → ⊥
outside context active e f = both_ways (active == context) (not_true (active == context) e) (eq-eqb active context f)
  where
    not_true : (b : Bool) → not b ≡ true → b ≡ false
    not_true b g = grind arith

-- ---- heaps

plain_mark : (mark : Mark) → is_plain mark ≡ true → mark ≡ Plain
plain_mark mark h = grind arith

pub hidden_is_plain : (context : ℕ) (o : Object TaggedValue) → is_hidden context o ≡ true
    → (o.owner.context ≡ context) × (o.kind.mark ≡ Plain)
hidden_is_plain context o h =
    let parts = and_parts (o.owner.context == context) (is_plain o.kind.mark) h in
    (eqb-true o.owner.context context parts.0, plain_mark o.kind.mark parts.1)

-- the objects stay, and hidden ones hold what they held
pub record KeepsHeap (context : ℕ) (before after : Heap TaggedValue) : Type 0 where
  pub objects : KeepsObjects before after
  pub contents : KeepsContents context before after

pub heap_itself : (context : ℕ) (heap : Heap TaggedValue) → KeepsHeap context heap heap
heap_itself context heap = record {
  objects = λ n o e. record { object = o; found = e; kind = refl; owner = refl; size = refl };
  contents = λ n o p e f hidden clears. ap (λ (x : Object TaggedValue). x.cells) (same_Some p o (sym f ∙ e));
}

pub heap_both : (context : ℕ) (a b c : Heap TaggedValue) → KeepsHeap context a b → KeepsHeap context b c
    → KeepsHeap context a c
heap_both context a b c k l = record {
  objects = λ n o e.
      let s = k.objects n o e in
      let t = l.objects n s.object s.found in record {
        object = t.object;
        found = t.found;
        kind = t.kind ∙ s.kind;
        owner = t.owner ∙ s.owner;
        size = t.size ∙ s.size;
      };
  contents = λ n o p e f hidden clears.
      let s = k.objects n o e in
      l.contents n s.object p s.found f
      (ap (λ (w : Owner). w.context == context && is_plain s.object.kind.mark) s.owner
      ∙ ap (λ (x : ObjectKind). o.owner.context == context && is_plain x.mark) s.kind ∙ hidden)
      (ap (λ (x : ObjectKind). x.clears) s.kind ∙ clears) ∙ k.contents n o s.object e s.found hidden clears;
}

-- where plain objects change in another context alone
plain_contents : (context active : ℕ) (before after : Heap TaggedValue) → not (active == context) ≡ true
    → KeepsPlain active before after → KeepsContents context before after
plain_contents context active before after out plain n o p e f hidden clears =
    let is = hidden_is_plain context o hidden in
    elim (plain n o p e f is.1) [
      | inl same ↦ same
      | inr own ↦ absurd (outside context active out (own ∙ is.0))
    ]

-- ---- steps

module _ (laws : StepsGuarded) (context : ℕ) (c : CardState) (owner : Owner) (p : IsApartCard c) where
  abbrev pub s : Surroundings Kept
  s = around c (Some owner.context)

  abbrev pub EndKeeps : Heap TaggedValue → CallEnd Kept → Type 0
  EndKeeps heap (Gave m value) = KeepsHeap context heap m.heap
  EndKeeps heap (Threw m object at denied) = KeepsHeap context heap m.heap
  EndKeeps heap (RanOut m spent at) = KeepsHeap context heap m.heap
  EndKeeps heap WasStuck = Unit {0}

  end_behind : (a b : Heap TaggedValue) (e : CallEnd Kept) → KeepsHeap context a b → EndKeeps b e → EndKeeps a e
  end_behind a b (Gave m value) k l = heap_both context a b m.heap k l
  end_behind a b (Threw m object at denied) k l = heap_both context a b m.heap k l
  end_behind a b (RanOut m spent at) k l = heap_both context a b m.heap k l
  end_behind a b WasStuck k l = tt

  module _ (m : Machine Kept) (a : IsApart names_applets m) (out : not (m.top.active.context == context) ≡ true) where
    step_keeps : (after : Machine Kept) → machine_of (defensive_step s m).outcome ≡ Some after
        → KeepsHeap context m.heap after.heap
    step_keeps after e = record {
      objects = laws.kept s laws.members m after e;
      contents =
          plain_contents context m.top.active.context m.heap after.heap out
          ((laws.apart_steps s laws.members laws.apart_members (laws.api c.world.shapes p.packages) m a).plain after e);
    }

    next_apart : (after : Machine Kept) → machine_of (defensive_step s m).outcome ≡ Some after
        → IsApart names_applets after
    next_apart after e =
        (laws.apart_steps s laws.members laws.apart_members (laws.api c.world.shapes p.packages) m a).after after e

    by_outcome : (go : Machine Kept → Called Kept) (lacking : Budget) (at : Option CodePoint)
        (denied : Option DeniedAccess) (o : Outcome Kept)
        → (defensive_step s m).outcome ≡ o → stays_out context (continued lacking at denied go o).ran ≡ true
        → ((next : Machine Kept) → IsApart names_applets next → stays_out context (go next).ran ≡ true
        → EndKeeps next.heap (go next).ends) → EndKeeps m.heap (continued lacking at denied go o).ends
    by_outcome go lacking at denied (Next next) e f rest =
        let left = ap (λ (x : Outcome Kept). machine_of x) e in
        end_behind m.heap next.heap (go next).ends (step_keeps next left) (rest next (next_apart next left) f)
    by_outcome go lacking at denied (Throws after object) e f rest =
        step_keeps after (ap (λ (x : Outcome Kept). machine_of x) e)
    by_outcome go lacking at denied (Ends after value) e f rest =
        step_keeps after (ap (λ (x : Outcome Kept). machine_of x) e)
    by_outcome go lacking at denied (UsedUp after) e f rest =
        step_keeps after (ap (λ (x : Outcome Kept). machine_of x) e)
    by_outcome go lacking at denied Stuck e f rest = tt

  steps_keep : (n : ℕ) (m : Machine Kept) → IsApart names_applets m → stays_out context (steps_of s n m).ran ≡ true
      → EndKeeps m.heap (steps_of s n m).ends
  unfolding steps_of
  steps_keep zero m a out = heap_itself context m.heap
  steps_keep (suc n) m a out =
      let parts = and_parts (not (m.top.active.context == context)) _ out in
      by_outcome m a parts.0 (steps_of s n) (room_lacking s (m.top ∷ m.waiting)) (Some (point_of m.top))
      (last_denied (defensive_step s m).touches) (defensive_step s m).outcome refl parts.1 (steps_keep n)

  -- ---- a call of the runtime's

  module _ (whose : is_applets owner ≡ true) (method : MethodName) (arguments : List TaggedValue) where
    abbrev pub start : Start Kept
    start = start_on c owner method arguments

    abbrev pub Out : Called Kept → Type 0
    Out called = stays_out context called.ran ≡ true → EndKeeps c.heap called.ends

    either_out : (b : Bool) (x : Called Kept) → Out x → Out (cond b x (ended_by WasStuck))
    either_out true x k = k
    either_out false x k = λ out. tt

    stands_apart : (f : Frame) → f.active ≡ owner → IsApart names_applets (standing start f)
    stands_apart f e = record {
      objects = p.objects;
      statics = p.statics;
      frames = ap (λ (w : Owner). is_applets w && true) e ∙ ap (λ (b : Bool). b && true) whose;
      kept = p.instances;
    }

    begun_out : (place : MethodPlace) (header : MethodHeader) → Out (begun s c.steps start place header)
    begun_out place header = by_room (has_room s [] (length f.locals + header.max_stack))
      where
        f : Frame
        f = frame_of place header arguments owner None

        by_room : (b : Bool)
            → Out (cond b (steps_of s c.steps (standing start f))
            (ended_by (RanOut (standing start f) (room_lacking s []) None)))
        by_room true = steps_keep c.steps (standing start f) (stands_apart f refl)
        by_room false = λ out. heap_itself context c.heap

    begun_by_out : (place : MethodPlace) (d : DeclaredMethod) (header : Option MethodHeader)
        → Out (begun_by s c.steps start place d header)
    begun_by_out place d None = λ out. tt
    begun_by_out place d (Some header) =
        either_out (may_begin s start d header) (begun s c.steps start place header) (begun_out place header)

    started_out : (place : MethodPlace) (found : Option DeclaredMethod) → Out (started s c.steps start place found)
    started_out place None = λ out. tt
    started_out place (Some d) = begun_by_out place d d.method.header

    -- a native member
    gave_keeps : (m : Machine Kept) (value : Option TaggedValue) (b : Bool) → KeepsHeap context c.heap m.heap
        → EndKeeps c.heap (cond b (Gave m value) WasStuck)
    gave_keeps m value true k = k
    gave_keeps m value false k = tt

    threw_keeps : (m : Machine Kept) (object : ℕ) (denied : Option DeniedAccess) (b : Bool)
        → KeepsHeap context c.heap m.heap → EndKeeps c.heap (cond b (Threw m object None denied) WasStuck)
    threw_keeps m object denied true k = k
    threw_keeps m object denied false k = tt

    ended_keeps : (m : Machine Kept) (member : ℕ) (denied : Option DeniedAccess) (ends : NativeEnd)
        → KeepsHeap context c.heap m.heap → EndKeeps c.heap (native_ended s m member denied ends)
    ended_keeps m member denied ends k = grind (arith, gave_keeps, threw_keeps)

    native_out : (member : ℕ) → Out (native_called s start member (first_answer s start member))
    native_out member = λ out.
        let call = call_as c owner member arguments in
        let a = meaning.answer c.world call in
        let guarded = laws.members c.world call in
        let apart = laws.apart_members c.world call p.objects whose p.instances in
        ended_keeps (after_first_native start a) member (last_denied a.touches) a.ends (record {
          objects = guarded.kept;
          contents =
              plain_contents context owner.context c.heap a.heap
              (and_parts (not (owner.context == context)) true out).0
              (spared owner.context a.touches c.heap a.heap guarded.changes apart.spares);
        })

    native_started_out : (steps member : ℕ) → Out (native_started s steps start member)
    native_started_out zero member = λ out. heap_itself context c.heap
    native_started_out (suc n) member =
        either_out (native_may_begin s.world.shapes c.heap member arguments)
        (native_called s start member (first_answer s start member)) (native_out member)

    started_by_out : (name : MethodName) → Out (started_by s c.steps start name)
    started_by_out (Loaded number offset) =
        let place : MethodPlace = record { number = number; offset = offset } in
        started_out place (declared_at s.world place)
    started_by_out (Api member) = native_started_out c.steps member

    pub call_keeps_out : Out (runtime_call s c.steps start)
    unfolding runtime_call
    call_keeps_out = started_by_out method
