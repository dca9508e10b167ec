-- A part of a command sees nothing of what a context keeps in which none of its steps runs.
use Rattle.std.specs.Prelude.{⊤}
use Rattle.std.proofs.Common.{◌≡◌, ℕ, suc, ◌&&◌, Bool, true, false, cond, List, [], ◌∷◌, ◌++◌, map}
use Rattle.std.proofs.Common.{Option, Some, None, refl, sym, ap, ◌∙◌, subst}
use Rattle.std.proofs.lemmas.List.{length-map}
use Rattle.std.proofs.lemmas.Option.{same_Some}
use Rattle.std.specs.Option.{option_and_then, option_map, option_map_or}
use Rattle.jc_firewall.specs.declared.access.Denial.{Denial}
use Rattle.jc_machine.proofs.AlikeLaws.{AlikeAt, as_cells, at_alike, with_cells}
use Rattle.jc_machine.specs.Apart.{is_applets}
use Rattle.jc_machine.specs.Machine.{Touch}
use Rattle.jc_machine.specs.Step.{CallEnd, Called, Gave, RanOut, Start, Threw, WasStuck, runtime_call}
use Rattle.jc_machine.specs.Unseen as unseen
use Rattle.jc_machine.specs.Unseen.{AreAlike, CallsAlike, EndsAlike, IsAlike, IsSeen, from_objects, stays_out}
use Rattle.jc_machine.specs.declared.stop.CodePoint.{CodePoint}
use Rattle.jc_machine.specs.declared.stop.DeniedAccess.{DeniedAccess}
use Rattle.jc_names.specs.declared.name.MethodName.{MethodName}
use Rattle.jc_names.specs.declared.owner.Owner.{Owner}
use Rattle.jc_natives.proofs.AlikeLaws.{put_all_both}
use Rattle.jc_natives.specs.Cells.{put_all}
use Rattle.jc_natives.specs.Kept.{Kept}
use Rattle.jc_natives.specs.Meaning.{own_touch}
use Rattle.jc_natives.specs.declared.kept.Instance.{Instance}
use Rattle.jc_safety.specs.Starting.{method_for}
use Rattle.jc_safety.specs.Zeroing.{zero_or_null, zeroed, zeroed_where}
use Rattle.jc_store.specs.Heap.{Heap, Object, is_cleared_by, object_at}
use Rattle.jc_store.specs.declared.kind.ClearingEvent.{ClearingEvent}
use Rattle.jc_words.specs.Values.{Ref, TaggedValue, Word}
use Rattle.jc_card.proofs.ContentsKept.{both_out}
use Rattle.jc_card.proofs.Owners.{selected_owner}
use Rattle.jc_card.specs.Accesses.{IsApartCard}
use Rattle.jc_card.specs.Card.{CardState, around, left_by, selected_instance, with_heap}
use Rattle.jc_card.specs.Causes.{denial_in, denial_of, thrown_cause, uncaught_cause}
use Rattle.jc_card.specs.Parts.{Ended, Left, Normally, OutOfBudget, Uncaught, and_then, arguments_of, behind, start_on}
use Rattle.jc_card.specs.Parts.{call_applet}
use Rattle.jc_card.specs.Parts.{call_method, call_on, call_selected, clear, clearing_touches, ended_call, gives}
use Rattle.jc_card.specs.Parts.{member_called, write}
use Rattle.jc_card.specs.PrivateGuarded.{StepsGuarded}
use Rattle.jc_card.specs.Unseen.{with_objects}
use Rattle.jc_card.specs.declared.calls.AppletCall.{AppletCall}

-- the object with a number is the same where it isn't hidden
pub same_seen : (context : ℕ) (H K : Heap TaggedValue) → AreAlike context H K → (n : ℕ) → IsSeen context H n
    → object_at K n ≡ object_at H n
same_seen context H K alike n seen = by_objects (object_at H n) (object_at K n) refl (at_alike context H K alike n)
  where
    by_objects : (x y : Option (Object TaggedValue)) → object_at H n ≡ x → AlikeAt context x y → y ≡ x
    by_objects None None e a = refl
    by_objects (Some o) (Some p) e a =
        ap Some (as_cells context o p a ∙ ap (with_cells o) (sym (a.seen (seen o e))))
    by_objects None (Some p) e a = absurd a
    by_objects (Some o) None e a = absurd a

-- a denial names its object's owner, which isn't hidden
same_owner : (context : ℕ) (denied : DeniedAccess) (x y : Option (Object TaggedValue)) → AlikeAt context x y
    → option_map (denial_of denied) y ≡ option_map (denial_of denied) x
same_owner context denied None None a = refl
same_owner context denied (Some o) (Some p) a =
    ap (λ (q : Object TaggedValue). Some (denial_of denied q)) (as_cells context o p a)
same_owner context denied None (Some p) a = absurd a
same_owner context denied (Some o) None a = absurd a

same_denial : (context : ℕ) (H K : Heap TaggedValue) → AreAlike context H K → (denied : Option DeniedAccess)
    → option_and_then (denial_in K) denied ≡ option_and_then (denial_in H) denied
same_denial context H K alike None = refl
same_denial context H K alike (Some denied) =
    same_owner context denied (object_at H denied.object) (object_at K denied.object)
    (at_alike context H K alike denied.object)

-- the same cause, if what nothing caught isn't hidden
pub same_cause : (context : ℕ) (H K : Heap TaggedValue) → AreAlike context H K → (number : ℕ) (at : Option CodePoint)
    (denied : Option DeniedAccess) → IsSeen context H number
    → uncaught_cause K number at denied ≡ uncaught_cause H number at denied
same_cause context H K alike number at denied seen =
    ap (λ (o : Option (Object TaggedValue)). option_map (thrown_cause at (option_and_then (denial_in K) denied)) o)
    (same_seen context H K alike number seen)
    ∙ ap (λ (d : Option Denial). option_map (thrown_cause at d) (object_at H number))
    (same_denial context H K alike denied)

module _ (context : ℕ) where
  -- another one is left, of which this is known
  pub record Like {A : Type 0} (Known : CardState → A → Type 0) (l : Left A) (other : Option (Left A)) : Type 0 where
    pub heap : Heap TaggedValue
    pub alike : AreAlike context l.card.heap heap
    pub is : other ≡ Some (with_objects l heap)
    pub known : Known l.card l.value

  abbrev pub Unseen : {A : Type 0} → (CardState → A → Type 0) → Option (Left A) → Option (Left A) → Type 0
  Unseen {A} Known done other =
      (l : Left A) → done ≡ Some l → stays_out context l.ran ≡ true → Like Known l other

  -- nothing is known
  abbrev pub Any : {A : Type 0} → CardState → A → Type 0
  Any c value = ⊤

  -- what nothing caught isn't hidden
  abbrev pub Thrown : CardState → Ended → Type 0
  Thrown c (Normally value) = ⊤
  Thrown c (Uncaught object at denied) = IsSeen context c.heap object
  Thrown c (OutOfBudget spent at) = ⊤

  -- ---- one part after the other

  pub known_unseen : {A : Type 0} (Known : CardState → A → Type 0) (x : Left A) (other : Option (Left A))
      (heap : Heap TaggedValue) → AreAlike context x.card.heap heap → other ≡ Some (with_objects x heap)
      → Known x.card x.value → Unseen Known (Some x) other
  known_unseen {A} Known x other heap alike is known = λ l e out.
      subst (λ (z : Left A). Like Known z other) (same_Some x l e)
      (record { heap = heap; alike = alike; is = is; known = known })

  pub stuck_unseen : {A : Type 0} (Known : CardState → A → Type 0) (other : Option (Left A)) → Unseen Known None other
  stuck_unseen Known other = λ l e out. absurd (none_is l e)
    where
      none_is : {B : Type 0} (l : Left B) → None ≡ Some l → ⊥
      none_is l e = cc

  pub gives_unseen : {A : Type 0} (Known : CardState → A → Type 0) (c : CardState) (heap : Heap TaggedValue)
      → AreAlike context c.heap heap → (value : A) → Known c value
      → Unseen Known (gives c value) (gives (with_heap c heap) value)
  gives_unseen Known c heap alike value known = known_unseen Known _ _ heap alike refl known

  pub if_unseen : {A : Type 0} (Known : CardState → A → Type 0) (b : Bool) (x y x2 y2 : Option (Left A))
      → Unseen Known x x2 → Unseen Known y y2 → Unseen Known (cond b x y) (cond b x2 y2)
  if_unseen Known true x y x2 y2 k l = k
  if_unseen Known false x y x2 y2 k l = l

  pub then_unseen : {A B : Type 0} (Known : CardState → A → Type 0) (Knows : CardState → B → Type 0)
      (done other : Option (Left A)) (next : CardState → A → Option (Left B)) → Unseen Known done other
      → ((l : Left A) (heap : Heap TaggedValue) → done ≡ Some l → AreAlike context l.card.heap heap
      → Known l.card l.value → Unseen Knows (next l.card l.value) (next (with_heap l.card heap) l.value))
      → Unseen Knows (and_then done next) (and_then other next)
  then_unseen Known Knows None other next first k = stuck_unseen Knows (and_then other next)
  then_unseen {A} {B} Known Knows (Some x) other next first k = by_next (next x.card x.value) refl
    where
      joined : (y : Left B) → next x.card x.value ≡ Some y → stays_out context (x.ran ++ y.ran) ≡ true
          → Like Knows (behind x.touches x.ran y) (and_then other next)
      joined y f out =
          let parts = both_out context x.ran y.ran out in
          let a = first x refl parts.0 in
          let b = k x a.heap refl a.alike a.known y f parts.1 in record {
            heap = b.heap;
            alike = b.alike;
            is =
                ap (λ (o : Option (Left A)). and_then o next) a.is
                ∙ ap (λ (o : Option (Left B)). option_map (behind x.touches x.ran) o) b.is;
            known = b.known;
          }

      by_next : (o : Option (Left B)) → next x.card x.value ≡ o
          → Unseen Knows (option_map (behind x.touches x.ran) o) (and_then other next)
      by_next None f = stuck_unseen Knows (and_then other next)
      by_next (Some y) f = λ l e out.
          subst (λ (z : Left B). Like Knows z (and_then other next)) (same_Some (behind x.touches x.ran y) l e)
          (joined y f
          (sym (ap (λ (z : Left B). stays_out context z.ran) (sym (same_Some (behind x.touches x.ran y) l e)))
          ∙ out))

  -- ---- what the runtime does in its own name

  pub write_unseen : (number : ℕ) (words : List ℕ) (c : CardState) (heap : Heap TaggedValue)
      → AreAlike context c.heap heap → Unseen Any (write number words c) (write number words (with_heap c heap))
  write_unseen number words c heap alike =
      known_unseen Any _ _ (put_all heap number 0 (map Word words))
      (put_all_both context c.heap heap alike number 0 (map Word words))
      (ap (λ (ts : List Touch). Some (record {
        touches = ts;
        ran = [];
        card = with_heap c (put_all heap number 0 (map Word words));
        value = tt;
      })) (by_objects (object_at heap number) (object_at c.heap number)
      (at_alike context c.heap heap alike number))) tt
    where
      by_objects : (y x : Option (Object TaggedValue)) → AlikeAt context x y
          → option_map_or (λ (o : Object TaggedValue). own_touch number o ∷ []) y []
          ≡ option_map_or (λ (o : Object TaggedValue). own_touch number o ∷ []) x []
      by_objects None None a = refl
      by_objects (Some p) (Some o) a =
          ap (λ (q : Object TaggedValue). own_touch number q ∷ []) (as_cells context o p a)
      by_objects (Some p) None a = absurd a
      by_objects None (Some o) a = absurd a

  module _ (event : ClearingEvent) (who : Option ℕ) where
    one_alike : (o p : Object TaggedValue) → IsAlike context o p
        → IsAlike context (cond (is_cleared_by event who o) (zeroed o) o)
        (cond (is_cleared_by event who p) (zeroed p) p)
    one_alike o p a =
        subst (λ (q : Object TaggedValue). IsAlike context (cond (is_cleared_by event who o) (zeroed o) o)
        (cond (is_cleared_by event who q) (zeroed q) q)) (sym (as_cells context o p a))
        (by_test (is_cleared_by event who o))
      where
        by_test : (b : Bool)
            → IsAlike context (cond b (zeroed o) o) (cond b (zeroed (with_cells o p.cells)) (with_cells o p.cells))
        by_test true = record {
          kind = refl;
          owner = refl;
          size = length-map o.cells zero_or_null ∙ a.size ∙ sym (length-map p.cells zero_or_null);
          seen = λ e. ap (map zero_or_null) (a.seen e);
        }
        by_test false = record { kind = refl; owner = refl; size = a.size; seen = a.seen }

    all_alike : (os ps : Heap TaggedValue) → AreAlike context os ps
        → AreAlike context (zeroed_where (is_cleared_by event who) os) (zeroed_where (is_cleared_by event who) ps)
    all_alike [] [] a = tt
    all_alike (o ∷ os) (p ∷ ps) a = (one_alike o p a.0, all_alike os ps a.1)
    all_alike [] (p ∷ ps) a = absurd a
    all_alike (o ∷ os) [] a = absurd a

    touches_alike : (number : ℕ) (os ps : Heap TaggedValue) → AreAlike context os ps
        → clearing_touches event who number ps ≡ clearing_touches event who number os
    touches_alike number [] [] a = refl
    touches_alike number (o ∷ os) (p ∷ ps) a =
        ap (λ (q : Object TaggedValue). cond (is_cleared_by event who q) (own_touch number q ∷ []) []
        ++ clearing_touches event who (suc number) ps) (as_cells context o p a.0)
        ∙ ap (λ (ts : List Touch). cond (is_cleared_by event who o) (own_touch number o ∷ []) [] ++ ts)
        (touches_alike (suc number) os ps a.1)
    touches_alike number [] (p ∷ ps) a = absurd a
    touches_alike number (o ∷ os) [] a = absurd a

    pub clear_unseen : (c : CardState) (heap : Heap TaggedValue) → AreAlike context c.heap heap
        → Unseen Any (clear event who c) (clear event who (with_heap c heap))
    clear_unseen c heap alike =
        known_unseen Any _ _ (zeroed_where (is_cleared_by event who) heap) (all_alike c.heap heap alike)
        (ap (λ (ts : List Touch). Some (record {
          touches = ts;
          ran = [];
          card = with_heap c (zeroed_where (is_cleared_by event who) heap);
          value = tt;
        })) (touches_alike 1 c.heap heap alike)) tt

  -- ---- calls

  module _ (laws : StepsGuarded) (c : CardState) (heap : Heap TaggedValue) (alike : AreAlike context c.heap heap)
      (p : IsApartCard c) where
    abbrev d : CardState
    d = with_heap c heap

    abbrev left_of : List Touch → List ℕ → CardState → Ended → Left Ended
    left_of touches ran card value = record { touches = touches; ran = ran; card = card; value = value }

    left_both : (called other : Called Kept) → called.touches ≡ other.touches → called.ran ≡ other.ran
        → (card : CardState) (value : Ended)
        → Some (left_of other.touches other.ran card value) ≡ Some (left_of called.touches called.ran card value)
    left_both called other same ran card value =
        ap (λ (ts : List Touch). Some (left_of ts other.ran card value)) (sym same)
        ∙ ap (λ (ns : List ℕ). Some (left_of called.touches ns card value)) (sym ran)

    ends_unseen : (called other : Called Kept) (e f : CallEnd Kept) → EndsAlike context e f
        → called.touches ≡ other.touches → called.ran ≡ other.ran
        → Unseen Thrown (ended_call c called e) (ended_call d other f)
    ends_unseen called other e f (unseen.gave m heap2 value a) same ran =
        known_unseen Thrown _ _ heap2 a
        (left_both called other same ran (with_heap (left_by c m) heap2) (Normally value)) tt
    ends_unseen called other e f (unseen.threw m heap2 object at denied a seen) same ran =
        known_unseen Thrown _ _ heap2 a
        (left_both called other same ran (with_heap (left_by c m) heap2) (Uncaught object at denied)) seen
    ends_unseen called other e f (unseen.ran_out m heap2 spent at a) same ran =
        known_unseen Thrown _ _ heap2 a
        (left_both called other same ran (with_heap (left_by c m) heap2) (OutOfBudget spent at)) tt
    ends_unseen called other e f unseen.were_stuck same ran = stuck_unseen Thrown None

    ran_of : (called : Called Kept) (ends : CallEnd Kept) (l : Left Ended) → ended_call c called ends ≡ Some l
        → called.ran ≡ l.ran
    ran_of called (Gave m value) l e = ap (λ (z : Left Ended). z.ran) (same_Some _ l e)
    ran_of called (Threw m object at denied) l e = ap (λ (z : Left Ended). z.ran) (same_Some _ l e)
    ran_of called (RanOut m spent at) l e = ap (λ (z : Left Ended). z.ran) (same_Some _ l e)
    ran_of called WasStuck l e = absurd cc

    pub call_unseen : (owner : Owner) → is_applets owner ≡ true → (method : MethodName) (arguments : List TaggedValue)
        → Unseen Thrown (call_method c owner.context owner method arguments)
        (call_method d owner.context owner method arguments)
    call_unseen owner whose method arguments = λ l e out.
        let start : Start Kept = start_on c owner method arguments in
        let s = around c (Some owner.context) in
        let called : Called Kept = runtime_call s c.steps start in
        let other : Called Kept = runtime_call s c.steps (from_objects start heap) in
        let k : CallsAlike context called other =
        laws.alike context s laws.members laws.blind laws.apart_members (laws.api c.world.shapes p.packages) start
        (record {
          objects = p.objects;
          statics = p.statics;
          frames = ap (λ (b : Bool). b && true) whose;
          kept = p.instances;
        }) heap alike c.steps
        (ap (stays_out context) (ran_of called called.ends l e) ∙ out) in
        ends_unseen called other called.ends other.ends k.ends k.touches k.ran l e out

    -- a member of Applet, on the object of an instance
    on_unseen : (i : Instance) → is_applets i.owner ≡ true → (call : AppletCall) (o : Object TaggedValue)
        (cells : List TaggedValue) → Unseen Thrown (call_on c i call o) (call_on d i call (with_cells o cells))
    on_unseen i whose call o cells = by_method (method_for c.world.shapes o (member_called call))
      where
        by_method : (m : Option MethodName)
            → Unseen Thrown
            (option_and_then (λ method.
            call_method c i.owner.context i.owner method (Ref i.object ∷ arguments_of call)) m)
            (option_and_then (λ method.
            call_method d i.owner.context i.owner method (Ref i.object ∷ arguments_of call)) m)
        by_method None = stuck_unseen Thrown None
        by_method (Some method) = call_unseen i.owner whose method (Ref i.object ∷ arguments_of call)

    applet_unseen : (i : Instance) → is_applets i.owner ≡ true → (call : AppletCall)
        → Unseen Thrown (call_applet c i call) (call_applet d i call)
    applet_unseen i whose call =
        by_objects (object_at c.heap i.object) (object_at heap i.object) (at_alike context c.heap heap alike i.object)
      where
        by_objects : (x y : Option (Object TaggedValue)) → AlikeAt context x y
            → Unseen Thrown (option_and_then (call_on c i call) x) (option_and_then (call_on d i call) y)
        by_objects None None a = stuck_unseen Thrown None
        by_objects (Some o) (Some q) a =
            subst (λ (x : Object TaggedValue). Unseen Thrown (call_on c i call o) (call_on d i call x))
            (sym (as_cells context o q a)) (on_unseen i whose call o q.cells)
        by_objects None (Some q) a = absurd a
        by_objects (Some o) None a = absurd a

    pub selected_unseen : (call : AppletCall) → Unseen Thrown (call_selected c call) (call_selected d call)
    selected_unseen call = by_instance (selected_instance c) refl
      where
        by_instance : (o : Option Instance) → selected_instance c ≡ o
            → Unseen Thrown (option_map_or (λ i. call_applet c i call) o (gives c (Normally None)))
            (option_map_or (λ i. call_applet d i call) o (gives d (Normally None)))
        by_instance None e = gives_unseen Thrown c heap alike (Normally None) tt
        by_instance (Some i) e = applet_unseen i (selected_owner c.kept c.selected i p.instances e) call
