-- What is thrown is caught by the first handler that catches it, of the innermost frame that has one.
use Rattle.std.proofs.Common.{◌≡◌, ℕ, ◌+◌, ◌≤◌, ◌&&◌, Bool, true, false, cond, List, [], ◌∷◌, ◌++◌, nat_le, nat_lt}
use Rattle.std.proofs.Common.{Option, Some, None, refl, sym, ap, ◌∙◌, subst, append-nil, append_assoc}
use Rattle.std.specs.Bool.{Decides}
use Rattle.std.specs.List.{AllByRecursion, filter, find, list_all}
use Rattle.std.specs.Option.{option_and_then, option_map_or}
use Rattle.std.proofs.lemmas.Bool.{false≢true, le-leb, leb-true}
use Rattle.std.proofs.lemmas.Bool.Decides.{Decides-and, Decides-eqb, Decides-like, Decides-ltb, Decides-or}
use Rattle.jc_cap.specs.declared.handler.Handler.{Handler}
use Rattle.jc_cap_desc.specs.Shape.{MethodBody}
use Rattle.jc_classes.specs.Subtype.{is_class_below}
use Rattle.jc_effects.specs.Objects.{class_target}
use Rattle.jc_link.specs.Linked.{World}
use Rattle.jc_link.specs.declared.target.PoolTarget.{PoolTarget}
use Rattle.jc_link.specs.declared.target.PoolTarget.TheVariants as To
use Rattle.jc_machine.proofs.GuardingHeaps.{all_joined}
use Rattle.jc_machine.specs.Catching.{Catches, CatchesNone, HoldsOfNone, IsFirst, NamesClassAbove, UnwindsTo, caught}
use Rattle.jc_machine.specs.Catching.{stuck, uncaught}
use Rattle.jc_machine.specs.Lookup.{class_of, code_at, is_throwable, target_at}
use Rattle.jc_machine.specs.Machine.{Frame, Machine, Outcome, Stuck, Surroundings, Throws}
use Rattle.jc_machine.specs.Returns.{room_of}
use Rattle.jc_machine.specs.Step.{catch_class, caught_in, covering, handler_for, is_caught, is_covered, is_found}
use Rattle.jc_machine.specs.Step.{settled, settled_object, through, unwound}
use Rattle.jc_names.specs.declared.name.ClassName.{ClassName}
use Rattle.jc_store.specs.Heap.{Object, object_at}
use Rattle.jc_words.specs.Values.{TaggedValue}

-- ---- the first element that passes two tests

abbrev FirstIs : {A : Type 0} → (A → Type 0) → List A → Option A → Type 0
FirstIs P xs None = HoldsOfNone P xs
FirstIs P xs (Some x) = IsFirst P xs x

first_behind : {A : Type 0} (P : A → Type 0) (x : A) (xs : List A) (o : Option A) → (P x → ⊥) → FirstIs P xs o
    → FirstIs P (x ∷ xs) o
first_behind P x xs None isnt rest = (isnt, rest)
first_behind P x xs (Some y) isnt rest =
    record {
      before = x ∷ rest.before;
      after = rest.after;
      listed = ap (λ ys. x ∷ ys) rest.listed;
      none_before = (isnt, rest.none_before);
      is = rest.is;
    }

first_found : {A : Type 0} (P : A → Type 0) (p q : A → Bool) → ((x : A) → Decides (q x && p x) (P x)) → (xs : List A)
    → FirstIs P xs (find p (filter q xs))
first_found P p q each [] = tt
first_found P p q each (x ∷ xs) = by_first (q x) (each x) (first_found P p q each xs)
  where
    by_second : (b : Bool) → Decides b (P x) → FirstIs P xs (find p (filter q xs))
        → FirstIs P (x ∷ xs) (cond b (Some x) (find p (filter q xs)))
    by_second true decides rest =
        record { before = []; after = xs; listed = refl; none_before = tt; is = decides.0 refl }
    by_second false decides rest =
        first_behind P x xs (find p (filter q xs)) (λ is. false≢true (decides.1 is)) rest

    by_first : (b : Bool) → Decides (b && p x) (P x) → FirstIs P xs (find p (filter q xs))
        → FirstIs P (x ∷ xs) (find p (cond b (x ∷ filter q xs) (filter q xs)))
    by_first true decides rest = by_second (p x) decides rest
    by_first false decides rest =
        first_behind P x xs (find p (filter q xs)) (λ is. false≢true (decides.1 is)) rest

-- ---- handlers

Decides-leb : (a b : ℕ) → Decides (nat_le a b) (a ≤ b)
Decides-leb a b = (leb-true a b, le-leb a b)

module _ (w : World) (f : Frame) (body : MethodBody) (class : ClassName) (handler : Handler) where
  class_named : (target : Option PoolTarget) → target_at w f.method.number handler.catch_type ≡ target
      → option_map_or (is_class_below w.shapes class) (option_and_then class_target target) false ≡ true
      → NamesClassAbove w f class handler
  class_named None is above = absurd cc
  class_named (Some (To.Class named)) is above = record { named = named; names = is; above = above }
  class_named (Some (To.InstanceField c cell declared)) is above = absurd cc
  class_named (Some (To.StaticField place declared)) is above = absurd cc
  class_named (Some (To.VirtualMethod c token signature)) is above = absurd cc
  class_named (Some (To.SuperMethod c method signature)) is above = absurd cc
  class_named (Some (To.StaticMethod c method is_static signature)) is above = absurd cc

  naming_decided : Decides (option_map_or (is_class_below w.shapes class) (catch_class w f.method.number handler) false)
      (NamesClassAbove w f class handler)
  naming_decided = (
    class_named (target_at w f.method.number handler.catch_type) refl,
    λ is. ap (λ t. option_map_or (is_class_below w.shapes class) (option_and_then class_target t) false) is.names
        ∙ is.above,
  )

  catching_decided : Decides (is_covered body f.pc handler && is_caught w f.method.number class handler)
      (Catches w f body class handler)
  catching_decided =
      Decides-like _ (λ is. record { from = is.0.0; until = is.0.1; type = is.1 })
      (λ is. ((is.from, is.until), is.type))
      (Decides-and (is_covered body f.pc handler) (is_caught w f.method.number class handler)
      (Decides-and _ _ (Decides-leb handler.start (body.code_offset + f.pc))
      (Decides-ltb (body.code_offset + f.pc) (handler.start + handler.active_length)))
      (Decides-or _ _ (Decides-eqb handler.catch_type 0) naming_decided))

-- ---- frames

module _ {C : Type 0} (s : Surroundings C) (m : Machine C) (object : ℕ) (class : ClassName) where
  unless_stuck : (b : Bool) (o : Outcome C) → UnwindsTo s m object class o
      → UnwindsTo s m object class (cond b o Stuck)
  unless_stuck true o k = k
  unless_stuck false o k = stuck

  module _ (within : List Frame) (f : Frame) (waiting : List Frame)
      (frames : (m.top ∷ m.waiting) ≡ within ++ f ∷ waiting)
      (none : AllByRecursion (CatchesNone s.world class) within) (outward : Outcome C)
      (rest : CatchesNone s.world class f → UnwindsTo s m object class outward) where
    by_handler : (body : MethodBody) → code_at s.world f.method ≡ Some body → (o : Option Handler)
        → FirstIs (Catches s.world f body class) body.handlers o
        → UnwindsTo s m object class (caught_in m object f waiting body (room_of s f) outward o)
    by_handler body has_code None first = rest (record { body = body; has_code = has_code; none = first })
    by_handler body has_code (Some handler) first =
        unless_stuck (option_map_or (nat_lt 0) (room_of s f) false) _
        (caught within f waiting body handler frames none has_code first)

    by_code : (o : Option MethodBody) → code_at s.world f.method ≡ o
        → UnwindsTo s m object class (through s m object class f waiting outward o)
    by_code None has_code = stuck
    by_code (Some body) has_code =
        unless_stuck (list_all (is_found s.world f.method.number) (covering body f.pc)) _
        (by_handler body has_code (handler_for s.world f class body)
        (first_found (Catches s.world f body class) (is_caught s.world f.method.number class) (is_covered body f.pc)
        (catching_decided s.world f body class) body.handlers))

  -- within are the frames that were passed already
  frames_unwind : (within frames : List Frame) → (m.top ∷ m.waiting) ≡ within ++ frames
      → AllByRecursion (CatchesNone s.world class) within
      → UnwindsTo s m object class (unwound s m object class frames)
  frames_unwind within [] is none =
      uncaught (subst (AllByRecursion (CatchesNone s.world class)) (sym (is ∙ append-nil within)) none)
  frames_unwind within (f ∷ waiting) is none =
      by_code within f waiting is none (unwound s m object class waiting)
      (λ catches_none. frames_unwind (within ++ f ∷ []) waiting (is ∙ sym (append_assoc within (f ∷ []) waiting))
      (all_joined (CatchesNone s.world class) within (f ∷ []) none (catches_none, tt)))
      (code_at s.world f.method) refl

pub throws_unwind : {C : Type 0} (s : Surroundings C) (m : Machine C) (object : ℕ) (o : Object TaggedValue)
    → object_at m.heap object ≡ Some o → UnwindsTo s m object (class_of o.kind.object_type) (settled s (Throws m object))
throws_unwind s m object o there =
    subst (λ found. UnwindsTo s m object (class_of o.kind.object_type) (settled_object s m object found)) (sym there)
    (unless_stuck s m object (class_of o.kind.object_type) (is_throwable s.world.shapes o.kind.object_type) _
    (frames_unwind s m object (class_of o.kind.object_type) [] (m.top ∷ m.waiting) refl tt))
