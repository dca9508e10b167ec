-- What exception handlers took in, while control flow is followed on.
use Rattle.std.proofs.Common.{◌≡◌, ℕ, Bool, true, ◌&&◌, List, [], ◌∷◌, length, None, Some, slice_get}
use Rattle.std.proofs.Common.{sym, ap, subst, ◌∙◌, arith}
use Rattle.std.specs.List.{AllByRecursion}
use Rattle.std.specs.Option.{option_map}
use Rattle.std.proofs.lemmas.Option.{none-some, same_Some}
use Rattle.jc_classes.specs.Subtype.{is_class_below}
use Rattle.jc_names.specs.declared.name.ClassName.{ClassName}
use Rattle.jc_check.specs.Method.{CheckedHandler, caught_types}
use Rattle.jc_check.specs.Package.{package_rules}
use Rattle.jc_check.specs.Rules.{Rules}
use Rattle.jc_check.specs.Typing.{CatchLeads, HandlerLeads, HasShape, Leads, Typing}
use Rattle.jc_types.specs.PrivateRanges.{AgreeOutside}
use Rattle.jc_types.specs.State.{StateWithRoom, Types, all_below, types_below}
use Rattle.jc_types.specs.declared.ranges.LocalRange.{LocalRange}
use Rattle.jc_types.specs.declared.ty.Ty.{Ty}
use Rattle.jc_types.specs.declared.ty.Ty.TheVariants.{Class}
use Rattle.jc_verify.specs.PrivateFlow.{HasRoom, Places, Risen, held_at, number_at}
use Rattle.jc_verify.specs.PrivateSeen.{HasSeen, HaveSeen, StillHolds, WasCovered, with_locals}
use Rattle.jc_verify.specs.PrivateWork.{Handles, HandlesAll, HasTakenIn, IsAtWork}
use Rattle.jc_verify.specs.declared.flow.MethodFlow.{MethodFlow}
use Rattle.jc_verify.specs.declared.place.Place.{Place}
use Rattle.jc_verify.specs.declared.seen.TakenLocals.{TakenLocals}
use Rattle.jc_verify.proofs.Arriving.{at_number, below_lengths, held_by}
use Rattle.jc_verify.proofs.Growing.{grown_self, leads_on, risen_self, risen_through}
use Rattle.jc_verify.proofs.Passing.{all_at}

both : (p q : Bool) → p && q ≡ true → (p ≡ true) × (q ≡ true)
both p q h = grind arith

one_of_both : (p q : Bool) → p ≡ true → q ≡ true → p && q ≡ true
one_of_both p q h k = grind arith

-- what a handler leads to goes by the locals alone
module _ (rules : Rules) (typing : Typing) (pc : ℕ) (t : Types) (locals : List Ty) (e : locals ≡ t.locals) where
  one_alone : (h : CheckedHandler) → HandlerLeads rules typing pc t h → HandlerLeads rules typing pc (with_locals locals) h
  one_alone h leads covered =
      let c = leads covered in
      record {
        class = c.class;
        catches = c.catches;
        leads =
            let caught = Class c.class ∷ [] in
            subst (λ (ls : List Ty). Leads rules typing (record { locals = ls; operands = caught }) h.goes_on) (sym e)
            c.leads;
      }

  locals_alone : (hs : List CheckedHandler) → AllByRecursion (HandlerLeads rules typing pc t) hs
      → AllByRecursion (HandlerLeads rules typing pc (with_locals locals)) hs
  locals_alone [] all = tt
  locals_alone (h ∷ hs) all = (one_alone h all.0, locals_alone hs all.1)

module _ (f : MethodFlow) where
  -- the place where a handler goes on holds these locals, if it held those that agree with them
  pub still_held : {places : Places} → IsAtWork f places → (pc number : ℕ) (p : Place StateWithRoom)
      (held : StateWithRoom) (range : LocalRange) (locals : List Ty) → number_at f.numbers.now pc ≡ Some number
      → slice_get places number ≡ Some p → p.held ≡ Some held
      → ((old : List Ty) → AgreeOutside range old locals
      → all_below (is_class_below f.linked.now.world) old held.types.locals ≡ true
      → all_below (is_class_below f.linked.now.world) locals held.types.locals ≡ true)
      → StillHolds f places pc range locals
  still_held {places} work pc number p held range locals numbered stands is below = record {
    held = held.types;
    at =
        at_number f.linked.now work.sound.laws f.method.now f.numbers.now places pc number p numbered stands
        ∙ ap (option_map (λ (s : StateWithRoom). s.types)) is;
    below = below;
  }

module _ (f : MethodFlow) (seen : TakenLocals) where
  -- nothing was seen
  pub nothing_seen : {places : Places} → seen.at ≡ None → HaveSeen f places seen
  nothing_seen none final pc risen at = absurd (none-some pc (sym none ∙ at))

  -- places that rise
  pub seen_on : {places after : Places} → IsAtWork f places → Risen f.linked.now f.method.now f.numbers.now places after
      → HaveSeen f places seen → HaveSeen f after seen
  seen_on {places} {after} work risen have final pc more at =
      have final pc
      (risen_through f.linked.now work.sound.laws f.method.now f.numbers.now places after final risen more) at

  -- one of the handlers
  pub seen_by : {places : Places} (k : ℕ) (h : CheckedHandler) → slice_get f.method.now.handlers k ≡ Some h
      → HaveSeen f places seen → HasSeen f places seen h
  seen_by k h is have final pc risen at = all_at _ f.method.now.handlers k h is (have final pc risen at)

  -- all handlers have taken in the locals of a state
  pub seen_then : {before after : Places} {pc : ℕ} (t : Types) → HasTakenIn f (HandlesAll f pc t) before after
      → seen.at ≡ Some pc → seen.locals.items ≡ t.locals → HaveSeen f after seen
  seen_then {before} {after} {pc} t taken at locals final other risen is =
      let typing : Typing = held_at f.numbers.now final in
      let rules = package_rules f.linked.now in
      subst (λ n. HandlesAll f n (with_locals seen.locals.items) typing) (same_Some pc other (sym at ∙ is))
      (locals_alone rules typing pc t seen.locals.items locals f.method.now.handlers (taken.met final risen))

  -- a handler whose place holds the locals that differ has taken in all of them
  module _ {places : Places} (work : IsAtWork f places) (h : CheckedHandler) (range : LocalRange) (s : StateWithRoom)
      (room : HasRoom f.method.now s) (has : HasSeen f places seen h) (was : WasCovered seen h)
      (still : StillHolds f places h.goes_on range s.types.locals)
      (agree : length seen.locals.items ≡ length s.types.locals → AgreeOutside range seen.locals.items s.types.locals)
    where
      abbrev below_class : ClassName → ClassName → Bool
      below_class = is_class_below f.linked.now.world

      led : CatchLeads (package_rules f.linked.now) (held_at f.numbers.now places) (with_locals seen.locals.items) h
      led =
          let self = risen_self f.linked.now work.sound.laws f.method.now f.numbers.now places in
          has places was.pc self was.at was.covered

      -- what was taken in lies below what is held now
      was_below : types_below below_class (caught_types led.class (with_locals seen.locals.items)) still.held ≡ true
      was_below =
          let caught = caught_types led.class (with_locals seen.locals.items) in
          subst (λ (x : Types). types_below below_class caught x ≡ true)
          (same_Some led.leads.state still.held (sym led.leads.typed ∙ still.at)) led.leads.below

      shaped : HasShape f.method.now still.held
      shaped =
          let by =
          held_by f.linked.now work.sound.laws f.method.now f.numbers.now places h.goes_on still.held still.at in
          subst (HasShape f.method.now) by.types (work.shaped by.number by.place by.state by.stands by.held)

      as_many : length seen.locals.items ≡ length s.types.locals
      as_many =
          let lengths =
          below_lengths below_class (caught_types led.class (with_locals seen.locals.items)) still.held was_below in
          omega (arith, lengths.0, shaped.locals, room.locals)

      is_below : types_below below_class (caught_types led.class s.types) still.held ≡ true
      is_below =
          let parts = both (all_below below_class seen.locals.items still.held.locals) _ was_below in
          one_of_both _ _ (still.below seen.locals.items (agree as_many) parts.0) parts.1

      pub still_taken : (pc : ℕ) → HasTakenIn f (Handles f pc s.types h) places places
      still_taken pc = record {
        grown = grown_self f.linked.now work.sound.laws f.method.now f.numbers.now places;
        met = λ final risen covered. record {
          class = led.class;
          catches = led.catches;
          leads =
              leads_on f.linked.now work.sound.laws f.method.now f.numbers.now places final risen
              (caught_types led.class s.types) h.goes_on
              (record { state = still.held; typed = still.at; below = is_below });
        };
        least = λ typing under asks. under;
        work = work;
      }
