-- A call of the runtime's on a typed card isn't stuck, and leaves a typed card: of a method that can begin, and of a
-- member of Applet on the object of an instance that fits.
use Rattle.std.proofs.Common.{◌≡◌, ℕ, List, [], ◌∷◌, true, false, Option, Some, is_some, refl, sym, arith}
use Rattle.std.proofs.Common.{ap, ◌∙◌, subst}
use Rattle.std.proofs.lemmas.Bool.{and_parts}
use Rattle.std.specs.Option.{option_and_then, option_map, option_map_or}
use Rattle.jc_api.specs.Member.{ApiMember, member_of}
use Rattle.jc_api.specs.declared.class.ApiClass.{ApiClass}
use Rattle.jc_api.specs.declared.class.ApiClass.TheVariants.{Apdu, Applet}
use Rattle.jc_api.specs.declared.member.MemberKind.TheVariants.{Virtual}
use Rattle.jc_base.specs.declared.declared_type.DeclaredType.{DeclaredType}
use Rattle.jc_base.specs.declared.declared_type.DeclaredType.TheVariants.{Reference}
use Rattle.jc_cap_desc.specs.Shape.{Shape}
use Rattle.jc_classes.specs.Subtype.{is_class_below}
use Rattle.jc_machine.specs.Lookup.{are_of_types, is_of_class, is_of_type}
use Rattle.jc_machine.specs.Machine.{Surroundings}
use Rattle.jc_machine.specs.Running.{MayRun}
use Rattle.jc_machine.specs.Runtime.{HasRuntimeObject, apdu_object, temporary}
use Rattle.jc_machine.specs.Step.{CallEnd, Called, Gave, RanOut, Start, Threw, WasStuck, no_frame, runtime_call}
use Rattle.jc_machine.specs.Step.{standing}
use Rattle.jc_machine.specs.Typed.{IsTypedBeside}
use Rattle.jc_names.specs.declared.name.ClassName.TheVariants.{Api}
use Rattle.jc_names.specs.declared.name.ClassName.{ClassName}
use Rattle.jc_names.specs.declared.name.MethodName.{MethodName}
use Rattle.jc_names.specs.declared.name.MethodName.TheVariants.{Loaded}
use Rattle.jc_names.specs.declared.owner.Owner.{Owner}
use Rattle.jc_natives.specs.Kept.{Kept}
use Rattle.jc_natives.specs.Meaning.{fits_instance}
use Rattle.jc_natives.specs.MemberTypes.{declared_signature}
use Rattle.jc_natives.specs.declared.kept.Instance.{Instance}
use Rattle.jc_safety.specs.Safety.{EndsTyped}
use Rattle.jc_safety.specs.Starting.{CanBegin, FindsMethod, IsMemberCall, IsTypedStart, method_for}
use Rattle.jc_store.specs.Heap.{Heap, Object, object_at}
use Rattle.jc_words.specs.Values.{Ref, TaggedValue}
use Rattle.jc_card.proofs.TypedCards.{left_typed}
use Rattle.jc_card.specs.Card.{CardState, around}
use Rattle.jc_card.specs.Parts.{arguments_of, call_applet, call_method, call_on, ended_call, member_called, start_on}
use Rattle.jc_card.specs.PrivateTyped.{CallLaws, Laws}
use Rattle.jc_card.specs.Typed.{GivesTyped, IsTypedCard}
use Rattle.jc_card.specs.declared.calls.AppletCall.{AppletCall}
use Rattle.jc_card.specs.declared.calls.AppletCall.TheVariants.{Select, Deselect, Process}

-- ---- calls of methods

ended_typed : (c : CardState) → IsTypedCard c → (selected : Option ℕ) (called : Called Kept)
    (e : CallEnd Kept) → EndsTyped (around c selected) e → GivesTyped (ended_call c called e)
ended_typed c t selected called (Gave m value) e = left_typed c t selected m e.beside
ended_typed c t selected called (Threw m object at denied) e = left_typed c t selected m e
ended_typed c t selected called (RanOut m spent at) e = left_typed c t selected m e
ended_typed c t selected touches WasStuck e = absurd e

module _ (laws : CallLaws) (c : CardState) (t : IsTypedCard c) (selected : ℕ) (owner : Owner) (method : MethodName)
    (arguments : List TaggedValue) where
  abbrev call_around : Surroundings Kept
  call_around = around c (Some selected)

  abbrev call_start : Start Kept
  call_start = start_on c owner method arguments

  pub may_run : MayRun call_around
  may_run = record { accepted = t.accepted; natives = laws.lawful }

  pub beside : IsTypedBeside call_around (standing call_start (no_frame owner))
  beside = grind arith

  module _ (can_begin : CanBegin call_around call_start method) where
    pub typed_start : IsTypedStart call_around call_start
    typed_start = record { beside = beside; can_begin = can_begin }

    abbrev ran : Called Kept
    ran = runtime_call call_around c.steps call_start

    pub ends_typed : EndsTyped call_around ran.ends
    ends_typed = laws.calls call_around may_run c.steps call_start typed_start

    pub method_typed : GivesTyped (call_method c selected owner method arguments)
    method_typed = ended_typed c t (Some selected) ran ran.ends ends_typed

-- ---- the object of an instance that fits

pub record HasObject (shapes : List Shape) (heap : Heap TaggedValue) (i : Instance) : Type 0 where
  pub object : Object TaggedValue
  pub there : object_at heap i.object ≡ Some object
  pub applet : is_of_class shapes (Api Applet) object.kind.object_type ≡ true

pub its_object : (shapes : List Shape) (heap : Heap TaggedValue) (i : Instance) → fits_instance shapes heap i ≡ true
    → HasObject shapes heap i
its_object shapes heap i e = grind (arith, and_parts)

-- ---- the members

some_of : {A : Type 0} (o : Option A) → is_some o ≡ true → (a : A) × (o ≡ Some a)
some_of o h1 = grind arith

the_some : {A : Type 0} (x y : A) → Some x ≡ Some y → x ≡ y
the_some x y e = cc

-- a virtual member of Applet, which takes this
pub record IsOfApplet (number : ℕ) (parameters : List (DeclaredType ClassName)) : Type 0 where
  pub member : ApiMember
  pub is : member_of number ≡ Some member
  pub virtual : member.kind ≡ Virtual
  pub class : member.class ≡ Applet
  pub takes : (declared_signature member).parameters ≡ parameters

abbrev parameters_of : AppletCall → List (DeclaredType ClassName)
parameters_of Select = []
parameters_of Deselect = []
parameters_of Process = Reference (Api Apdu) ∷ []

of_number : (number : ℕ) (parameters : List (DeclaredType ClassName)) → is_some (member_of number) ≡ true
    → option_map (λ (m : ApiMember). m.kind) (member_of number) ≡ Some Virtual
    → option_map (λ (m : ApiMember). m.class) (member_of number) ≡ Some Applet
    → option_map (λ (m : ApiMember). (declared_signature m).parameters) (member_of number) ≡ Some parameters
    → IsOfApplet number parameters
of_number number parameters there kind class takes = grind (arith, some_of, the_some)

of_applet : (call : AppletCall) → IsOfApplet (member_called call) (parameters_of call)
of_applet call = grind (arith, of_number)

-- ---- calls of applets

module _ (laws : Laws) (c : CardState) (t : IsTypedCard c) (i : Instance) (call : AppletCall)
    (fits : fits_instance c.world.shapes c.heap i ≡ true) where
  abbrev s : Surroundings Kept
  s = around c (Some i.owner.context)

  abbrev arguments : List TaggedValue
  arguments = Ref i.object ∷ arguments_of call

  abbrev start : MethodName → Start Kept
  start name = start_on c i.owner name arguments

  abbrev pub its : HasObject c.world.shapes c.heap i
  its = its_object c.world.shapes c.heap i fits

  -- the APDU object is of class APDU
  apdu_there : HasRuntimeObject c.heap (temporary apdu_object Apdu 0)
  apdu_there = t.beside.runtime_objects.1.1.1.1.1.1.1.1.1.1.0

  reflexive : (d : ClassName) → is_class_below c.world.shapes d d ≡ true
  reflexive d = grind arith

  apdu_fits : is_of_type c.world.shapes c.heap (Reference (Api Apdu)) (Ref apdu_object) ≡ true
  apdu_fits =
      ap (λ (o : Option (Object TaggedValue)). option_map_or (λ (x : Object TaggedValue). is_of_class c.world.shapes
      (Api Apdu) x.kind.object_type) o false) apdu_there.found
      ∙ ap (is_of_class c.world.shapes (Api Apdu)) apdu_there.type
      ∙ reflexive (Api Apdu)

  arguments_fit : (call : AppletCall)
      → are_of_types c.world.shapes c.heap (parameters_of call) (arguments_of call) ≡ true
  arguments_fit call = grind (arith, apdu_fits)

  member_call : (name : MethodName) → IsMemberCall s (start name) (member_called call) its.object
  member_call name =
      let m = of_applet call in record {
        of = m.member;
        of_is = m.is;
        virtual = m.virtual;
        number = i.object;
        there = its.there;
        below =
            subst (λ (class : ApiClass). is_of_class c.world.shapes (Api class) (its.object).kind.object_type ≡ true)
            (sym m.class) its.applet;
        arguments = arguments_of call;
        arguments_are = refl;
        signature = declared_signature m.member;
        declared = laws.declared c.world.shapes t.accepted.world.built (member_called call) m.member m.is;
        fit =
            subst (λ (ts : List (DeclaredType ClassName)). are_of_types c.world.shapes c.heap ts (arguments_of call)
            ≡ true) (sym m.takes) (arguments_fit call);
      }

  pub finds : (name : MethodName) → FindsMethod s (start name) (member_called call) its.object
  finds name = grind (arith, may_run, beside, member_call)

  -- any name does to find the method
  abbrev pub name : MethodName
  name = (finds (Loaded 0 0)).name

  pub found : method_for c.world.shapes its.object (member_called call) ≡ Some name
  found = (finds (Loaded 0 0)).found

  pub can_begin : CanBegin s (start name) name
  can_begin =
      let f = finds name in
      subst (CanBegin s (start name)) (the_some f.name name (sym f.found ∙ found)) f.can_begin

  pub applet_typed : GivesTyped (call_applet c i call)
  applet_typed =
      subst (λ (o : Option (Object TaggedValue)). GivesTyped (option_and_then (call_on c i call) o)) (sym its.there)
      (subst (λ (o : Option MethodName). GivesTyped (option_and_then (λ method. call_method c i.owner.context i.owner
      method arguments) o)) (sym found)
      (method_typed laws.call c t i.owner.context i.owner name arguments can_begin))
