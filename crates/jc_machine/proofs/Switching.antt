-- To whom a call switches: to the owner of its object, or to the runtime where the object isn't plain. So no method of
-- a package runs as the runtime, whose objects have none.
use Rattle.std.proofs.Common.{◌≡◌, ◌≢◌, ◌⊎◌, inl, inr, ℕ, Bool, true, false, not, cond, List, Option, arith}
use Rattle.std.proofs.Common.{Some, None, refl, sym, ap, ◌∙◌, subst, eqb-true, slice_get, unwrap_or}
use Rattle.std.proofs.lemmas.Bool.{both_ways}
use Rattle.std.proofs.lemmas.Option.{none-some, same_Some}
use Rattle.std.specs.Option.{option_and_then, option_map}
use Rattle.jc_api.specs.Member.{ApiMember, member_of}
use Rattle.jc_api.specs.Token.{is_same_class}
use Rattle.jc_api.specs.declared.class.ApiClass.{ApiClass}
use Rattle.jc_api.specs.declared.class.ApiClass.TheVariants as tables
use Rattle.jc_cap_desc.specs.Shape.{Shape}
use Rattle.jc_classes.specs.Methods.{interface_method_of, public_method_of, virtual_method_of}
use Rattle.jc_classes.specs.Walk.{found}
use Rattle.jc_firewall.specs.Verdict.{AccessRow, runtime, runtime_context, verdict_in, verdict_of}
use Rattle.jc_firewall.specs.declared.access.Access.{Access}
use Rattle.jc_firewall.specs.declared.access.Facts.{Facts}
use Rattle.jc_firewall.specs.declared.access.Verdict.{Verdict}
use Rattle.jc_firewall.specs.declared.access.Verdict.TheVariants.{Allowed, AllowedSwitch, Denied}
use Rattle.jc_names.specs.declared.name.ClassName.{ClassName}
use Rattle.jc_names.specs.declared.name.ClassName.TheVariants as classes
use Rattle.jc_names.specs.declared.name.MethodName.{MethodName}
use Rattle.jc_names.specs.declared.owner.Owner.{Owner}
use Rattle.jc_store.specs.Heap.{Heap, Object, object_at}
use Rattle.jc_store.specs.declared.kind.Mark.{Mark}
use Rattle.jc_store.specs.declared.kind.Mark.TheVariants.{Plain}
use Rattle.jc_store.specs.declared.kind.ObjectType.{ObjectType}
use Rattle.jc_machine.specs.Apart.{HaveApiMembers, IsSetApart, has_no_code, is_applets, is_member}
use Rattle.jc_machine.specs.Calls.{VirtualMember, virtual_member, virtual_member_in}
use Rattle.jc_machine.specs.Lookup.{class_of, is_of_class}
use Rattle.jc_machine.specs.Machine.{Callback}
use Rattle.jc_machine.specs.Natives.{shareable_member}
use Rattle.jc_words.specs.Values.{TaggedValue}
use Rattle.jc_machine.proofs.StayingApart.{applets_not, applets_or}

-- ---- the firewall's verdict

-- the owner that becomes active
abbrev pub switched_by : Verdict → Option Owner
switched_by Allowed = None
switched_by (AllowedSwitch owner) = Some owner
switched_by (Denied rule) = None

-- the object's, or the runtime for one that isn't plain
abbrev IsSwitch : Facts → Owner → Type 0
IsSwitch f owner = (owner ≡ f.owner) ⊎ (f.mark ≢ Plain)

abbrev Switches : Facts → Verdict → Type 0
Switches f v = (owner : Owner) → switched_by v ≡ Some owner → IsSwitch f owner

stays_on : (f : Facts) (v : Verdict) → switched_by v ≡ None → Switches f v
stays_on f v e owner g = absurd (none-some owner (sym e ∙ g))

either : (f : Facts) (b : Bool) (v w : Verdict) → (b ≡ true → Switches f v) → Switches f w → Switches f (cond b v w)
either f b v w h1 h2 = grind arith

allowed_or : (f : Facts) (b : Bool) (w : Verdict) → Switches f w → Switches f (cond b Allowed w)
allowed_or f b w k = either f b Allowed w (λ e. stays_on f Allowed refl) k

-- who isn't plain
not_plain : (f : Facts) (test : Mark → Bool) → test Plain ≡ false → test f.mark ≡ true → f.mark ≢ Plain
not_plain f test fails h e = both_ways (test f.mark) (ap test e ∙ fails) h

to_runtime : (f : Facts) → f.mark ≢ Plain → Switches f (AllowedSwitch runtime)
to_runtime f h owner e = inr h

to_owner : (f : Facts) → Switches f (AllowedSwitch f.owner)
to_owner f owner e = inl (same_Some owner f.owner (sym e))

by_row : (r : AccessRow) (active : ℕ) (f : Facts) → Switches f (verdict_in r active f)
by_row r active f = grind (arith, stays_on, allowed_or, either, to_runtime, not_plain, to_owner)

-- of an access that isn't in the runtime's name
by_verdict : (access : Access) (active : ℕ) (f : Facts) → (active ≡ runtime_context → ⊥)
    → Switches f (verdict_of access active f)
by_verdict access active f applets = grind (arith, either, eqb-true, stays_on, by_row)

-- ---- objects without code

-- their methods are members of the API
pub no_loaded : (world : List Shape) → HaveApiMembers world → (t : ObjectType) → has_no_code t ≡ true
    → (token asker : ℕ) (name : MethodName) → virtual_method_of world (class_of t) token asker ≡ Some name
    → is_member name ≡ true
no_loaded world h1 t h2 token asker name h3 = grind arith

-- and they are no applets
not_object : is_same_class tables.Object tables.Applet ≡ true → ⊥
not_object e = both_ways (is_same_class tables.Object tables.Applet) refl e

no_applet : (world : List Shape) → HaveApiMembers world → (t : ObjectType) → has_no_code t ≡ true
    → is_of_class world (classes.Api tables.Applet) t ≡ true → ⊥
no_applet world h1 t h2 h3 = grind (arith, both_ways, not, not_object)

-- ---- methods that are found

-- a method of an object's class that isn't a member
pub found_has_code : (world : List Shape) → HaveApiMembers world → (t : ObjectType) (token asker : ℕ)
    (name : MethodName) → virtual_method_of world (class_of t) token asker ≡ Some name → is_member name ≡ false
    → has_no_code t ≡ true → ⊥
found_has_code world api t token asker name e loaded h = grind (arith, both_ways, no_loaded)

-- what an interface's token leads to is a virtual method
record IsVirtual (world : List Shape) (c : ClassName) (name : MethodName) : Type 0 where
  token : ℕ
  found : virtual_method_of world c token 0 ≡ Some name

if_public : (world : List Shape) (c : ClassName) (token : ℕ) (name : MethodName) (b : Bool)
    → cond b (virtual_method_of world c token 0) None ≡ Some name → IsVirtual world c name
if_public world c token name b h1 = grind (arith, none-some)

of_index : (world : List Shape) (c : ClassName) (name : MethodName) (index : Option ℕ)
    → option_and_then (public_method_of world c) index ≡ Some name → IsVirtual world c name
of_index world c name index h1 = grind (arith, none-some, if_public)

of_indexes : (world : List Shape) (c : ClassName) (token : ℕ) (name : MethodName) (indexes : Option (List ℕ))
    → option_and_then (λ xs. option_and_then (public_method_of world c) (slice_get xs token)) indexes ≡ Some name
    → IsVirtual world c name
of_indexes world c token name indexes h1 = grind (arith, none-some, of_index)

pub listed_has_code : (world : List Shape) → HaveApiMembers world → (t : ObjectType) (interface : ClassName)
    (token : ℕ) (name : MethodName) → interface_method_of world (class_of t) interface token ≡ Some name
    → is_member name ≡ false → has_no_code t ≡ true → ⊥
listed_has_code world api t interface token name e loaded h = grind (arith, of_indexes, found_has_code)

-- ---- who runs

-- the owner of an object with code
owner_with_code : (heap : Heap TaggedValue) → IsSetApart heap → (number : ℕ) (o : Object TaggedValue)
    → object_at heap number ≡ Some o → (has_no_code o.kind.object_type ≡ true → ⊥) → is_applets o.owner ≡ true
owner_with_code heap apart number o there code = grind (arith, applets_or)

-- where a call switches to one that becomes active, of a method that a package has, that one is an applet's
pub switched_runs : (heap : Heap TaggedValue) → IsSetApart heap → (number : ℕ) (o : Object TaggedValue)
    → object_at heap number ≡ Some o → (has_no_code o.kind.object_type ≡ true → ⊥) → (active : Owner)
    → is_applets active ≡ true → (access : Access) (f : Facts) → f.owner ≡ o.owner → f.mark ≡ o.kind.mark
    → (switch : Option Owner) → switch ≡ switched_by (verdict_of access active.context f)
    → is_applets (unwrap_or switch active) ≡ true
switched_runs heap apart number o there code active applets access f whose mark None by = applets
switched_runs heap apart number o there code active applets access f whose mark (Some owner) by =
    elim (by_verdict access active.context f (applets_not active applets) owner (sym by)) [
      | inl same ↦ subst (λ (x : Owner). is_applets x ≡ true) (sym (same ∙ whose))
          (owner_with_code heap apart number o there code)
      | inr marked ↦ absurd (code (apart.others number o there
          (apart.marked number o there (λ plain. marked (mark ∙ plain)))).codeless)
    ]

-- ---- calls by native members

-- a virtual member's class is the one that its number has
record IsOfMember (member : ℕ) (class : ClassName) : Type 0 where
  declared : ApiMember
  found : member_of member ≡ Some declared
  is : class ≡ classes.Api declared.class

of_token : (member : ℕ) (m : ApiMember) → member_of member ≡ Some m → (v : VirtualMember) (token : Option ℕ)
    → option_map (λ t. record { class = classes.Api m.class; token = t }) token ≡ Some v
    → IsOfMember member v.class
of_token member m h1 v token h2 = grind (arith, none-some, same_Some)

of_declared : (world : List Shape) (member : ℕ) (v : VirtualMember) (m : Option ApiMember) → member_of member ≡ m
    → option_and_then (λ (x : ApiMember). virtual_member_in world (classes.Api x.class) member) m ≡ Some v
    → IsOfMember member v.class
of_declared world member v m h1 h2 = grind (arith, none-some, of_token)

-- the member that others call is Applet's
of_applet : (number : ℕ) → number ≡ shareable_member → (m : ApiMember) → member_of number ≡ Some m
    → m.class ≡ tables.Applet
of_applet number is m found = grind arith

-- so the object of such a call has an applet's owner
pub called_runs : (world : List Shape) → HaveApiMembers world → (heap : Heap TaggedValue) → IsSetApart heap
    → (callback : Callback) → callback.member ≡ shareable_member → (o : Object TaggedValue)
    → object_at heap callback.object ≡ Some o → (v : VirtualMember) → virtual_member world callback.member ≡ Some v
    → is_of_class world v.class o.kind.object_type ≡ true → is_applets o.owner ≡ true
called_runs world api heap apart callback asks o there v e below =
    let m : IsOfMember callback.member v.class =
    of_declared world callback.member v (member_of callback.member) refl e in
    owner_with_code heap apart callback.object o there (λ h.
    no_applet world api o.kind.object_type h
    (subst (λ (c : ClassName). is_of_class world c o.kind.object_type ≡ true)
    (m.is ∙ ap (λ (c : ApiClass). classes.Api c) (of_applet callback.member asks m.declared m.found)) below))
