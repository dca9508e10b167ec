-- Calls keep the law of accesses, where native members keep theirs.
use Rattle.std.proofs.Common.{◌≡◌, ℕ, true, false, List, [], length, take, drop, reverse, Option, arith}
use Rattle.std.proofs.Common.{Some, None, refl}
use Rattle.jc_base.specs.Signature.{Signature}
use Rattle.jc_classes.specs.Methods.{interface_method_of}
use Rattle.jc_code.specs.declared.object.Invocation.{Invocation}
use Rattle.jc_code.specs.declared.object.Invocation.TheVariants.{Virtual, Special, Static, Interface}
use Rattle.jc_firewall.specs.declared.access.Access.TheVariants.{InvokeInterface, InvokeVirtual}
use Rattle.jc_names.specs.Names.{home_at}
use Rattle.jc_names.specs.declared.name.ClassName.{ClassName}
use Rattle.jc_names.specs.declared.name.MethodName.{MethodName}
use Rattle.jc_names.specs.declared.name.MethodName.TheVariants.{Api, Loaded}
use Rattle.jc_names.specs.declared.owner.Owner.{Owner}
use Rattle.jc_effects.specs.Objects.{class_target}
use Rattle.jc_store.specs.Heap.{Object, object_at}
use Rattle.jc_machine.specs.Apart.{HaveApiMembers, has_no_code, is_member}
use Rattle.jc_machine.specs.Calls.{MethodTarget, VirtualTarget, act_call, act_interface, act_of_interface, act_special}
use Rattle.jc_machine.specs.Calls.{act_static_call, act_virtual, active_in, found_for, has_interface, invokes}
use Rattle.jc_machine.specs.Calls.{special_target, static_target, virtual_target, with_arguments, with_receiver}
use Rattle.jc_machine.specs.Going.{StepContext, asking, facts_of, wanting}
use Rattle.jc_machine.specs.Lookup.{class_of, is_of_class}
use Rattle.jc_machine.specs.Machine.{Asked, Stepped, Touch}
use Rattle.jc_machine.specs.Natives.{AreNativesGuarded}
use Rattle.jc_machine.specs.Runtime.{class_cast_exception}
use Rattle.jc_words.specs.Values.{TaggedValue}
use Rattle.jc_machine.proofs.Guarding.{KeepsLaw, at_check, at_judged, at_object, at_reference, at_require, at_some}
use Rattle.jc_machine.proofs.Guarding.{at_target, verdict_in}
use Rattle.jc_machine.proofs.StayingApart.{RunsApplets, top_is_applets, top_runs}
use Rattle.jc_machine.proofs.Switching.{found_has_code, listed_has_code, switched_by, switched_runs}
use Rattle.jc_machine.proofs.GuardingNatives.{enters_keeps, native_keeps}

-- ---- a method that was found

invokes_keeps : {C : Type 0} {before : List Touch} (h : StepContext C) → AreNativesGuarded h.around.natives
    → (switch : Option Owner) (method : MethodName) (arguments operands : List TaggedValue)
    → (is_member method ≡ false → RunsApplets h.around h.machine (active_in h.machine.top switch))
    → KeepsLaw h.around h.machine before (invokes h switch method arguments operands)
invokes_keeps h natives switch (Loaded number offset) arguments operands runs =
    enters_keeps h switch (record { number = number; offset = offset }) arguments operands (runs refl)
invokes_keeps h natives switch (Api member) arguments operands runs = native_keeps h natives member arguments operands

-- a call that doesn't switch
unswitched_keeps : {C : Type 0} {before : List Touch} (h : StepContext C) → AreNativesGuarded h.around.natives
    → (method : MethodName) (arguments operands : List TaggedValue)
    → KeepsLaw h.around h.machine before (invokes h None method arguments operands)
unswitched_keeps h natives method arguments operands = search (arith, invokes_keeps, top_runs)

-- one that may: what was found for an object, if a package has it, is no method of the runtime's objects
switched_keeps : {C : Type 0} {before : List Touch} (h : StepContext C) → AreNativesGuarded h.around.natives
    → (asked : Asked) (o : Object TaggedValue) → object_at h.machine.heap asked.object ≡ Some o
    → (switch : Option Owner) → switch ≡ switched_by (verdict_in h asked o) → (method : MethodName)
    → (HaveApiMembers h.around.world.shapes → is_member method ≡ false → has_no_code o.kind.object_type ≡ true → ⊥)
    → (arguments operands : List TaggedValue)
    → KeepsLaw h.around h.machine before (invokes h switch method arguments operands)
switched_keeps h natives asked o there switch by method code arguments operands =
    invokes_keeps h natives switch method arguments operands (λ loaded keeps p.
    switched_runs h.machine.heap p.machine.objects asked.object o there (code p.members loaded) h.machine.top.active
    (top_is_applets keeps h.machine p.machine) asked.access (facts_of h asked o) refl refl switch by)

-- ---- instructions

at_arguments : {C : Type 0} {before : List Touch} (h : StepContext C) (signature : Signature ClassName)
    (go : List TaggedValue → List TaggedValue → Stepped C)
    → ((arguments operands : List TaggedValue) → KeepsLaw h.around h.machine before (go arguments operands))
    → KeepsLaw h.around h.machine before (with_arguments h signature go)
at_arguments h signature go k = search (arith, at_check, reverse, take, length, drop)

at_receiver : {C : Type 0} {before : List Touch} (h : StepContext C) (signature : Signature ClassName)
    (go : List TaggedValue → ℕ → Object TaggedValue → List TaggedValue → Stepped C)
    → ((arguments : List TaggedValue) (number : ℕ) (o : Object TaggedValue) (operands : List TaggedValue)
    → object_at h.machine.heap number ≡ Some o → KeepsLaw h.around h.machine before (go arguments number o operands))
    → KeepsLaw h.around h.machine before (with_receiver h signature go)
at_receiver h signature go k = search (arith, at_arguments, at_reference, at_object)

virtual_keeps : {C : Type 0} (h : StepContext C) → AreNativesGuarded h.around.natives → (target : VirtualTarget)
    → KeepsLaw h.around h.machine [] (act_virtual h target)
virtual_keeps h natives target =
    at_receiver h target.signature _ (λ arguments number o operands there.
    at_check (is_of_class h.around.world.shapes target.class o.kind.object_type) _
    (at_judged h (asking InvokeVirtual number) o there _ (λ fine switch by.
    at_some (found_for h target.token o) _ (λ method e.
    switched_keeps h natives (asking InvokeVirtual number) o there switch by method
    (λ api. found_has_code h.around.world.shapes api o.kind.object_type target.token
    (home_at h.machine.top.method.number) method e) arguments operands))))

special_keeps : {C : Type 0} (h : StepContext C) → AreNativesGuarded h.around.natives → (target : MethodTarget)
    → KeepsLaw h.around h.machine [] (act_special h target)
special_keeps h natives target = search (arith, at_receiver, at_check, unswitched_keeps)

static_call_keeps : {C : Type 0} (h : StepContext C) → AreNativesGuarded h.around.natives → (target : MethodTarget)
    → KeepsLaw h.around h.machine [] (act_static_call h target)
static_call_keeps h natives target = search (arith, at_arguments, unswitched_keeps)

of_interface_keeps : {C : Type 0} (h : StepContext C) → AreNativesGuarded h.around.natives → (interface : ClassName)
    (token : ℕ) (signature : Signature ClassName)
    → KeepsLaw h.around h.machine [] (act_of_interface h interface token signature)
of_interface_keeps h natives interface token signature =
    at_receiver h signature _ (λ arguments number o operands there.
    at_judged h (wanting InvokeInterface number (Some interface)) o there _
    (λ fine switch by.
    at_require h class_cast_exception (has_interface h.around.world.shapes interface o) _
    (at_some (interface_method_of h.around.world.shapes (class_of o.kind.object_type) interface token) _ (λ method e.
    switched_keeps h natives (wanting InvokeInterface number (Some interface)) o there switch by method
    (λ api. listed_has_code h.around.world.shapes api o.kind.object_type interface token method e) arguments operands))))

interface_keeps : {C : Type 0} (h : StepContext C) → AreNativesGuarded h.around.natives → (count token : ℕ)
    (interface : ClassName) → KeepsLaw h.around h.machine [] (act_interface h count token interface)
interface_keeps h natives count token interface = search (arith, at_some, at_check, length, of_interface_keeps)

pub call_keeps : {C : Type 0} (h : StepContext C) → AreNativesGuarded h.around.natives → (invocation : Invocation)
    → KeepsLaw h.around h.machine [] (act_call h invocation)
call_keeps h natives (Virtual index) = at_target h index virtual_target (act_virtual h) (virtual_keeps h natives)
call_keeps h natives (Special index) = at_target h index special_target (act_special h) (special_keeps h natives)
call_keeps h natives (Static index) =
    at_target h index static_target (act_static_call h) (static_call_keeps h natives)
call_keeps h natives (Interface count index token) =
    at_target h index class_target (act_interface h count token) (interface_keeps h natives count token)
