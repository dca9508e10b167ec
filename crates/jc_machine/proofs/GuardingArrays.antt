-- Instructions on arrays keep the law of accesses.
use Rattle.std.proofs.Common.{[], length, slice_get, inr, refl, arith}
use Rattle.jc_code.specs.declared.object.Form.{Form}
use Rattle.jc_code.specs.declared.object.Form.TheVariants as Forms
use Rattle.jc_firewall.specs.declared.access.Access.TheVariants.{LoadComponent, StoreComponent, StoreReference}
use Rattle.jc_machine.specs.Arrays.{act_length, act_load, act_store, act_store_reference, act_store_word}
use Rattle.jc_machine.specs.Arrays.{is_array_of, is_in_bounds, is_there, stored_as}
use Rattle.jc_machine.specs.Going.{StepContext, asking, storing}
use Rattle.jc_machine.specs.Lookup.{component_class, is_instance, leads_to}
use Rattle.jc_machine.specs.Runtime.{array_index_exception, array_store_exception}
use Rattle.jc_words.specs.Values.{Word}
use Rattle.jc_machine.proofs.Guarding.{KeepsLaw, at_accessed, at_check, at_checked, at_object, at_reference}
use Rattle.jc_machine.proofs.Guarding.{at_require, at_some, at_stored, at_word, gives_still, loads_still}
use Rattle.jc_machine.proofs.StayingApart.{top_isnt_runtime}
use Rattle.jc_machine.proofs.Storing.{asked_held, held_as}
use Rattle.jc_machine.proofs.GuardingWrites.{stores}

pub load_keeps : {C : Type 0} (h : StepContext C) (form : Form) → KeepsLaw h.around h.machine [] (act_load h form)
load_keeps h form =
    at_word h.machine.top.operands _ (λ index us. at_reference us _ (λ array vs. at_object h array _ (λ number o there.
    at_check (is_array_of form o.kind.object_type) _ (at_accessed h LoadComponent number o there _ (λ fine.
    at_require h array_index_exception (is_in_bounds index o) _ (at_some (slice_get o.cells index) _ (λ v e.
    loads_still h form v vs)))))))

store_word_keeps : {C : Type 0} (h : StepContext C) (form : Form) → KeepsLaw h.around h.machine [] (act_store_word h form)
store_word_keeps h form =
    at_word h.machine.top.operands _ (λ n ts. at_word ts _ (λ index us. at_reference us _ (λ array vs.
    at_object h array _ (λ number o there. at_check (is_array_of form o.kind.object_type) _
    (at_accessed h StoreComponent number o there _ (λ fine.
    at_require h array_index_exception (is_in_bounds index o) _
    (stores h (asking StoreComponent number) o index (stored_as form (Word n)) vs there refl (inr refl) fine
    (λ keeps p. held_as h.machine.heap form (Word n) refl))))))))

store_reference_keeps : {C : Type 0} (h : StepContext C) → KeepsLaw h.around h.machine [] (act_store_reference h)
store_reference_keeps h =
    at_reference h.machine.top.operands _ (λ v ts. at_checked (is_there h v) _ (λ known. at_word ts _ (λ index us.
    at_reference us _ (λ array vs. at_object h array _ (λ number o there.
    at_some (component_class o.kind.object_type) _ (λ class e.
    at_stored h StoreReference number o there v _ (λ fine.
    at_require h array_index_exception (is_in_bounds index o) _
    (at_require h array_store_exception (leads_to h.machine.heap (is_instance h.around.world.shapes class) v) _
    (stores h (storing StoreReference number v) o index v vs there refl (inr refl) fine (λ keeps p.
    asked_held h StoreReference number v o (top_isnt_runtime keeps h.machine p.machine) refl known fine))))))))))

pub store_keeps : {C : Type 0} (h : StepContext C) (form : Form) → KeepsLaw h.around h.machine [] (act_store h form)
store_keeps h Forms.Reference = store_reference_keeps h
store_keeps h Forms.Byte = store_word_keeps h Forms.Byte
store_keeps h Forms.Short = store_word_keeps h Forms.Short

pub length_keeps : {C : Type 0} (h : StepContext C) → KeepsLaw h.around h.machine [] (act_length h)
length_keeps h = search (arith, at_reference, at_object, at_check, at_accessed, gives_still, length)
