-- Instructions that move and compare references, cast them and throw them are safe.
use Rattle.std.proofs.Common.{◌≡◌, ℕ, ℤ, List, [], ◌∷◌, length, set, slice_get, arith, Bool, true, not, Option, nat_lt}
use Rattle.std.proofs.Common.{unwrap_or, refl, sym, ap, ◌∙◌, subst}
use Rattle.jc_api.specs.declared.class.ApiClass.TheVariants as api
use Rattle.jc_cap_desc.specs.Shape.{Shape}
use Rattle.jc_classes.specs.Members.{DeclaredMethod}
use Rattle.jc_code.specs.declared.object.ReferenceCondition.{ReferenceCondition}
use Rattle.jc_code.specs.declared.object.ReferenceCondition.TheVariants as Conditions
use Rattle.jc_firewall.specs.declared.access.Access.TheVariants.{Throw}
use Rattle.jc_names.specs.declared.name.ClassName.{ClassName}
use Rattle.jc_names.specs.declared.name.ClassName.TheVariants.{Api}
use Rattle.jc_effects.specs.Objects.{references_compared}
use Rattle.jc_effects.specs.Row.{meets}
use Rattle.jc_effects.specs.Words.{reads, takes, writes}
use Rattle.jc_effects.specs.declared.row.Demand.TheVariants.{Below, Reference}
use Rattle.jc_effects.specs.declared.row.Given.TheVariants.{Exactly, Nothing, OfLocal}
use Rattle.jc_store.specs.Heap.{Heap, object_at}
use Rattle.jc_store.specs.declared.kind.ObjectType.{ObjectType}
use Rattle.jc_types.specs.State.{Types}
use Rattle.jc_types.specs.declared.ty.Ty.{Ty}
use Rattle.jc_types.specs.declared.ty.Ty.TheVariants as types
use Rattle.jc_machine.specs.Going.{StepContext, accessed, branches, check, gives, goes_on, on_reference, on_reference_local, throws}
use Rattle.jc_machine.specs.Lookup.{is_throwable, leads_to}
use Rattle.jc_machine.specs.Machine.{Machine, Surroundings}
use Rattle.jc_machine.specs.Arrays.{is_there}
use Rattle.jc_machine.specs.Objects.{act_branch, act_throw, is_null, is_same, on_known}
use Rattle.jc_machine.specs.Typed.{IsOperand, IsTyped}
use Rattle.jc_words.specs.Values.{Null, Ref, TaggedValue, is_tagged_reference, is_written}
use Rattle.jc_safety.proofs.Goes.{placed, room_left, safe_gives, safe_on, throws_at}
use Rattle.jc_safety.proofs.Ground.{Ground}
use Rattle.jc_safety.proofs.Locals.{local_there, local_type, reads_local, stored}
use Rattle.jc_safety.proofs.Rows as rows
use Rattle.jc_safety.proofs.Safe.{IsSafe, safe_check, safe_some}
use Rattle.jc_safety.proofs.Taking.{Applied, any_object, meets_reference, take_one, take_two}
use Rattle.jc_safety.proofs.Writing.{ref_case}

-- a reference, or null; and it was written
pub leads_reference : (heap : Heap TaggedValue) (v : TaggedValue) → leads_to heap any_object v ≡ true
    → is_tagged_reference v ≡ true
leads_reference heap v h1 = grind arith

pub leads_written : (heap : Heap TaggedValue) (test : ObjectType → Bool) (v : TaggedValue) → leads_to heap test v ≡ true
    → is_written v ≡ true
leads_written heap test v h1 = grind arith

module _ {C : Type 0} (s : Surroundings C) (ground : Ground s) (m : Machine C) (t : IsTyped s m) (d : DeclaredMethod)
    (next : ℕ) where
  abbrev at : List TaggedValue → StepContext C
  at vs = rows.here s ground m t d next vs

  abbrev shapes : List Shape
  shapes = s.world.shapes

  abbrev most : ℕ
  most = rows.most s ground m t

  abbrev state : Types
  state = rows.state s ground m t

  abbrev below : ClassName → ClassName → Bool
  below = rows.below s ground m t

  abbrev LeadsTo : Types → ℕ → Type 0
  LeadsTo after pc = rows.LeadsTo s ground m t after pc

  abbrev BranchesTo : Types → ℤ → Type 0
  BranchesTo after offset = rows.BranchesTo s ground m t after offset

  -- ---- moves

  pub push_null : (after : Types) → Applied below most (takes [] (Exactly types.Null)) state after
      → LeadsTo after next → IsSafe s (gives (at m.top.operands) Null m.top.operands)
  push_null after a leads =
      rows.gives_it s ground m t d next [] m.top.operands m.top.operands Null types.Null after a
      (record { type = refl; written = refl }) t.top.operands_typed leads

  pub load : (local : ℕ) (after : Types) → Applied below most (reads local Reference [] OfLocal) state after
      → LeadsTo after next
      → IsSafe s (on_reference_local (slice_get m.top.locals local) (λ v. gives (at m.top.operands) v m.top.operands))
  load local after a leads =
      let l = local_there shapes m.heap m.top.locals state.locals local (placed s ground m t).locals_typed a.there in
      let r = reads_local shapes (rows.before s ground m t) most local Reference [] state after a in
      let is_type = local_type state.locals local l.type l.type_there in
      let met : meets below Reference l.type ≡ true = ap (meets below Reference) (sym is_type) ∙ a.local_met in
      let leads_any = meets_reference shapes (rows.before s ground m t) (rows.orders s ground m t) m.heap l.value l.type
      met l.has in
      let operand : IsOperand shapes m.heap l.value (unwrap_or (slice_get state.locals local) types.Top) =
      subst (λ (u : Ty). IsOperand shapes m.heap l.value u) (sym is_type)
      (record { type = l.has; written = leads_written m.heap any_object l.value leads_any }) in
      let P : Option TaggedValue → Type 0 =
      λ o. IsSafe s (on_reference_local o (λ v. gives (at m.top.operands) v m.top.operands)) in
      subst P (sym l.there)
      (safe_check s (is_tagged_reference l.value) _ (leads_reference m.heap l.value leads_any)
      (safe_gives s ground m t d most next m.top.operands after l.value m.top.operands
      (room_left shapes m.heap most 0 state.operands m.top.operands a.enough a.room t.top.operands_typed)
      (rows.locals_still s ground m t after.locals r.locals_are)
      (rows.held s ground m t (unwrap_or (slice_get state.locals local) types.Top ∷ state.operands) after.operands
      (l.value ∷ m.top.operands) r.operands_are (operand, t.top.operands_typed))
      leads))

  pub store : (local : ℕ) (after : Types) → Applied below most (writes local Reference) state after
      → LeadsTo after next
      → IsSafe s (on_reference m.top.operands (λ v vs. check (nat_lt local (length m.top.locals))
      (goes_on (at m.top.operands) (set m.top.locals local v) vs)))
  store local after a leads =
      let x = stored shapes (rows.before s ground m t) (rows.orders s ground m t) m.heap most local Reference
      m.top.locals state.locals after m.top.operands state.operands t.top.operands_typed
      (placed s ground m t).locals_typed a in
      let P : List TaggedValue → Type 0 =
      λ us. IsSafe s (on_reference us (λ v vs. check (nat_lt local (length m.top.locals))
      (goes_on (at m.top.operands) (set m.top.locals local v) vs))) in
      subst P (sym x.is)
      (safe_check s (is_tagged_reference x.value) _ (leads_reference m.heap x.value x.meets)
      (safe_check s (nat_lt local (length m.top.locals)) _ x.within
      (safe_on s ground m t d most next m.top.operands after (set m.top.locals local x.value) x.rest x.has x.holds
      leads)))

  -- ---- branches

  -- on one reference
  on_one : (taken : TaggedValue → Bool) (offset : ℤ) (after : Types)
      → Applied below most (takes (Reference ∷ []) Nothing) state after
      → BranchesTo after offset → LeadsTo after next
      → IsSafe s (on_known (at m.top.operands) m.top.operands (λ v vs.
      branches (at m.top.operands) (taken v) offset vs))
  on_one taken offset after a goes leads =
      take_one shapes m.heap
      (λ us. IsSafe s (on_known (at m.top.operands) us (λ v vs.
      branches (at m.top.operands) (taken v) offset vs))) Reference
      m.top.operands state.operands t.top.operands_typed a.enough
      (rows.met_by s ground m t (takes (Reference ∷ []) Nothing) after a)
      (λ v vs is rest.
      safe_check s (is_tagged_reference v) _ (leads_reference m.heap v is)
      (safe_check s (is_there (at m.top.operands) v) _ is
      (rows.branch_it s ground m t d next offset (Reference ∷ []) m.top.operands vs (taken v) after a rest goes leads)))

  on_both : (taken : TaggedValue → TaggedValue → Bool) (offset : ℤ) (after : Types)
      → Applied below most (takes (Reference ∷ Reference ∷ []) Nothing) state after
      → BranchesTo after offset → LeadsTo after next
      → IsSafe s (on_known (at m.top.operands) m.top.operands (λ w us.
      on_known (at m.top.operands) us (λ v vs. branches (at m.top.operands) (taken v w) offset vs)))
  on_both taken offset after a goes leads =
      take_two shapes m.heap
      (λ us. IsSafe s (on_known (at m.top.operands) us (λ w us.
      on_known (at m.top.operands) us (λ v vs. branches (at m.top.operands) (taken v w) offset vs)))) Reference Reference
      m.top.operands state.operands t.top.operands_typed a.enough
      (rows.met_by s ground m t (takes (Reference ∷ Reference ∷ []) Nothing) after a)
      (λ w v vs is one rest.
      safe_check s (is_tagged_reference w) _ (leads_reference m.heap w is)
      (safe_check s (is_there (at m.top.operands) w) _ is
      (safe_check s (is_tagged_reference v) _ (leads_reference m.heap v one)
      (safe_check s (is_there (at m.top.operands) v) _ one
      (rows.branch_it s ground m t d next offset (Reference ∷ Reference ∷ []) m.top.operands vs (taken v w) after a
      rest goes leads)))))

  pub branch : (when : ReferenceCondition) (offset : ℤ) (after : Types)
      → Applied below most (takes (references_compared when) Nothing) state after
      → BranchesTo after offset → LeadsTo after next → IsSafe s (act_branch (at m.top.operands) when offset)
  branch Conditions.Null offset after a goes leads = on_one is_null offset after a goes leads
  branch Conditions.NotNull offset after a goes leads = on_one (λ v. not (is_null v)) offset after a goes leads
  branch Conditions.Same offset after a goes leads = on_both is_same offset after a goes leads
  branch Conditions.Different offset after a goes leads = on_both (λ v w. not (is_same v w)) offset after a goes leads

  -- ---- exceptions

  pub throw : (after : Types)
      → Applied below most (takes (Below (types.Class (Api api.Throwable)) ∷ []) Nothing) state after
      → IsSafe s (act_throw (at m.top.operands))
  throw after a =
      take_one shapes m.heap (λ us. IsSafe s (act_throw (at us))) (Below (types.Class (Api api.Throwable)))
      m.top.operands state.operands t.top.operands_typed a.enough
      (rows.met_by s ground m t (takes (Below (types.Class (Api api.Throwable)) ∷ []) Nothing) after a)
      (λ u vs is rest.
      ref_case m.heap (is_throwable shapes) (λ x. IsSafe s (act_throw (at (x ∷ vs)))) u is.type
      (rows.safe_null s ground m t d next (Null ∷ vs))
      (λ n o found may.
      let us = Ref n ∷ vs in
      let thrown = throws (at us) n in
      safe_some s (object_at m.heap n) o _ found
      (safe_check s (is_throwable shapes o.kind.object_type) (accessed (at us) Throw n o thrown) may
      (rows.safe_accessed s ground m t d next us Throw n o thrown
      (record {
        fine = throws_at s ground m t (Ref n ∷ vs) n (record { object = o; found = found; throwable = may });
      })))))
