-- Why calls didn't end by themselves, on words.
use Rattle.std.proofs.Common.{◌≡◌, ℕ, Option, Some, None, option_map, sym, ap, ◌∙◌}
use Rattle.std.specs.Option.{option_and_then}
use Rattle.jc_firewall.specs.declared.access.Denial.{Denial}
use Rattle.jc_machine.specs.declared.stop.CodePoint.{CodePoint}
use Rattle.jc_machine.specs.declared.stop.DeniedAccess.{DeniedAccess}
use Rattle.jc_names.specs.declared.owner.Owner.{Owner}
use Rattle.jc_store.specs.Heap.{Object, object_at}
use Rattle.jc_store.specs.Store.{IsThere}
use Rattle.jc_store.specs.declared.kind.ObjectKind.{ObjectKind}
use Rattle.jc_words.specs.Values.{TaggedValue}
use Rattle.jc_card.specs.Card.{CardState}
use Rattle.jc_card.specs.Causes.{denial_in, denial_of, reason_of, thrown_cause, uncaught_cause}
use Rattle.jc_card.specs.Reads.{CardWords, Holds}
use Rattle.jc_card.specs.declared.cause.Cause.{Cause}
use Rattle.jc_card.specs.declared.cause.Cause.TheVariants.{Threw}
use Rattle.jc_card.proofs.Ends.{none_there, tagged}
use Rattle.jc_card.proofs.Thrown.{across}

-- ---- what was denied

module _ (k : CardWords) (c : CardState) (h : Holds k c) (denied : DeniedAccess) where
  abbrev owned_by : Owner → Option Denial
  owned_by owner = Some (record { access = denied.access; owner = owner; rule = denied.rule })

  abbrev denial : Option (Object TaggedValue) → Option Denial
  denial = option_map (denial_of denied)

  pub no_denial : object_at k.machine.store.objects denied.object ≡ None → None ≡ denial_in c.heap denied
  no_denial e = ap denial (sym (none_there k.machine.store.objects c.heap h.beside.heap denied.object e))

  pub its_denial : IsThere k.machine.store denied.object → (owner : Owner)
      → ((o : Object ℕ) → object_at k.machine.store.objects denied.object ≡ Some o → owner ≡ o.owner)
      → owned_by owner ≡ denial_in c.heap denied
  its_denial there owner owners =
      let p = tagged k.machine.store.objects c.heap h.beside.heap denied.object there.object there.is in
      let x = across k.machine.store.objects c.heap h.beside.heap denied.object p.0 p.1 in
      ap owned_by (owners x.object x.there ∙ (x.reads).owner) ∙ ap denial (sym p.1)

-- ---- what is thrown

module _ (k : CardWords) (c : CardState) (h : Holds k c) (number : ℕ) (at : Option CodePoint)
    (denied : Option DeniedAccess) where
  abbrev cause : Option (Object TaggedValue) → Option Cause
  cause = option_map (thrown_cause at (option_and_then (denial_in c.heap) denied))

  pub no_cause : object_at k.machine.store.objects number ≡ None → None ≡ uncaught_cause c.heap number at denied
  no_cause e = ap cause (sym (none_there k.machine.store.objects c.heap h.beside.heap number e))

  pub its_cause : IsThere k.machine.store number → (kind : ObjectKind)
      → ((o : Object ℕ) → object_at k.machine.store.objects number ≡ Some o → kind ≡ o.kind) → (reason : ℕ)
      → ((thrown : Object TaggedValue) → object_at c.heap number ≡ Some thrown → reason ≡ reason_of thrown)
      → (denial : Option Denial) → denial ≡ option_and_then (denial_in c.heap) denied
      → Some (Threw kind.object_type reason at denial) ≡ uncaught_cause c.heap number at denied
  its_cause there kind kinds reason reasons denial denial_is =
      let p = tagged k.machine.store.objects c.heap h.beside.heap number there.object there.is in
      let x = across k.machine.store.objects c.heap h.beside.heap number p.0 p.1 in
      let kind_is : kind ≡ (p.0).kind = kinds x.object x.there ∙ (x.reads).kind in
      ap (λ (q : ObjectKind). Some (Threw q.object_type reason at denial)) kind_is
      ∙ ap (λ (n : ℕ). Some (Threw ((p.0).kind).object_type n at denial)) (reasons p.0 p.1)
      ∙ ap (λ (d : Option Denial). Some (Threw ((p.0).kind).object_type (reason_of p.0) at d)) denial_is
      ∙ ap cause (sym p.1)
