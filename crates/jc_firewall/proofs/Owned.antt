-- What is a context's own, it may use.
use Rattle.std.proofs.Common.{◌≡◌, ℕ, Bool, true, false, ◌==◌, ◌&&◌, ◌||◌, not, Option, None, Some, refl, sym, ap, ◌∙◌, if◌then◌else◌}
use Rattle.std.proofs.lemmas.Bool.{eq-eqb, eqb-true}
use Rattle.std.specs.Option.{option_map_or}
use Rattle.jc_store.specs.declared.kind.ClearingEvent.{ClearingEvent}
use Rattle.jc_store.specs.declared.kind.ClearingEvent.TheVariants.{Reset, Deselect}
use Rattle.jc_firewall.specs.Own.{OwnIsAllowed}
use Rattle.jc_firewall.specs.Verdict.{AccessRow, allowed_if, is_deselect, is_entry_point, is_global_array}
use Rattle.jc_firewall.specs.Verdict.{is_never_stored, is_out_of_selection, is_own, row_of, runtime, runtime_context}
use Rattle.jc_firewall.specs.Verdict.{stores_reference, switched_if, verdict_for_runtime, verdict_in}
use Rattle.jc_firewall.specs.Verdict.AccessRow.{casts, components, fields, interface_calls, shared_calls, shared_casts}
use Rattle.jc_firewall.specs.Verdict.AccessRow.{static_fields, throws, virtual_calls}
use Rattle.jc_firewall.specs.declared.access.Facts.{Facts}
use Rattle.jc_firewall.specs.declared.access.Rule.TheVariants.{Storing, Components, Fields, Calls, SharedCalls, Throws, Casts, SharedCasts, Selection}
use Rattle.jc_firewall.specs.declared.access.Verdict.{Verdict}
use Rattle.jc_firewall.specs.declared.access.Verdict.TheVariants.{Allowed, Denied}

differ : (a b : ℕ) → (a ≡ b → ⊥) → (a == b) ≡ false
differ a b other = which (a == b) refl
  where
    which : (x : Bool) → (a == b) ≡ x → (a == b) ≡ false
    which true e = absurd (other (eqb-true a b e))
    which false e = e

-- what stays is never out of selection
stays_in : (clears : Option ClearingEvent) → (clears ≡ Some Deselect → ⊥)
    → option_map_or is_deselect clears false ≡ false
stays_in None stays = refl
stays_in (Some Reset) stays = refl
stays_in (Some Deselect) stays = absurd (stays refl)

selected : (active : ℕ) (f : Facts) → option_map_or is_deselect f.clears false ≡ false
    → is_out_of_selection active f ≡ false
selected active f stays = ap (λ b. b && not (option_map_or (λ selected. selected == active) f.selected false)) stays

in_row : (row : AccessRow) (active : ℕ) (f : Facts) → is_own active f ≡ true → is_out_of_selection active f ≡ false
    → verdict_in row active f ≡ Allowed
in_row static_fields active f own stays = refl
in_row fields active f own stays = ap (λ b. allowed_if b (Denied Fields)) own
in_row components active f own stays =
    ap (λ b. if b then Denied Selection
    else allowed_if (is_own active f || is_global_array f.mark) (Denied Components)) stays
    ∙ ap (λ b. allowed_if (b || is_global_array f.mark) (Denied Components)) own
in_row virtual_calls active f own stays =
    ap (λ b. allowed_if b (switched_if (is_entry_point f.mark || is_global_array f.mark) runtime (Denied Calls))) own
in_row interface_calls active f own stays =
    ap (λ b. allowed_if b (switched_if (is_entry_point f.mark) runtime (Denied Calls))) own
in_row shared_calls active f own stays =
    ap (λ b. allowed_if b
    (switched_if (is_entry_point f.mark) runtime (switched_if f.is_shareable f.owner (Denied SharedCalls)))) own
in_row throws active f own stays = ap (λ b. allowed_if (b || is_entry_point f.mark) (Denied Throws)) own
in_row casts active f own stays = ap (λ b. allowed_if (b || is_entry_point f.mark) (Denied Casts)) own
in_row shared_casts active f own stays =
    ap (λ b. allowed_if (b || is_entry_point f.mark || f.is_shareable) (Denied SharedCasts)) own

pub own_allowed : OwnIsAllowed
own_allowed s number active access f o =
    let own : is_own active f ≡ true =
    eq-eqb f.owner.context active (ap (λ owner. owner.context) o.owner ∙ o.own.owned) in
    let stays : is_out_of_selection active f ≡ false =
    selected active f (stays_in f.clears (λ e. o.own.stays (sym o.clears ∙ e))) in
    let row = row_of access f in
    let is_denied = stores_reference access && option_map_or is_never_stored f.stored false in
    let unless : Bool → Verdict = λ (b : Bool). if b then Denied Storing else verdict_in row active f in
    ap (λ b. if b then verdict_for_runtime row f else unless is_denied) (differ active runtime_context o.of_applet)
    ∙ ap unless o.storable
    ∙ in_row row active f own stays
