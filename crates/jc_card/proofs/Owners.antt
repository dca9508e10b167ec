-- Whose an instance is, which number it has, and that the runtime's arrays aren't plain.
use Rattle.std.proofs.Common.{◌≡◌, ℕ, Bool, true, false, cond, List, [], Option, Some, None, IfSome, ◌∷◌, suc, ◌≢◌}
use Rattle.std.proofs.Common.{nat_le, ◌==◌, arith, eqb-true}
use Rattle.std.specs.Option.{option_and_then, option_map_or}
use Rattle.jc_names.specs.declared.owner.Owner.{Owner}
use Rattle.jc_machine.specs.Runtime.{apdu_buffer, install_array, most_instances}
use Rattle.jc_natives.specs.declared.kept.Instance.{Instance}
use Rattle.jc_store.specs.Heap.{Object, object_at}
use Rattle.jc_store.specs.declared.kind.ClearingEvent.TheVariants as events
use Rattle.jc_words.specs.Values.{TaggedValue}
use Rattle.jc_card.specs.Card.{CardState, with_selected}
use Rattle.jc_card.specs.Commands as commands
use Rattle.jc_card.specs.Install as installs
use Rattle.jc_card.specs.Parts.{Left, and_then, clear, gives}
use Rattle.jc_card.specs.declared.fault.InstallFault.{InstallFault}
use Rattle.jc_card.specs.declared.places.AppletPlace.{AppletPlace}
use Rattle.std.proofs.lemmas.Bool.{and_from, and_parts, le-leb, leb-false, ne_eqb}
use Rattle.std.proofs.lemmas.Option.{same_Some}
use Rattle.std.specs.List.{find, list_all}
use Rattle.jc_cap.specs.declared.applets.Applet.{Applet}
use Rattle.jc_link.specs.Linked.{LinkedBody}
use Rattle.jc_machine.specs.Apart.{is_applets}
use Rattle.jc_natives.specs.Apart.{names_applets}
use Rattle.jc_natives.specs.Kept.{Kept, instance_of, is_instance_number, is_same_owner}
use Rattle.jc_store.specs.declared.kind.Mark.TheVariants.{Plain}
use Rattle.jc_card.specs.Accesses.{IsApartCard}

-- ---- whose an instance is

found_passes : {A : Type 0} (test wanted : A → Bool) (xs : List A) (x : A) → list_all test xs ≡ true
    → find wanted xs ≡ Some x → test x ≡ true
found_passes test wanted [] x all e = absurd cc
found_passes {A} test wanted (y ∷ xs) x all e =
    let parts = and_parts (test y) (list_all test xs) all in
    by_first (wanted y) parts.0 (found_passes test wanted xs x parts.1) e
  where
    by_first : (b : Bool) → test y ≡ true → (find wanted xs ≡ Some x → test x ≡ true)
        → cond b (Some y) (find wanted xs) ≡ Some x → test x ≡ true
    by_first b h1 h2 h3 = grind (arith, same_Some)

pub selected_owner : (k : Kept) (selected : Option Owner) (i : Instance) → names_applets k ≡ true
    → option_and_then (instance_of k.instances) selected ≡ Some i → is_applets i.owner ≡ true
selected_owner k selected i h1 h2 = grind (arith, found_passes, and_parts)

-- the selected instance is that of the owner that is selected
found_is : {A : Type 0} (wanted : A → Bool) (xs : List A) (x : A) → find wanted xs ≡ Some x → wanted x ≡ true
found_is wanted [] x e = absurd cc
found_is {A} wanted (y ∷ xs) x e = grind (arith, same_Some, found_is wanted xs x)

same_owner : (a b : Owner) → is_same_owner a b ≡ true → a ≡ b
same_owner a b e = grind (arith, and_parts, eqb-true)

pub selected_is : (k : Kept) (selected : Option Owner) (i : Instance)
    → option_and_then (instance_of k.instances) selected ≡ Some i → selected ≡ Some i.owner
selected_is k selected i h1 = grind (arith, same_owner, found_is)

-- ---- the runtime's arrays aren't plain

pub buffer_is_global : (c : CardState) → IsApartCard c → (o : Object TaggedValue)
    → object_at c.heap apdu_buffer ≡ Some o
    → o.kind.mark ≢ Plain
buffer_is_global c p o e plain = grind (arith, same_Some)

pub install_is_global : (c : CardState) → IsApartCard c → (o : Object TaggedValue)
    → object_at c.heap install_array ≡ Some o → o.kind.mark ≢ Plain
install_is_global c p o e plain = grind (arith, same_Some)

-- ---- numbers

-- a package with applets has a number from one on
pub place_has_number : (before : ℕ) (bodies : List LinkedBody) (aid : List ℕ) (place : AppletPlace)
    → installs.applet_from (suc before) bodies aid ≡ Some place → (place.number == 0) ≡ false
place_has_number before [] aid place e = absurd cc
place_has_number before (body ∷ bodies) aid place e =
    by_row (installs.applet_in aid body) (place_has_number (suc before) bodies aid place) e
  where
    by_row : (row : Option Applet)
        → (installs.applet_from (suc (suc before)) bodies aid ≡ Some place → (place.number == 0) ≡ false)
        → option_map_or (λ (a : Applet). Some (record { number = suc before; install = a.install })) row
        (installs.applet_from (suc (suc before)) bodies aid) ≡ Some place → (place.number == 0) ≡ false
    by_row row h1 h2 = grind (arith, same_Some, ne_eqb)

pub next_number_fits : (numbers : ℕ) → nat_le most_instances numbers ≡ false → is_instance_number (suc numbers) ≡ true
next_number_fits numbers e = grind (arith, leb-false, and_from, nat_le, le-leb)

none_refused : (condition : Bool) (fault : InstallFault) (otherwise : Option InstallFault)
    → installs.refused_if condition fault otherwise ≡ None → (condition ≡ false) × (otherwise ≡ None)
none_refused condition fault otherwise h1 = grind arith

pub not_refused_few : (c : CardState) (instance incoming : List ℕ) → installs.refusal_of c instance incoming ≡ None
    → nat_le most_instances c.kept.numbers ≡ false
not_refused_few c instance incoming e = grind (arith, nat_le, none_refused)

-- ---- behind a deselection no one is selected

abbrev NoneSelected : {A : Type 0} → Option (Left A) → Type 0
NoneSelected done = IfSome done (λ l. l.card.selected ≡ None)

none_unselected : (c : CardState) (selected : Option Owner) → c.selected ≡ selected → NoneSelected (option_map_or
    (λ (owner : Owner). clear events.Deselect (Some owner.context) (with_selected c None)) selected (gives c tt))
none_unselected c selected h1 = grind arith

none_behind : {A B : Type 0} (done : Option (Left A)) (next : CardState → A → Option (Left B))
    → ((c : CardState) (value : A) → NoneSelected (next c value)) → NoneSelected (and_then done next)
none_behind done next h1 = grind arith

pub deselect_selects_none : (c : CardState) → NoneSelected (commands.deselect c)
deselect_selects_none c = grind (arith, none_behind, none_unselected)
