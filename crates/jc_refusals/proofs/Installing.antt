-- Of the refusals that apply to an install the one with the least number is told.
use Rattle.std.proofs.Common.{◌≡◌, ◌≤◌, ℕ, Bool, true, false, cond, List, [], length, Option, Some, None}
use Rattle.std.proofs.Common.{refl, sym, ap, ◌∙◌, subst, arith, nat_le, nat_lt}
use Rattle.std.specs.Option.{is_some, option_map, option_map_or}
use Rattle.std.proofs.lemmas.Bool.{le-leb, leb-true, lt-ltb, ltb-true}
use Rattle.std.proofs.lemmas.Option.{none-some}
use Rattle.jc_machine.specs.Machine.{Touch}
use Rattle.jc_machine.specs.Runtime.{install_array, most_instances}
use Rattle.jc_natives.specs.Kept.{instance_with, with_install}
use Rattle.jc_card.specs.Answering.{comes_at_once}
use Rattle.jc_card.specs.Card.{CardState, with_kept}
use Rattle.jc_card.specs.Commands.{deselect}
use Rattle.jc_card.specs.Install.{HasNumber, Installed, Refused, accepted, applet_of, begin, call_install, failure_of}
use Rattle.jc_card.specs.Install.{install_as, install_at, install_command, install_size, most_data, next_owner, padded}
use Rattle.jc_card.specs.Install.{parameters_of, refusal_of, refused_if, settle, succeeds}
use Rattle.jc_card.specs.Parts.{Ended, Left, and_then, behind, gives, write}
use Rattle.jc_card.specs.declared.fault.Failure.{Failure}
use Rattle.jc_card.specs.declared.fault.InstallFault.{InstallFault}
use Rattle.jc_card.specs.declared.fault.InstallFault.TheVariants.{AidInUse, InstallFailed, NoInstance, TooLong}
use Rattle.jc_card.specs.declared.fault.InstallFault.TheVariants.{UnknownApplet}
use Rattle.jc_refusals.specs.Installs.{AppliesToInstall, IsLeastOfInstall, IsRefusedAtOnce, install_number}
use Rattle.jc_refusals.specs.Installs.AppliesToInstall.{aid_in_use, no_instance, too_long, unknown_applet}

-- ---- three tests

abbrev tests : Bool → Bool → Bool → Option InstallFault
tests long used none_left =
    refused_if long TooLong (refused_if used AidInUse (refused_if none_left NoInstance None))

data OfTests (long used none_left : Bool) : InstallFault → Type 0 where
  by_length : long ≡ true → OfTests long used none_left TooLong
  by_aid : used ≡ true → OfTests long used none_left AidInUse
  by_numbers : none_left ≡ true → OfTests long used none_left NoInstance

record IsFirst (long used none_left : Bool) (fault : InstallFault) : Type 0 where
  applies : OfTests long used none_left fault
  least : (other : InstallFault) → OfTests long used none_left other → install_number fault ≤ install_number other
  at_once : comes_at_once fault ≡ true

from_length : (used none_left : Bool) (other : InstallFault) → OfTests true used none_left other
    → 21 ≤ install_number other
from_length used none_left _ (by_length e) = omega arith
from_length used none_left _ (by_aid e) = omega arith
from_length used none_left _ (by_numbers e) = omega arith

from_aid : (none_left : Bool) (other : InstallFault) → OfTests false true none_left other → 22 ≤ install_number other
from_aid none_left _ (by_length e) = absurd cc
from_aid none_left _ (by_aid e) = omega arith
from_aid none_left _ (by_numbers e) = omega arith

from_numbers : (other : InstallFault) → OfTests false false true other → 23 ≤ install_number other
from_numbers _ (by_length e) = absurd cc
from_numbers _ (by_aid e) = absurd cc
from_numbers _ (by_numbers e) = omega arith

none_of_tests : (other : InstallFault) → OfTests false false false other → ⊥
none_of_tests _ (by_length e) = absurd cc
none_of_tests _ (by_aid e) = absurd cc
none_of_tests _ (by_numbers e) = absurd cc

first_of_tests : (long used none_left : Bool) (fault : InstallFault) → tests long used none_left ≡ Some fault
    → IsFirst long used none_left fault
first_of_tests true used none_left fault e =
    let same : TooLong ≡ fault = cc in
    subst (IsFirst true used none_left) same
    (record { applies = by_length refl; least = from_length used none_left; at_once = refl })
first_of_tests false true none_left fault e =
    let same : AidInUse ≡ fault = cc in
    subst (IsFirst false true none_left) same
    (record { applies = by_aid refl; least = from_aid none_left; at_once = refl })
first_of_tests false false true fault e =
    let same : NoInstance ≡ fault = cc in
    subst (IsFirst false false true) same
    (record { applies = by_numbers refl; least = from_numbers; at_once = refl })
first_of_tests false false false fault e = absurd cc

some_of_tests : (long used none_left : Bool) (other : InstallFault) → OfTests long used none_left other
    → tests long used none_left ≡ None → ⊥
some_of_tests true used none_left other h e = absurd cc
some_of_tests false true none_left other h e = absurd cc
some_of_tests false false true other h e = absurd cc
some_of_tests false false false other h e = none_of_tests other h

-- ---- an install that isn't refused at once

-- a part isn't refused by one of these
record IsLate (found : Option (Left Installed)) : Type 0 where
  each : (l : Left Installed) (fault : InstallFault) → found ≡ Some l → l.value ≡ Refused fault
      → comes_at_once fault ≡ true → ⊥

late_map : (touches : List Touch) (ran : List ℕ) (found : Option (Left Installed)) → IsLate found
    → IsLate (option_map (behind touches ran) found)
late_map touches ran None h = record { each = λ l fault e is once. absurd cc }
late_map touches ran (Some m) h = record {
  each = λ l fault e is once. (
      let same : behind touches ran m ≡ l = cc in
      h.each m fault refl (ap (λ (x : Left Installed). x.value) same ∙ is) once);
}

late_behind : {A : Type 0} (found : Option (Left A)) (next : CardState → A → Option (Left Installed))
    → ((c : CardState) (x : A) → IsLate (next c x)) → IsLate (and_then found next)
late_behind None next h = record { each = λ l fault e is once. absurd cc }
late_behind (Some l) next h = late_map l.touches l.ran (next l.card l.value) (h l.card l.value)

late_value : (done : Bool) (number : ℕ) (failure : Failure) (fault : InstallFault)
    → cond done (HasNumber number) (Refused (InstallFailed failure)) ≡ Refused fault → comes_at_once fault ≡ true → ⊥
late_value true number failure fault e once = absurd cc
late_value false number failure fault e once =
    let same : InstallFailed failure ≡ fault = cc in
    let no = ap comes_at_once same ∙ once in
    absurd cc

late_end : (touches : List Touch) (ran : List ℕ) (after : CardState) (done : Bool) (number : ℕ) (failure : Failure)
    → IsLate (Some (record {
      touches = touches;
      ran = ran;
      card = after;
      value = cond done (HasNumber number) (Refused (InstallFailed failure));
    }))
late_end touches ran after done number failure = record {
  each = λ l fault e is once. (
      let same : record {
        touches = touches;
        ran = ran;
        card = after;
        value = cond done (HasNumber number) (Refused (InstallFailed failure));
      } ≡ l = cc in
      late_value done number failure fault (ap (λ (x : Left Installed). x.value) same ∙ is) once);
}

late_settle : (c : CardState) (owner : _) (ended : Ended) → IsLate (settle c owner ended)
late_settle c owner ended = late_end _ _ _ (succeeds c ended) owner.instance (failure_of c ended)

late_called : (c : CardState) (place : _) (owner : _) (size : ℕ)
    → IsLate (and_then (call_install c place owner size) (λ c ended. settle c owner ended))
late_called c place owner size =
    late_behind (call_install c place owner size) (λ c ended. settle c owner ended)
    (λ c ended. late_settle c owner ended)

late_begun : (c : CardState) (place : _) (owner : _) (applet instance incoming : List ℕ)
    → IsLate (install_as c place owner applet instance incoming)
late_begun c place owner applet instance incoming =
    let parameters = parameters_of instance incoming in
    late_behind
    (write install_array (padded install_size parameters) (with_kept c (with_install c.kept owner applet)))
    (λ c u. and_then (call_install c place owner (length parameters)) (λ c ended. settle c owner ended))
    (λ c u. late_called c place owner (length parameters))

late_accepted : (c : CardState) (place : _) (applet instance incoming : List ℕ)
    → IsLate (accepted c place applet instance incoming)
late_accepted c place applet instance incoming =
    late_behind (deselect c) (λ c u. begin c place applet instance incoming)
    (λ c u. late_begun c place (next_owner c place) applet instance incoming)

-- ---- an install

module _ (c : CardState) (applet instance incoming : List ℕ) where
  abbrev long : Bool
  long = nat_lt most_data (length incoming)

  abbrev used : Bool
  used = is_some (instance_with c.kept.instances instance)

  abbrev none_left : Bool
  none_left = nat_le most_instances c.kept.numbers

  abbrev Told : InstallFault → Type 0
  Told fault = AppliesToInstall c applet instance incoming fault

  told_by : (fault : InstallFault) → OfTests long used none_left fault → Told fault
  told_by _ (by_length e) = too_long (ltb-true most_data (length incoming) e)
  told_by _ (by_aid e) = aid_in_use e
  told_by _ (by_numbers e) = no_instance (leb-true most_instances c.kept.numbers e)

  -- of an applet that is there
  tested : (place : _) → applet_of c applet ≡ Some place → (other : InstallFault) → Told other
      → OfTests long used none_left other
  tested place there _ (unknown_applet none) = absurd (none-some place (sym none ∙ there))
  tested place there _ (too_long h) = by_length (lt-ltb most_data (length incoming) h)
  tested place there _ (aid_in_use e) = by_aid e
  tested place there _ (no_instance h) = by_numbers (le-leb most_instances c.kept.numbers h)

  from_unknown : (other : InstallFault) → Told other → 20 ≤ install_number other
  from_unknown _ (unknown_applet none) = omega arith
  from_unknown _ (too_long h) = omega arith
  from_unknown _ (aid_in_use e) = omega arith
  from_unknown _ (no_instance h) = omega arith

  module _ (l : Left Installed) (fault : InstallFault) (is : l.value ≡ Refused fault)
      (once : comes_at_once fault ≡ true) where
    abbrev Least : Type 0
    Least = IsLeastOfInstall c applet instance incoming fault

    its_value : (value : Installed) → gives c value ≡ Some l → value ≡ Refused fault
    its_value value e =
        let same : record { touches = []; ran = []; card = c; value = value } ≡ l = cc in
        ap (λ (x : Left Installed). x.value) same ∙ is

    its_fault : (g : InstallFault) → gives c (Refused g) ≡ Some l → g ≡ fault
    its_fault g e = let same = its_value (Refused g) e in cc

    of_place : (place : _) → applet_of c applet ≡ Some place → (found : Option InstallFault)
        → refusal_of c instance incoming ≡ found
        → option_map_or (λ fault. gives c (Refused fault)) found (accepted c place applet instance incoming) ≡ Some l
        → Least
    of_place place there None none e =
        let late = late_accepted c place applet instance incoming in absurd (late.each l fault e is once)
    of_place place there (Some g) found e =
        let first = first_of_tests long used none_left fault (found ∙ ap Some (its_fault g e)) in
        record {
          applies = told_by fault first.applies;
          least = λ other h. first.least other (tested place there other h);
        }

    of_applet : (found : Option _) → applet_of c applet ≡ found
        → option_map_or (install_at c applet instance incoming) found (gives c (Refused UnknownApplet)) ≡ Some l
        → Least
    of_applet None none e =
        let same = its_fault UnknownApplet e in
        subst (IsLeastOfInstall c applet instance incoming) same
        (record { applies = unknown_applet none; least = from_unknown })
    of_applet (Some place) there e = of_place place there (refusal_of c instance incoming) refl e

    pub told_is_least : install_command c applet instance incoming ≡ Some l → Least
    told_is_least e = of_applet (applet_of c applet) refl e

  module _ (fault : InstallFault) (applies : Told fault) where
    abbrev AtOnce : Type 0
    AtOnce = IsRefusedAtOnce c applet instance incoming

    tests_fail : (place : _) → applet_of c applet ≡ Some place → (found : Option InstallFault)
        → refusal_of c instance incoming ≡ found → AtOnce
    tests_fail place there None none =
        absurd (some_of_tests long used none_left fault (tested place there fault applies) none)
    tests_fail place there (Some g) found =
        let first = first_of_tests long used none_left g found in
        record {
          fault = g;
          at_once = first.at_once;
          refused =
              ap (λ o. option_map_or (install_at c applet instance incoming) o (gives c (Refused UnknownApplet))) there
              ∙ ap
              (λ o. option_map_or (λ fault. gives c (Refused fault)) o (accepted c place applet instance incoming))
              found;
        }

    at_applet : (found : Option _) → applet_of c applet ≡ found → AtOnce
    at_applet None none = record {
      fault = UnknownApplet;
      at_once = refl;
      refused =
          ap (λ o. option_map_or (install_at c applet instance incoming) o (gives c (Refused UnknownApplet))) none;
    }
    at_applet (Some place) there = tests_fail place there (refusal_of c instance incoming) refl

    pub is_refused : AtOnce
    is_refused = at_applet (applet_of c applet) refl
