-- No step sees the components of plain objects of a context that isn't active: each test that an instruction makes
-- steps alike on machines that differ there alone.
use Rattle.std.proofs.Common.{◌≡◌, ◌⊎◌, inl, inr, ℕ, ℤ, pos, negsuc, ◌==◌, ◌&&◌, Bool, true, false, List, [], ◌∷◌}
use Rattle.std.proofs.Common.{◌++◌, length, nat_lt, Option, Some, None, refl, sym, ap, ◌∙◌, subst, arith, eqb-true}
use Rattle.std.proofs.lemmas.Bool.{and_parts}
use Rattle.std.proofs.lemmas.Option.{same_Some}
use Rattle.std.specs.Option.{option_and_then, option_map_or}
use Rattle.jc_code.specs.Targets.{target_of}
use Rattle.jc_code.specs.declared.object.Form.{Form}
use Rattle.jc_firewall.specs.Verdict.{is_allowed, runtime_context, verdict_of}
use Rattle.jc_firewall.specs.declared.access.Access.{Access}
use Rattle.jc_firewall.specs.declared.access.Access.TheVariants.{Throw}
use Rattle.jc_firewall.specs.declared.access.Facts.{Facts}
use Rattle.jc_firewall.specs.declared.access.Verdict.{Verdict}
use Rattle.jc_firewall.specs.declared.access.Verdict.TheVariants.{Allowed, AllowedSwitch, Denied}
use Rattle.jc_link.specs.declared.target.PoolTarget.{PoolTarget}
use Rattle.jc_names.specs.declared.owner.Owner.{Owner}
use Rattle.jc_store.specs.Heap.{Heap, Object, object_at, with_cell, with_object}
use Rattle.jc_store.specs.declared.kind.Mark.{Mark}
use Rattle.jc_store.specs.declared.kind.Mark.TheVariants.{Plain}
use Rattle.jc_machine.specs.Arrays.{loaded_as, loads}
use Rattle.jc_machine.specs.Going.{StepContext, accessed, accessed_to_store, asking, branches, by_verdict, check, facts_in}
use Rattle.jc_machine.specs.Going.{facts_of, gives, goes_to, judged, jumps, leaves_operands, moved, on_object}
use Rattle.jc_machine.specs.Going.{on_reference, on_reference_local, on_some, on_target, on_top, on_word}
use Rattle.jc_machine.specs.Going.{on_word_local, require, stored_in, storing, stuck, throws, touch_of, touched}
use Rattle.jc_machine.specs.Going.{with_heap, with_machine, with_top}
use Rattle.jc_machine.specs.Lookup.{is_shared_interface, target_at}
use Rattle.jc_machine.specs.Machine.{Asked, Stepped, Touch}
use Rattle.jc_machine.specs.Runtime.{HasRuntimeObjects, null_pointer_exception, runtime_objects, security_exception}
use Rattle.jc_machine.specs.Unseen as unseen
use Rattle.jc_machine.specs.Unseen.{AreAlike, IsAlike, IsSeen, StepsAlike, is_hidden, is_plain, next, stuck_both}
use Rattle.jc_words.specs.Values.{Null, Ref, TaggedValue, Unset, Word, is_tagged_reference}
use Rattle.jc_machine.proofs.Guarding.{verdict_in}
use Rattle.jc_machine.proofs.GuardingWrites.{IsOwn, IsWritten, own_object, own_thrown}
use Rattle.jc_machine.proofs.AlikeLaws.{AlikeAt, as_cells, at_alike, cell_both, is_seen_in, own_seen, stored_mark}
use Rattle.jc_machine.proofs.AlikeLaws.{with_both, with_cells}

-- ---- tests that look at no object

pub both_stuck : {C : Type 0} {context : ℕ} → StepsAlike {C = C} context stuck stuck
both_stuck = record { touches = refl; outcome = stuck_both }

pub at_check : {C : Type 0} {context : ℕ} (b : Bool) (s t : Stepped C) → StepsAlike context s t
    → StepsAlike context (check b s) (check b t)
at_check true s t k = k
at_check false s t k = both_stuck

-- a test that is the same
pub at_same : {C : Type 0} {context : ℕ} (b c : Bool) (s t : Stepped C) → b ≡ c → StepsAlike context s t
    → StepsAlike context (check b s) (check c t)
at_same {context = context} b c s t e k =
    subst (λ (x : Bool). StepsAlike context (check b s) (check x t)) e (at_check b s t k)

pub at_some : {A C : Type 0} {context : ℕ} (o : Option A) (f g : A → Stepped C)
    → ((x : A) → StepsAlike context (f x) (g x)) → StepsAlike context (on_some o f) (on_some o g)
at_some None f g k = both_stuck
at_some (Some x) f g k = k x

pub at_top : {C : Type 0} {context : ℕ} (vs : List TaggedValue) (f g : TaggedValue → List TaggedValue → Stepped C)
    → ((v : TaggedValue) (rest : List TaggedValue) → StepsAlike context (f v rest) (g v rest))
    → StepsAlike context (on_top vs f) (on_top vs g)
at_top [] f g k = both_stuck
at_top (v ∷ vs) f g k = k v vs

pub at_word : {C : Type 0} {context : ℕ} (vs : List TaggedValue) (f g : ℕ → List TaggedValue → Stepped C)
    → ((n : ℕ) (rest : List TaggedValue) → StepsAlike context (f n rest) (g n rest))
    → StepsAlike context (on_word vs f) (on_word vs g)
at_word [] f g k = both_stuck
at_word (Word n ∷ vs) f g k = k n vs
at_word (Ref n ∷ vs) f g k = both_stuck
at_word (Null ∷ vs) f g k = both_stuck
at_word (Unset ∷ vs) f g k = both_stuck

pub at_reference : {C : Type 0} {context : ℕ} (vs : List TaggedValue)
    (f g : TaggedValue → List TaggedValue → Stepped C)
    → ((v : TaggedValue) (rest : List TaggedValue) → StepsAlike context (f v rest) (g v rest))
    → StepsAlike context (on_reference vs f) (on_reference vs g)
at_reference [] f g k = both_stuck
at_reference (v ∷ vs) f g k = at_check (is_tagged_reference v) (f v vs) (g v vs) (k v vs)

pub at_word_local : {C : Type 0} {context : ℕ} (v : Option TaggedValue) (f g : ℕ → Stepped C)
    → ((n : ℕ) → StepsAlike context (f n) (g n)) → StepsAlike context (on_word_local v f) (on_word_local v g)
at_word_local None f g k = both_stuck
at_word_local (Some (Word n)) f g k = k n
at_word_local (Some (Ref n)) f g k = both_stuck
at_word_local (Some Null) f g k = both_stuck
at_word_local (Some Unset) f g k = both_stuck

pub at_reference_local : {C : Type 0} {context : ℕ} (v : Option TaggedValue) (f g : TaggedValue → Stepped C)
    → ((v : TaggedValue) → StepsAlike context (f v) (g v))
    → StepsAlike context (on_reference_local v f) (on_reference_local v g)
at_reference_local None f g k = both_stuck
at_reference_local (Some v) f g k = at_check (is_tagged_reference v) (f v) (g v) (k v)

pub behind : {C : Type 0} {context : ℕ} (ts : List Touch) (s t : Stepped C) → StepsAlike context s t
    → StepsAlike context (touched ts s) (touched ts t)
behind ts s t k = record { touches = ap (λ (us : List Touch). ts ++ us) k.touches; outcome = k.outcome }

-- ---- a plain object of a context is used in that context alone, or by the runtime

unhidden : (context active : ℕ) (f : Facts) → (f.mark ≡ Plain → IsOwn active f)
    → (active ≡ runtime_context → ⊥) → (active ≡ context → ⊥)
    → (f.owner.context == context && is_plain f.mark) ≡ false
unhidden context active f own applet other =
    by_test (f.owner.context == context && is_plain f.mark) refl
  where
    plain_of : (m : Mark) → is_plain m ≡ true → m ≡ Plain
    plain_of m e = grind arith

    by_owner : (f.owner.context == context) ≡ true → (active ≡ f.owner.context) ⊎ (active ≡ runtime_context) → ⊥
    by_owner e (inl same) = other (same ∙ eqb-true f.owner.context context e)
    by_owner e (inr same) = applet same

    by_test : (b : Bool) → (f.owner.context == context && is_plain f.mark) ≡ b
        → (f.owner.context == context && is_plain f.mark) ≡ false
    by_test false e = e
    by_test true e =
        let parts = and_parts (f.owner.context == context) (is_plain f.mark) e in
        absurd (by_owner parts.0 (own (plain_of f.mark parts.1)))

-- ---- two places with other objects

abbrev pub at_heap : {C : Type 0} → StepContext C → Heap TaggedValue → StepContext C
at_heap h heap = with_machine h (with_heap h.machine heap)

module _ {C : Type 0} (context : ℕ) (h : StepContext C) (H K : Heap TaggedValue) (alike : AreAlike context H K) where
  abbrev one : StepContext C
  one = at_heap h H

  abbrev two : StepContext C
  two = at_heap h K

  pub throws_both : (object : ℕ) → IsSeen context H object → StepsAlike context (throws one object) (throws two object)
  throws_both object seen =
      record { touches = refl; outcome = unseen.throws (with_heap h.machine H) K object alike seen }

  pub goes_both : (pc : ℕ) (locals operands : List TaggedValue)
      → StepsAlike context (goes_to one pc locals operands) (goes_to two pc locals operands)
  goes_both pc locals operands = record {
    touches = refl;
    outcome = next (with_top (with_heap h.machine H) (moved h.machine.top pc locals operands)) K alike;
  }

  pub leaves_both : (operands : List TaggedValue)
      → StepsAlike context (leaves_operands one operands) (leaves_operands two operands)
  leaves_both operands = goes_both h.next_pc h.machine.top.locals operands

  jumps_both : (to : ℤ) (operands : List TaggedValue) → StepsAlike context (jumps one to operands)
      (jumps two to operands)
  jumps_both (pos pc) operands = goes_both pc h.machine.top.locals operands
  jumps_both (negsuc n) operands = both_stuck

  pub branches_both : (taken : Bool) (offset : ℤ) (vs : List TaggedValue)
      → StepsAlike context (branches one taken offset vs) (branches two taken offset vs)
  branches_both true offset vs = jumps_both (target_of h.machine.top.pc offset) vs
  branches_both false offset vs = leaves_both vs

  pub gives_both : (v : TaggedValue) (operands : List TaggedValue)
      → StepsAlike context (gives one v operands) (gives two v operands)
  gives_both v operands = at_check (nat_lt (length operands) h.max_stack) _ _ (leaves_both (v ∷ operands))

  pub loads_both : (form : Form) (held : TaggedValue) (operands : List TaggedValue)
      → StepsAlike context (loads one form held operands) (loads two form held operands)
  loads_both form held operands = at_some (loaded_as form held) _ _ (λ v. gives_both v operands)

  -- an object that is known, of which all but the components is the same
  pub at_known : (n : ℕ) (f g : Object TaggedValue → Stepped C)
      → ((o : Object TaggedValue) (cells : List TaggedValue) → object_at H n ≡ Some o
      → IsAlike context o (with_cells o cells) → StepsAlike context (f o) (g (with_cells o cells)))
      → StepsAlike context (on_some (object_at H n) f) (on_some (object_at K n) g)
  at_known n f g k = by_objects (object_at H n) (object_at K n) refl (at_alike context H K alike n)
    where
      by_objects : (x y : Option (Object TaggedValue)) → object_at H n ≡ x → AlikeAt context x y
          → StepsAlike context (on_some x f) (on_some y g)
      by_objects None None e a = both_stuck
      by_objects (Some o) (Some p) e a =
          let is = as_cells context o p a in
          subst (λ (q : Object TaggedValue). StepsAlike context (f o) (g q)) (sym is)
          (k o p.cells e (subst (IsAlike context o) is a))
      by_objects None (Some p) e a = absurd a
      by_objects (Some o) None e a = absurd a

-- tests that throw objects of the runtime's
module _ {C : Type 0} (context : ℕ) (h : StepContext C) (H K : Heap TaggedValue) (alike : AreAlike context H K)
    (own : HasRuntimeObjects H) where
  abbrev first : StepContext C
  first = at_heap h H

  abbrev second : StepContext C
  second = at_heap h K

  pub throws_own : (exception : ℕ) → is_seen_in runtime_objects exception ≡ true
      → StepsAlike context (throws first exception) (throws second exception)
  throws_own exception e =
      throws_both context h H K alike exception (own_seen context H runtime_objects exception own e)

  pub at_require : (exception : ℕ) → is_seen_in runtime_objects exception ≡ true → (b : Bool) (s t : Stepped C)
      → StepsAlike context s t → StepsAlike context (require first exception b s) (require second exception b t)
  at_require exception e true s t k = k
  at_require exception e false s t k = throws_own exception e

  pub at_same_require : (exception : ℕ) → is_seen_in runtime_objects exception ≡ true → (b c : Bool) (s t : Stepped C)
      → b ≡ c → StepsAlike context s t → StepsAlike context (require first exception b s) (require second exception c t)
  at_same_require exception e b c s t f k =
      subst (λ (x : Bool). StepsAlike context (require first exception b s) (require second exception x t)) f
      (at_require exception e b s t k)

  pub at_object : (v : TaggedValue) (f g : ℕ → Object TaggedValue → Stepped C)
      → ((n : ℕ) (o : Object TaggedValue) (cells : List TaggedValue) → IsAlike context o (with_cells o cells)
      → StepsAlike context (f n o) (g n (with_cells o cells)))
      → StepsAlike context (on_object first v f) (on_object second v g)
  at_object (Word n) f g k = both_stuck
  at_object (Ref n) f g k = at_known context h H K alike n (f n) (g n) (λ o cells e. k n o cells)
  at_object Null f g k = throws_own null_pointer_exception refl
  at_object Unset f g k = both_stuck

  -- ---- the firewall

  same_facts : (asked : Asked) (o : Object TaggedValue) (cells : List TaggedValue)
      → facts_of first asked o ≡ facts_of second asked (with_cells o cells)
  same_facts asked o cells =
      ap (λ (m : Option Mark). facts_in h.around.world.shapes h.around.selected o m
      (option_map_or (is_shared_interface h.around.world.shapes) asked.wanted false))
      (stored_mark context H K alike asked.stored)

  -- a verdict that is the same
  at_verdict : (asked : Asked) (v : Verdict) (f g : Option Owner → Stepped C)
      → (is_allowed v ≡ true → (switch : Option Owner) → StepsAlike context (f switch) (g switch))
      → StepsAlike context (by_verdict first asked v f) (by_verdict second asked v g)
  at_verdict asked Allowed f g k = behind (touch_of h asked Allowed ∷ []) (f None) (g None) (k refl None)
  at_verdict asked (AllowedSwitch owner) f g k =
      behind (touch_of h asked (AllowedSwitch owner) ∷ []) (f (Some owner)) (g (Some owner)) (k refl (Some owner))
  at_verdict asked (Denied rule) f g k =
      behind (touch_of h asked (Denied rule) ∷ []) (throws first security_exception) (throws second security_exception)
      (throws_own security_exception refl)

  pub at_judged : (asked : Asked) (o : Object TaggedValue) (cells : List TaggedValue) (f g : Option Owner → Stepped C)
      → (is_allowed (verdict_in first asked o) ≡ true → (switch : Option Owner)
      → StepsAlike context (f switch) (g switch))
      → StepsAlike context (judged first asked o f) (judged second asked (with_cells o cells) g)
  at_judged asked o cells f g k =
      subst (λ (v : Verdict). StepsAlike context (judged first asked o f) (by_verdict second asked v g))
      (ap (verdict_of asked.access h.machine.top.active.context) (same_facts asked o cells))
      (at_verdict asked (verdict_in first asked o) f g k)

  pub at_accessed : (access : Access) (n : ℕ) (o : Object TaggedValue) (cells : List TaggedValue) (s t : Stepped C)
      → StepsAlike context s t → StepsAlike context (accessed first access n o s)
      (accessed second access n (with_cells o cells) t)
  at_accessed access n o cells s t k = at_judged (asking access n) o cells (λ switch. s) (λ switch. t)
      (λ fine switch. k)

  pub at_stored : (access : Access) (n : ℕ) (o : Object TaggedValue) (cells : List TaggedValue) (v : TaggedValue)
      (s t : Stepped C) → StepsAlike context s t
      → StepsAlike context (accessed_to_store first access n o v s)
      (accessed_to_store second access n (with_cells o cells) v t)
  at_stored access n o cells v s t k =
      at_judged (storing access n v) o cells (λ switch. s) (λ switch. t) (λ fine switch. k)

  -- one that reads in a context that isn't hidden: its object is the same
  pub at_read : (h.machine.top.active.context ≡ runtime_context → ⊥) → (h.machine.top.active.context ≡ context → ⊥)
      → (access : Access) (n : ℕ) (o : Object TaggedValue) (cells : List TaggedValue)
      → IsWritten access (facts_of first (asking access n) o) → IsAlike context o (with_cells o cells)
      → (f g : Object TaggedValue → Stepped C) → StepsAlike context (f o) (g o)
      → StepsAlike context (accessed first access n o (f o))
      (accessed second access n (with_cells o cells) (g (with_cells o cells)))
  at_read applet other access n o cells written a f g k =
      at_judged (asking access n) o cells (λ switch. f o) (λ switch. g (with_cells o cells)) (λ fine switch.
      subst (λ (cs : List TaggedValue). StepsAlike context (f o) (g (with_cells o cs)))
      (a.seen (unhidden context h.machine.top.active.context (facts_of first (asking access n) o)
      (own_object access h.machine.top.active.context (facts_of first (asking access n) o) written fine) applet other))
      k)

  -- an object that is thrown in a context that isn't hidden isn't hidden
  pub at_thrown : (h.machine.top.active.context ≡ runtime_context → ⊥)
      → (h.machine.top.active.context ≡ context → ⊥) → (n : ℕ) (o : Object TaggedValue) (cells : List TaggedValue)
      → object_at H n ≡ Some o
      → StepsAlike context (accessed first Throw n o (throws first n))
      (accessed second Throw n (with_cells o cells) (throws second n))
  at_thrown applet other n o cells found =
      at_judged (asking Throw n) o cells (λ switch. throws first n) (λ switch. throws second n) (λ fine switch.
      throws_both context h H K alike n (λ p e.
      subst (λ (q : Object TaggedValue). is_hidden context q ≡ false) (same_Some o p (sym found ∙ e))
      (unhidden context h.machine.top.active.context (facts_of first (asking Throw n) o)
      (own_thrown h.machine.top.active.context (facts_of first (asking Throw n) o) fine) applet other)))

-- ---- what is stored

pub stored_both : {C : Type 0} (context : ℕ) (h : StepContext C) (H K : Heap TaggedValue) → AreAlike context H K → (n : ℕ)
    (o : Object TaggedValue) (cells : List TaggedValue) (index : ℕ) (v : TaggedValue) (vs : List TaggedValue)
    → IsAlike context o (with_cells o cells)
    → StepsAlike context (leaves_operands (stored_in (at_heap h H) n o index v) vs)
    (leaves_operands (stored_in (at_heap h K) n (with_cells o cells) index v) vs)
stored_both context h H K alike n o cells index v vs a =
    leaves_both context h (with_object H n (with_cell o index v))
    (with_object K n (with_cell (with_cells o cells) index v))
    (with_both context H K alike n (with_cell o index v) (with_cell (with_cells o cells) index v)
    (cell_both context o (with_cells o cells) a index v)) vs

pub at_target : {A C : Type 0} (context : ℕ) (h : StepContext C) (H K : Heap TaggedValue) (index : ℕ)
    (wanted : PoolTarget → Option A) (f g : A → Stepped C) → ((x : A) → StepsAlike context (f x) (g x))
    → StepsAlike context (on_target (at_heap h H) index wanted f) (on_target (at_heap h K) index wanted g)
at_target context h H K index wanted f g k =
    at_some (option_and_then wanted (target_at h.around.world h.machine.top.method.number index)) f g k
