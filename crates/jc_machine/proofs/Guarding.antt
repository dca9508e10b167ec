-- The law of accesses, of a part of a step: each test that an instruction makes keeps it. What is apart stays so too.
use Rattle.std.proofs.Common.{◌≡◌, ℕ, Bool, true, false, not, List, [], ◌∷◌, ◌++◌, Option, Some, None, refl, sym, ap}
use Rattle.std.proofs.Common.{arith}
use Rattle.std.proofs.Common.{◌∙◌, subst, append-nil, append_assoc, length, nat_lt, ℤ, pos, negsuc}
use Rattle.std.proofs.lemmas.Option.{none-some, same_Some}
use Rattle.std.specs.List.{AllByRecursion}
use Rattle.jc_code.specs.Targets.{target_of}
use Rattle.jc_code.specs.declared.object.Form.{Form}
use Rattle.jc_firewall.specs.Verdict.{is_allowed, verdict_of}
use Rattle.jc_firewall.specs.declared.access.Access.{Access}
use Rattle.jc_firewall.specs.declared.access.Verdict.{Verdict}
use Rattle.jc_firewall.specs.declared.access.Verdict.TheVariants.{Allowed, AllowedSwitch, Denied}
use Rattle.jc_link.specs.declared.target.PoolTarget.{PoolTarget}
use Rattle.jc_store.specs.Heap.{Heap, Object, object_at}
use Rattle.jc_names.specs.declared.owner.Owner.{Owner}
use Rattle.jc_machine.specs.Apart.{SparesPlain, IsApart}
use Rattle.jc_machine.specs.Arrays.{loaded_as, loads}
use Rattle.jc_machine.specs.Going.{StepContext, accessed, accessed_to_store, asking, branches, by_verdict, check, facts_of}
use Rattle.jc_machine.specs.Going.{gives, goes_on, goes_to, judged, jumps, leaves_operands, on_object, on_operands}
use Rattle.jc_machine.specs.Going.{on_reference, on_reference_local, on_some, on_target, on_top, on_word, on_word_local}
use Rattle.jc_machine.specs.Going.{plain, pushed, require, storing, stuck, throws, touch_of, touched}
use Rattle.jc_machine.specs.Guarded.{AreGuarded, AreMade, IsJudged, KeepsStatics, allowed, are_allowed, as_they_were}
use Rattle.jc_machine.specs.Guarded.{by_frame, denied, one_written, machine_of, setting_of}
use Rattle.jc_machine.specs.Machine.{Asked, Machine, Next, Outcome, Stepped, Surroundings, Throws, Touch}
use Rattle.jc_machine.specs.Runtime.{security_exception}
use Rattle.jc_words.specs.Values.{Null, Ref, TaggedValue, Unset, Word, is_tagged_reference}
use Rattle.jc_machine.proofs.StayingApart.{IsApartIn, IsApartPart, IsKeptIn, LeadsApart, is_apart_itself}
use Rattle.jc_machine.proofs.StayingApart.{moved_apart, own_spares}
use Rattle.jc_machine.proofs.Switching.{switched_by}
use Rattle.jc_machine.proofs.GuardingHeaps.{KeepsHeap, all_joined, changes_first, guarded_behind, nothing_changes}

-- ---- a part of a step

-- behind these accesses, a part of a step that began in this machine keeps the law
pub record KeepsLaw {C : Type 0} (around : Surroundings C) (m : Machine C) (before : List Touch) (s : Stepped C)
    : Type 0 where
  pub made : AllByRecursion (IsJudged (setting_of around m)) before → AreMade around m (before ++ s.touches)
  pub accesses : AreGuarded s.touches (s.outcome ≡ Throws m security_exception)
  pub changes : (after : Machine C) → machine_of s.outcome ≡ Some after
      → KeepsHeap m.top.active (before ++ s.touches) m.heap after.heap
  -- what is apart stays so
  pub apart : (keeps : C → Bool) → IsApartIn keeps around m → IsApartPart keeps m s
  -- and what native members keep holds of what the runtime keeps
  pub kept : (keeps : C → Bool) → IsKeptIn keeps around m → (after : Machine C) → machine_of s.outcome ≡ Some after
      → keeps after.runtime ≡ true
  -- and static fields are kept, but for one that the code names
  pub statics : (after : Machine C) → machine_of s.outcome ≡ Some after → KeepsStatics around m after

-- ---- ends

-- with no access more
made_so : {C : Type 0} {around : Surroundings C} {m : Machine C} (before : List Touch)
    → AllByRecursion (IsJudged (setting_of around m)) before → AreMade around m (before ++ [])
made_so {around = around} {m = m} before all =
    subst (AreMade around m) (sym (append-nil before)) (by_frame before all)

pub leaves : {C : Type 0} {around : Surroundings C} {m : Machine C} {before : List Touch} (o : Outcome C)
    (x : Machine C)
    → machine_of o ≡ Some x → KeepsHeap m.top.active before m.heap x.heap → LeadsApart around m x
    → KeepsLaw around m before (plain o)
leaves {C = C} {around = around} {m = m} {before = before} o x e h a = record {
  made = made_so before;
  accesses = allowed refl;
  changes = λ after f.
      subst (λ (y : Machine C). KeepsHeap m.top.active (before ++ []) m.heap y.heap) (same_Some x after (sym e ∙ f))
      (changes_first m.top.active before [] m.heap x.heap h);
  apart = λ keeps p. record {
    spares = tt;
    after = λ after f. subst (IsApart keeps) (same_Some x after (sym e ∙ f)) (a.apart keeps p);
  };
  kept = λ keeps q after f.
      subst (λ (y : Machine C). keeps y.runtime ≡ true) (same_Some x after (sym e ∙ f)) (a.kept keeps q);
  statics = λ after f. subst (KeepsStatics around m) (same_Some x after (sym e ∙ f)) a.statics;
}

pub stays : {C : Type 0} {around : Surroundings C} {m : Machine C} {before : List Touch} (o : Outcome C) (x : Machine C)
    → machine_of o ≡ Some x → m.heap ≡ x.heap → LeadsApart around m x → KeepsLaw around m before (plain o)
stays {C = C} {m = m} {before = before} o x e same a =
    leaves o x e
    (subst (λ (heap : Heap TaggedValue). KeepsHeap m.top.active before m.heap heap) same
    (nothing_changes m.top.active before m.heap)) a

pub is_stuck : {C : Type 0} {around : Surroundings C} {m : Machine C} {before : List Touch}
    → KeepsLaw around m before stuck
is_stuck = grind (arith, made_so, none-some)

-- another machine with the same static fields
pub still_kept : {C : Type 0} {around : Surroundings C} {m x y : Machine C} → KeepsStatics around m x
    → x.statics ≡ y.statics → KeepsStatics around m y
still_kept (as_they_were e) f = as_they_were (e ∙ f)
still_kept (one_written place v names e) f = one_written place v names (e ∙ f)

pub goes : {C : Type 0} {around : Surroundings C} {m : Machine C} {before : List Touch} (h : StepContext C) (pc : ℕ)
    (locals operands : List TaggedValue)
    → KeepsHeap m.top.active before m.heap h.machine.heap → LeadsApart around m h.machine
    → KeepsLaw around m before (goes_to h pc locals operands)
goes h pc locals operands changes a =
    leaves (Next _) _ refl changes
    (record {
      apart = λ keeps p. moved_apart keeps h.machine pc locals operands (a.apart keeps p);
      kept = a.kept;
      statics = still_kept a.statics refl;
    })

pub goes_still : {C : Type 0} {before : List Touch} (h : StepContext C) (pc : ℕ) (locals operands : List TaggedValue)
    → KeepsLaw h.around h.machine before (goes_to h pc locals operands)
goes_still h pc locals operands = search (arith, goes, nothing_changes, is_apart_itself)

pub goes_behind : {C : Type 0} {before : List Touch} (h : StepContext C) (locals operands : List TaggedValue)
    → KeepsLaw h.around h.machine before (goes_on h locals operands)
goes_behind h locals operands = goes_still h h.next_pc locals operands

pub leaves_still : {C : Type 0} {before : List Touch} (h : StepContext C) (operands : List TaggedValue)
    → KeepsLaw h.around h.machine before (leaves_operands h operands)
leaves_still h operands = goes_still h h.next_pc h.machine.top.locals operands

pub throws_still : {C : Type 0} {before : List Touch} (h : StepContext C) (object : ℕ)
    → KeepsLaw h.around h.machine before (throws h object)
throws_still h object = stays (Throws h.machine object) h.machine refl refl (is_apart_itself h.around h.machine)

jumps_still : {C : Type 0} {before : List Touch} (h : StepContext C) (to : ℤ) (operands : List TaggedValue)
    → KeepsLaw h.around h.machine before (jumps h to operands)
jumps_still h (pos pc) operands = goes_still h pc h.machine.top.locals operands
jumps_still h (negsuc n) operands = is_stuck

pub branches_still : {C : Type 0} {before : List Touch} (h : StepContext C) (taken : Bool) (offset : ℤ)
    (vs : List TaggedValue) → KeepsLaw h.around h.machine before (branches h taken offset vs)
branches_still h true offset vs = jumps_still h (target_of h.machine.top.pc offset) vs
branches_still h false offset vs = leaves_still h vs

-- ---- tests that leave the machine stuck

pub at_check : {C : Type 0} {around : Surroundings C} {m : Machine C} {before : List Touch} (b : Bool) (s : Stepped C)
    → KeepsLaw around m before s
    → KeepsLaw around m before (check b s)
at_check b s h1 = grind (arith, is_stuck)

-- what goes on knows that the test passed
pub at_checked : {C : Type 0} {around : Surroundings C} {m : Machine C} {before : List Touch} (b : Bool)
    (s : Stepped C) → (b ≡ true → KeepsLaw around m before s) → KeepsLaw around m before (check b s)
at_checked true s k = k refl
at_checked false s k = is_stuck

pub at_some : {A C : Type 0} {around : Surroundings C} {m : Machine C} {before : List Touch} (o : Option A)
    (go : A → Stepped C)
    → ((x : A) → o ≡ Some x → KeepsLaw around m before (go x)) → KeepsLaw around m before (on_some o go)
at_some None go k = is_stuck
at_some (Some x) go k = k x refl

pub at_pushed : {C : Type 0} {around : Surroundings C} {m : Machine C} {before : List Touch} (h : StepContext C)
    (v : TaggedValue)
    (operands : List TaggedValue) (go : List TaggedValue → Stepped C) → KeepsLaw around m before (go (v ∷ operands))
    → KeepsLaw around m before (pushed h v operands go)
at_pushed h v operands go k = at_check (nat_lt (length operands) h.max_stack) (go (v ∷ operands)) k

pub gives_still : {C : Type 0} {before : List Touch} (h : StepContext C) (v : TaggedValue) (operands : List TaggedValue)
    → KeepsLaw h.around h.machine before (gives h v operands)
gives_still h v operands = at_pushed h v operands (leaves_operands h) (leaves_still h (v ∷ operands))

pub loads_still : {C : Type 0} {before : List Touch} (h : StepContext C) (form : Form) (held : TaggedValue)
    (operands : List TaggedValue) → KeepsLaw h.around h.machine before (loads h form held operands)
loads_still h form held operands = at_some (loaded_as form held) _ (λ v e. gives_still h v operands)

pub gives_changed : {C : Type 0} {around : Surroundings C} {m : Machine C} {before : List Touch} (h : StepContext C)
    (v : TaggedValue)
    (operands : List TaggedValue) → KeepsHeap m.top.active before m.heap h.machine.heap
    → LeadsApart around m h.machine → KeepsLaw around m before (gives h v operands)
gives_changed h v operands changes a = search (arith, at_pushed, goes)

pub at_top : {C : Type 0} {around : Surroundings C} {m : Machine C} {before : List Touch} (vs : List TaggedValue)
    (go : TaggedValue → List TaggedValue → Stepped C)
    → ((v : TaggedValue) (rest : List TaggedValue) → KeepsLaw around m before (go v rest)) → KeepsLaw around m before
    (on_top vs go)
at_top [] go k = is_stuck
at_top (v ∷ vs) go k = k v vs

pub at_word : {C : Type 0} {around : Surroundings C} {m : Machine C} {before : List Touch} (vs : List TaggedValue)
    (go : ℕ → List TaggedValue → Stepped C)
    → ((n : ℕ) (rest : List TaggedValue) → KeepsLaw around m before (go n rest)) → KeepsLaw around m before
    (on_word vs go)
at_word [] go k = is_stuck
at_word (Word n ∷ vs) go k = k n vs
at_word (Ref n ∷ vs) go k = is_stuck
at_word (Null ∷ vs) go k = is_stuck
at_word (Unset ∷ vs) go k = is_stuck

pub at_reference : {C : Type 0} {around : Surroundings C} {m : Machine C} {before : List Touch} (vs : List TaggedValue)
    (go : TaggedValue → List TaggedValue → Stepped C)
    → ((v : TaggedValue) (rest : List TaggedValue) → KeepsLaw around m before (go v rest))
    → KeepsLaw around m before (on_reference vs go)
at_reference [] go k = is_stuck
at_reference (v ∷ vs) go k = at_check (is_tagged_reference v) (go v vs) (k v vs)

pub at_operands : {C : Type 0} {around : Surroundings C} {m : Machine C} {before : List Touch} (count : ℕ)
    (vs : List TaggedValue)
    (s : Stepped C) → KeepsLaw around m before s → KeepsLaw around m before (on_operands count vs s)
at_operands count vs s k = at_check _ s k

pub at_target : {A C : Type 0} {around : Surroundings C} {m : Machine C} {before : List Touch} (h : StepContext C) (index : ℕ)
    (wanted : PoolTarget → Option A) (go : A → Stepped C) → ((x : A) → KeepsLaw around m before (go x))
    → KeepsLaw around m before (on_target h index wanted go)
at_target h index wanted go k = search (arith, at_some)

pub at_word_local : {C : Type 0} {around : Surroundings C} {m : Machine C} {before : List Touch}
    (v : Option TaggedValue) (go : ℕ → Stepped C)
    → ((n : ℕ) → KeepsLaw around m before (go n)) → KeepsLaw around m before (on_word_local v go)
at_word_local None go k = is_stuck
at_word_local (Some (Word n)) go k = k n
at_word_local (Some (Ref n)) go k = is_stuck
at_word_local (Some Null) go k = is_stuck
at_word_local (Some Unset) go k = is_stuck

pub at_reference_local : {C : Type 0} {around : Surroundings C} {m : Machine C} {before : List Touch}
    (v : Option TaggedValue)
    (go : TaggedValue → Stepped C) → ((v : TaggedValue) → KeepsLaw around m before (go v))
    → KeepsLaw around m before (on_reference_local v go)
at_reference_local None go k = is_stuck
at_reference_local (Some v) go k = at_check (is_tagged_reference v) (go v) (k v)

-- ---- tests that throw

pub at_require : {C : Type 0} {before : List Touch} (h : StepContext C) (exception : ℕ) (b : Bool) (s : Stepped C)
    → KeepsLaw h.around h.machine before s → KeepsLaw h.around h.machine before (require h exception b s)
at_require h exception true s k = k
at_require h exception false s k = throws_still h exception

pub at_object : {C : Type 0} {before : List Touch} (h : StepContext C) (v : TaggedValue)
    (go : ℕ → Object TaggedValue → Stepped C)
    → ((n : ℕ) (o : Object TaggedValue) → object_at h.machine.heap n ≡ Some o
    → KeepsLaw h.around h.machine before (go n o))
    → KeepsLaw h.around h.machine before (on_object h v go)
at_object h (Word n) go k = is_stuck
at_object h (Ref n) go k = at_some (object_at h.machine.heap n) (go n) (k n)
at_object h Null go k = throws_still h _
at_object h Unset go k = is_stuck

-- ---- accesses

-- what goes on behind accesses, of which the last may be denied; then the security exception is thrown
module _ {C : Type 0} {around : Surroundings C} {m : Machine C} (before ts : List Touch)
    (s : Stepped C) (guarded : AreGuarded ts (s ≡ plain (Throws m security_exception)))
    (spares : (keeps : C → Bool) → IsApartIn keeps around m → AllByRecursion (SparesPlain m.heap) ts)
    (k : KeepsLaw around m (before ++ ts) s) where
  by_guard : AreGuarded ts (s ≡ plain (Throws m security_exception))
      → AreGuarded (ts ++ s.touches) (s.outcome ≡ Throws m security_exception)
  by_guard (allowed h) = guarded_behind ts s.touches (s.outcome ≡ Throws m security_exception) h k.accesses
  by_guard (denied h e) = grind (arith, append-nil)

  joined : (after : Machine C) → KeepsHeap m.top.active ((before ++ ts) ++ s.touches) m.heap after.heap
      → KeepsHeap m.top.active (before ++ (ts ++ s.touches)) m.heap after.heap
  joined after h = grind (arith, append_assoc)

  -- where it is known how they were made
  pub behind_made : (AllByRecursion (IsJudged (setting_of around m)) before
      → AreMade around m (before ++ (ts ++ s.touches))) → KeepsLaw around m before (touched ts s)
  behind_made made = record {
    made = made;
    accesses = by_guard guarded;
    changes = λ after e. joined after (k.changes after e);
    apart = λ keeps p. record {
      spares = all_joined (SparesPlain m.heap) ts s.touches (spares keeps p) (k.apart keeps p).spares;
      after = λ after e. (k.apart keeps p).after after e;
    };
    kept = k.kept;
    statics = k.statics;
  }

  -- by the frame
  pub behind_judged : AllByRecursion (IsJudged (setting_of around m)) ts → KeepsLaw around m before (touched ts s)
  behind_judged judges = grind (arith, behind_made, append_assoc, all_joined)

pub behind : {C : Type 0} {around : Surroundings C} {m : Machine C} {before : List Touch} (ts : List Touch)
    (s : Stepped C) → AllByRecursion (IsJudged (setting_of around m)) ts
    → AreGuarded ts (s ≡ plain (Throws m security_exception))
    → ((keeps : C → Bool) → IsApartIn keeps around m → AllByRecursion (SparesPlain m.heap) ts)
    → KeepsLaw around m (before ++ ts) s → KeepsLaw around m before (touched ts s)
behind {before = before} ts s judges guarded spares k = behind_judged before ts s guarded spares k judges

-- one that is allowed
pub behind_allowed : {C : Type 0} {around : Surroundings C} {m : Machine C} {before : List Touch} (t : Touch)
    (s : Stepped C) → IsJudged (setting_of around m) t → are_allowed (t ∷ []) ≡ true
    → ((keeps : C → Bool) → IsApartIn keeps around m → SparesPlain m.heap t)
    → KeepsLaw around m (before ++ t ∷ []) s → KeepsLaw around m before (touched (t ∷ []) s)
behind_allowed t s judges h spares k = behind (t ∷ []) s (judges, tt) (allowed h) (λ keeps p. (spares keeps p, tt)) k

denied_still : {C : Type 0} {before : List Touch} (h : StepContext C) (t : Touch)
    → IsJudged (setting_of h.around h.machine) t
    → is_allowed t.verdict ≡ false → t.active ≡ h.machine.top.active.context
    → KeepsLaw h.around h.machine before (touched (t ∷ []) (throws h security_exception))
denied_still h t judges e own =
    behind (t ∷ []) (throws h security_exception) (judges, tt) (denied (ap not e) refl)
    (λ keeps p. (own_spares h.around h.machine t own keeps p, tt)) (throws_still h security_exception)

-- a verdict: what goes on knows that the access was allowed, and whether it switches
pub at_verdict : {C : Type 0} {before : List Touch} (h : StepContext C) (asked : Asked) (v : Verdict)
    (go : Option Owner → Stepped C) → IsJudged (setting_of h.around h.machine) (touch_of h asked v)
    → (is_allowed v ≡ true → (switch : Option Owner) → switch ≡ switched_by v
    → KeepsLaw h.around h.machine (before ++ touch_of h asked v ∷ []) (go switch))
    → KeepsLaw h.around h.machine before (by_verdict h asked v go)
at_verdict h asked Allowed go judges k =
    behind_allowed (touch_of h asked Allowed) (go None) judges refl
    (own_spares h.around h.machine (touch_of h asked Allowed) refl) (k refl None refl)
at_verdict h asked (AllowedSwitch owner) go judges k =
    behind_allowed (touch_of h asked (AllowedSwitch owner)) (go (Some owner)) judges refl
    (own_spares h.around h.machine (touch_of h asked (AllowedSwitch owner)) refl) (k refl (Some owner) refl)
at_verdict h asked (Denied rule) go judges k = denied_still h (touch_of h asked (Denied rule)) judges refl refl

-- the firewall's verdict on what is asked in a place, and the access with it
abbrev pub verdict_in : {C : Type 0} → StepContext C → Asked → Object TaggedValue → Verdict
verdict_in h asked object = verdict_of asked.access h.machine.top.active.context (facts_of h asked object)

abbrev pub touch_in : {C : Type 0} → StepContext C → Asked → Object TaggedValue → Touch
touch_in h asked object = touch_of h asked (verdict_in h asked object)

pub at_judged : {C : Type 0} {before : List Touch} (h : StepContext C) (asked : Asked)
    (object : Object TaggedValue) → object_at h.machine.heap asked.object ≡ Some object
    → (go : Option Owner → Stepped C)
    → (is_allowed (verdict_in h asked object) ≡ true → (switch : Option Owner)
    → switch ≡ switched_by (verdict_in h asked object)
    → KeepsLaw h.around h.machine (before ++ touch_in h asked object ∷ []) (go switch))
    → KeepsLaw h.around h.machine before (judged h asked object go)
at_judged h asked object there go k = search (arith, at_verdict)

pub at_stored : {C : Type 0} {before : List Touch} (h : StepContext C) (access : Access) (number : ℕ)
    (object : Object TaggedValue) → object_at h.machine.heap number ≡ Some object → (v : TaggedValue)
    (s : Stepped C)
    → (is_allowed (verdict_in h (storing access number v) object) ≡ true
    → KeepsLaw h.around h.machine (before ++ touch_in h (storing access number v) object ∷ []) s)
    → KeepsLaw h.around h.machine before (accessed_to_store h access number object v s)
at_stored h access number object there v s k = search (arith, at_judged)

pub at_accessed : {C : Type 0} {before : List Touch} (h : StepContext C) (access : Access) (number : ℕ)
    (object : Object TaggedValue) → object_at h.machine.heap number ≡ Some object → (s : Stepped C)
    → (is_allowed (verdict_in h (asking access number) object) ≡ true
    → KeepsLaw h.around h.machine (before ++ touch_in h (asking access number) object ∷ []) s)
    → KeepsLaw h.around h.machine before (accessed h access number object s)
at_accessed h access number object there s k = search (arith, at_judged)
