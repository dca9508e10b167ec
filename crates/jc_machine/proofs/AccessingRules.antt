-- Rules that make no access, and the one access of an instruction by its row.
use Rattle.std.proofs.Common.{◌≡◌, ℕ, ℤ, ◌+◌, ◌&&◌, pos, negsuc, Bool, true, false, cond, not}
use Rattle.std.proofs.Common.{List, [], ◌∷◌, length, drop, nat_le, nat_lt, Option, Some, None, refl, sym, ap, ◌∙◌}
use Rattle.std.proofs.Common.{subst, arith, slice_get}
use Rattle.std.specs.Option.{option_and_then}
use Rattle.jc_base.specs.Stack.{duplicated, swapped}
use Rattle.jc_code.specs.Targets.{target_of}
use Rattle.jc_code.specs.declared.instr.Operation.{Operation}
use Rattle.jc_code.specs.declared.instr.Shuffle as shuffles
use Rattle.jc_code.specs.declared.instr.Shuffle.TheVariants.{Pop, Duplicate, Swap}
use Rattle.jc_code.specs.declared.instr.When.TheVariants.{Always, Zero, Compare}
use Rattle.jc_code.specs.declared.instr.WordOperation.{WordOperation}
use Rattle.jc_code.specs.declared.instr.WordOperation.TheVariants as words
use Rattle.jc_code.specs.declared.object.Form.{Form}
use Rattle.jc_code.specs.declared.object.ReferenceCondition.{ReferenceCondition}
use Rattle.jc_code.specs.declared.object.ReferenceCondition.TheVariants as Conditions
use Rattle.jc_firewall.specs.Verdict.{verdict_of}
use Rattle.jc_firewall.specs.declared.access.Access.{Access}
use Rattle.jc_firewall.specs.declared.access.Verdict.{Verdict}
use Rattle.jc_firewall.specs.declared.access.Verdict.TheVariants.{Allowed, AllowedSwitch, Denied}
use Rattle.jc_names.specs.declared.owner.Owner.{Owner}
use Rattle.jc_store.specs.Heap.{Object, object_at}
use Rattle.jc_words.specs.Shorts.{holds}
use Rattle.jc_words.specs.Values.{Null, Ref, TaggedValue, Unset, Word, is_tagged_reference}
use Rattle.jc_machine.specs.Accessing.{AreCalledBack, AreFurther, AreOwn, IsByRow, Operand}
use Rattle.jc_machine.specs.Accessing.{FramePlace, Row, by_row}
use Rattle.jc_machine.specs.Accessing.{no_native, none, of_null, row_of}
use Rattle.jc_machine.specs.Accessing.{value_at, where_stuck, without_row}
use Rattle.jc_machine.specs.Arrays.{is_there}
use Rattle.jc_machine.specs.Arrays.{loaded_as, loads}
use Rattle.jc_machine.specs.Calls.{accepts}
use Rattle.jc_machine.specs.Calls.{takes}
use Rattle.jc_machine.specs.Calls.{enters}
use Rattle.jc_machine.specs.Going.{StepContext, branches, by_verdict, check, facts_of, storing, gives, goes_to, judged}
use Rattle.jc_machine.specs.Going.{jumps, leaves_operands, on_object, on_reference, on_reference_local, on_some, on_top}
use Rattle.jc_machine.specs.Going.{on_word, on_word_local, plain, require, stuck, touch_of}
use Rattle.jc_machine.specs.Going.{throws}
use Rattle.jc_machine.specs.Guarded.{StandsAt}
use Rattle.jc_machine.specs.Lookup.{declared_at, is_given}
use Rattle.jc_machine.specs.Machine.{Asked, Frame, MethodPlace}
use Rattle.jc_machine.specs.Machine.{NativeEnd, Next, Outcome, Stepped, Touch}
use Rattle.jc_machine.specs.Objects.{act_branch}
use Rattle.jc_machine.specs.Objects.{on_known, is_null, is_same}
use Rattle.jc_machine.specs.Returns.{pc_behind_call, result_of, resumed, returns, returns_to, room_of, with_result}
use Rattle.jc_machine.specs.Words.{act_word, on_result, shuffled}

-- what is to be shown of a rule: of all of it; of what goes on behind the access by the instruction's row; of what goes
-- on behind the accesses of a native member that ended so; or that no access is made
pub data Stage : Type 0 where
  whole : Stage
  behind : Stage
  called : (end : NativeEnd) → Stage
  still : Stage

abbrev Says : {C : Type 0} → StepContext C → Operation → Stage → List Touch → Outcome C → Type 0
Says h op whole touches outcome = AreOwn h.around h.machine outcome touches
Says h op behind touches outcome = AreFurther h.around h.machine op touches
Says h op (called end) touches outcome = AreCalledBack end touches
Says h op still touches outcome = touches ≡ []

pub record Own {C : Type 0} (h : StepContext C) (op : Operation) (stage : Stage) (s : Stepped C) : Type 0 where
  pub says : Says h op stage s.touches s.outcome

-- ---- tests

module _ {C : Type 0} {h : StepContext C} {op : Operation} where
  pub stops : (stage : Stage) → Own h op stage stuck
  stops whole = record { says = where_stuck refl }
  stops behind = record { says = none op }
  stops (called end) = record { says = no_native }
  stops still = record { says = refl }

  pub ends : (outcome : Outcome C) → Own h op still (plain outcome)
  ends outcome = record { says = refl }

  pub further : (s : Stepped C) → Own h op still s → Own h op behind s
  further s k = record {
    says = subst (λ (ts : List Touch). AreFurther h.around h.machine op ts) (sym k.says) (none op);
  }

  pub no_more : (end : NativeEnd) (s : Stepped C) → Own h op still s → Own h op (called end) s
  no_more end s k = record { says = subst (λ (ts : List Touch). AreCalledBack end ts) (sym k.says) no_native }

  -- a rule of an instruction without a row
  pub unlisted : (s : Stepped C) → StandsAt h.around h.machine op → row_of h.around h.machine op ≡ None
      → Own h op behind s → Own h op whole s
  unlisted s stands e k = record { says = without_row op s.touches stands e k.says }

  pub silent : (s : Stepped C) → StandsAt h.around h.machine op → row_of h.around h.machine op ≡ None
      → Own h op still s → Own h op whole s
  silent s stands e k = unlisted s stands e (further s k)

  module _ {stage : Stage} where
    pub at_checked : (b : Bool) (s : Stepped C) → (b ≡ true → Own h op stage s) → Own h op stage (check b s)
    at_checked true s k = k refl
    at_checked false s k = stops stage

    pub at_check : (b : Bool) (s : Stepped C) → Own h op stage s → Own h op stage (check b s)
    at_check b s k = at_checked b s (λ e. k)

    pub at_some : {A : Type 0} (o : Option A) (go : A → Stepped C) → ((x : A) → o ≡ Some x → Own h op stage (go x))
        → Own h op stage (on_some o go)
    at_some None go k = stops stage
    at_some (Some x) go k = k x refl

    pub at_top : (vs : List TaggedValue) (go : TaggedValue → List TaggedValue → Stepped C)
        → ((v : TaggedValue) (rest : List TaggedValue) → vs ≡ v ∷ rest → Own h op stage (go v rest))
        → Own h op stage (on_top vs go)
    at_top [] go k = stops stage
    at_top (v ∷ vs) go k = k v vs refl

    pub at_word : (vs : List TaggedValue) (go : ℕ → List TaggedValue → Stepped C)
        → ((n : ℕ) (rest : List TaggedValue) → vs ≡ Word n ∷ rest → Own h op stage (go n rest))
        → Own h op stage (on_word vs go)
    at_word [] go k = stops stage
    at_word (Word n ∷ vs) go k = k n vs refl
    at_word (Ref n ∷ vs) go k = stops stage
    at_word (Null ∷ vs) go k = stops stage
    at_word (Unset ∷ vs) go k = stops stage

    pub at_reference : (vs : List TaggedValue) (go : TaggedValue → List TaggedValue → Stepped C)
        → ((v : TaggedValue) (rest : List TaggedValue) → vs ≡ v ∷ rest → Own h op stage (go v rest))
        → Own h op stage (on_reference vs go)
    at_reference [] go k = stops stage
    at_reference (v ∷ vs) go k = at_check (is_tagged_reference v) (go v vs) (k v vs refl)

    at_word_local : (v : Option TaggedValue) (go : ℕ → Stepped C) → ((n : ℕ) → Own h op stage (go n))
        → Own h op stage (on_word_local v go)
    at_word_local None go k = stops stage
    at_word_local (Some (Word n)) go k = k n
    at_word_local (Some (Ref n)) go k = stops stage
    at_word_local (Some Null) go k = stops stage
    at_word_local (Some Unset) go k = stops stage

    pub at_reference_local : (o : Option TaggedValue) (go : TaggedValue → Stepped C)
        → ((v : TaggedValue) → o ≡ Some v → Own h op stage (go v)) → Own h op stage (on_reference_local o go)
    at_reference_local None go k = stops stage
    at_reference_local (Some v) go k = at_check (is_tagged_reference v) (go v) (k v refl)

    pub at_require : (at : StepContext C) (exception : ℕ) (b : Bool) (s : Stepped C) → Own h op stage (throws at exception)
        → Own h op stage s → Own h op stage (require at exception b s)
    at_require at exception true s thrown k = k
    at_require at exception false s thrown k = thrown

-- ---- what makes no access

module _ {C : Type 0} {h : StepContext C} {op : Operation} (at : StepContext C) where
  pub leaves : (vs : List TaggedValue) → Own h op still (leaves_operands at vs)
  leaves vs = ends _

  pub goes : (pc : ℕ) (locals vs : List TaggedValue) → Own h op still (goes_to at pc locals vs)
  goes pc locals vs = ends _

  pub gives_own : (v : TaggedValue) (vs : List TaggedValue) → Own h op still (gives at v vs)
  gives_own v vs = at_check (nat_lt (length vs) at.max_stack) _ (leaves (v ∷ vs))

  pub loads_own : (form : Form) (held : TaggedValue) (vs : List TaggedValue) → Own h op still (loads at form held vs)
  loads_own form held vs = at_some (loaded_as form held) _ (λ v e. gives_own v vs)

  jumps_own : (to : ℤ) (vs : List TaggedValue) → Own h op still (jumps at to vs)
  jumps_own (pos pc) vs = ends _
  jumps_own (negsuc n) vs = stops still

  branches_own : (taken : Bool) (offset : ℤ) (vs : List TaggedValue) → Own h op still (branches at taken offset vs)
  branches_own true offset vs = jumps_own (target_of at.machine.top.pc offset) vs
  branches_own false offset vs = leaves vs

  by_result : (f : Frame) (waiting : List Frame) (pc room : ℕ) (v : Option TaggedValue)
      → Own h op still (with_result at room v f.operands (λ vs. plain (Next (resumed at.machine f waiting pc vs))))
  by_result f waiting pc room None = ends _
  by_result f waiting pc room (Some v) = at_check (nat_lt (length f.operands) room) _ (ends _)

  returns_to_own : (result : Option TaggedValue) (waiting : List Frame)
      → Own h op still (returns_to at result waiting)
  returns_to_own result [] = ends _
  returns_to_own result (f ∷ waiting) =
      at_some (pc_behind_call at.around f) _ (λ pc d. at_some (room_of at.around f) _ (λ room e.
      by_result f waiting pc room result))

  pub returns_own : (value : Option TaggedValue) → Own h op still (returns at value)
  returns_own value =
      at_some (result_of at) _ (λ result e.
      at_check (is_given at.around.world.shapes at.machine.heap result value) _
      (returns_to_own value at.machine.waiting))

  result_own : (o : Option ℕ) (vs : List TaggedValue) → Own h op still (on_result at o (λ n. gives at (Word n) vs))
  result_own None vs = ends _
  result_own (Some n) vs = gives_own (Word n) vs

  shuffle_own : (shuffle : shuffles.Shuffle) (vs : List TaggedValue) → Own h op still (shuffled at shuffle vs)
  shuffle_own (Pop count) vs = at_check _ _ (leaves (drop count vs))
  shuffle_own (Duplicate count below) vs =
      at_check _ _ (at_check (nat_le (length vs + count) at.max_stack) _ (leaves (duplicated count below vs)))
  shuffle_own (Swap upper lower) vs = at_check _ _ (leaves (swapped upper lower vs))

  pub word_own : (operation : WordOperation) → Own h op still (act_word at operation)
  unfolding act_word
  word_own (words.Shuffle shuffle) = shuffle_own shuffle at.machine.top.operands
  word_own (words.Branch Always offset) = branches_own true offset at.machine.top.operands
  word_own (words.Branch (Zero condition) offset) =
      at_word at.machine.top.operands _ (λ a vs e. branches_own (holds condition a 0) offset vs)
  word_own (words.Branch (Compare condition) offset) =
      at_word at.machine.top.operands _ (λ b us d. at_word us _ (λ a vs e.
      branches_own (holds condition a b) offset vs))
  word_own operation =
      search (
        arith,
        leaves,
        gives_own,
        goes,
        at_word_local,
        at_word,
        at_check,
        result_own,
        branches_own,
        returns_own,
      )

module _ {C : Type 0} {h : StepContext C} {op : Operation} (at : StepContext C) where
  at_known : (vs : List TaggedValue) (go : TaggedValue → List TaggedValue → Stepped C)
      → ((v : TaggedValue) (rest : List TaggedValue) → Own h op still (go v rest)) → Own h op still (on_known at vs go)
  at_known vs go k = at_reference vs _ (λ v rest e. at_check (is_there at v) _ (k v rest))

  pub branch_own : (when : ReferenceCondition) (offset : ℤ) → Own h op still (act_branch at when offset)
  branch_own Conditions.Null offset = at_known _ _ (λ v vs. branches_own at (is_null v) offset vs)
  branch_own Conditions.NotNull offset = at_known _ _ (λ v vs. branches_own at (not (is_null v)) offset vs)
  branch_own Conditions.Same offset =
      at_known _ _ (λ w us. at_known us _ (λ v vs. branches_own at (is_same v w) offset vs))
  branch_own Conditions.Different offset =
      at_known _ _ (λ w us. at_known us _ (λ v vs. branches_own at (not (is_same v w)) offset vs))

  by_room : (b : Bool) (o p : Outcome C) → Own h op still (cond b (plain o) (plain p))
  by_room true o p = ends o
  by_room false o p = ends p

  pub enters_own : (switch : Option Owner) (place : MethodPlace) (arguments vs : List TaggedValue)
      → Own h op still (enters at switch place arguments vs)
  enters_own switch place arguments vs =
      at_some (option_and_then (λ d. d.method.header) (declared_at at.around.world place)) _ (λ header e.
      at_check (takes header arguments && accepts at place arguments) _ (by_room _ _ _))

-- ---- the access by a row

-- an instruction stands there that has a row, at whose place this value is
pub record Named {C : Type 0} (h : StepContext C) (op : Operation) (row : Row) (v : TaggedValue) : Type 0 where
  pub stands : StandsAt h.around h.machine op
  pub is_row : row_of h.around h.machine op ≡ Some row
  pub there : value_at h.machine.top row.object ≡ Some v

-- what is asked by a row, of an object
abbrev asked_by : Frame → Row → ℕ → Asked
asked_by f row n = record {
  access = row.access;
  object = n;
  stored = option_and_then (value_at f) row.stored;
  wanted = row.wanted;
}

module _ {C : Type 0} {h : StepContext C} {op : Operation} {row : Row} where
  pub at_named : (v : TaggedValue) (go : ℕ → Object TaggedValue → Stepped C) → Named h op row v
      → ((n : ℕ) (o : Object TaggedValue) → Named h op row (Ref n) → Own h op whole (go n o))
      → Own h op whole (on_object h v go)
  at_named (Word n) go x k = stops whole
  at_named (Ref n) go x k = at_some (object_at h.machine.heap n) (go n) (λ o e. k n o x)
  at_named Null go x k = record { says = of_null op row x.stands x.is_row x.there }
  at_named Unset go x k = stops whole

  touch_by : (n : ℕ) (asked : Asked) (v : Verdict) → Named h op row (Ref n) → asked ≡ asked_by h.machine.top row n
      → IsByRow h.machine.top row (touch_of h asked v)
  touch_by n asked v x e = record {
    by = refl;
    access = ap (λ (a : Asked). a.access) e;
    object = x.there ∙ ap (λ (a : Asked). Some (Ref a.object)) (sym e);
    stored = ap (λ (a : Asked). a.stored) e;
    wanted = ap (λ (a : Asked). a.wanted) e;
  }

  pub at_judged : (n : ℕ) (asked : Asked) (o : Object TaggedValue) (go : Option Owner → Stepped C)
      → Named h op row (Ref n) → asked ≡ asked_by h.machine.top row n
      → ((switch : Option Owner) → Own h op behind (go switch)) → Own h op whole (judged h asked o go)
  at_judged n asked o go x e k =
      by (verdict_of asked.access h.machine.top.active.context (facts_of h asked o))
    where
      by : (v : Verdict) → Own h op whole (by_verdict h asked v go)
      by Allowed =
          record { says = by_row op row _ _ x.stands x.is_row (touch_by n asked Allowed x e) (k None).says }
      by (AllowedSwitch owner) = record {
        says = by_row op row _ _ x.stands x.is_row (touch_by n asked (AllowedSwitch owner) x e) (k (Some owner)).says;
      }
      by (Denied rule) =
          record { says = by_row op row _ _ x.stands x.is_row (touch_by n asked (Denied rule) x e) (none op) }

  pub at_asked : (n : ℕ) (asked : Asked) (o : Object TaggedValue) (go : Option Owner → Stepped C)
      → Named h op row (Ref n) → asked ≡ asked_by h.machine.top row n
      → ((switch : Option Owner) → Own h op still (go switch)) → Own h op whole (judged h asked o go)
  at_asked n asked o go x e k = at_judged n asked o go x e (λ switch. further (go switch) (k switch))

-- operands below others
pub second : {us vs ws : List TaggedValue} {v w : TaggedValue} → us ≡ v ∷ vs → vs ≡ w ∷ ws → slice_get us 1 ≡ Some w
second d e = ap (λ (xs : List TaggedValue). slice_get xs 1) d ∙ ap (λ (xs : List TaggedValue). slice_get xs 0) e

pub third : {us vs ws xs : List TaggedValue} {u v w : TaggedValue} → us ≡ u ∷ vs → vs ≡ v ∷ ws → ws ≡ w ∷ xs
    → slice_get us 2 ≡ Some w
third c d e = ap (λ (xs : List TaggedValue). slice_get xs 2) c ∙ second d e

pub top : {vs rest : List TaggedValue} {v : TaggedValue} → vs ≡ v ∷ rest → slice_get vs 0 ≡ Some v
top e = ap (λ (xs : List TaggedValue). slice_get xs 0) e

-- what stores the top operand asks by its row
pub stores_it : (f : Frame) (access : Access) (place : FramePlace) (n : ℕ) (v : TaggedValue)
    → slice_get f.operands 0 ≡ Some v
    → storing access n v
    ≡ asked_by f (record { access = access; object = place; stored = Some (Operand 0); wanted = None }) n
stores_it f access place n v e =
    ap (λ (o : Option TaggedValue). record { access = access; object = n; stored = o; wanted = None }) (sym e)
