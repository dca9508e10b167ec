-- A step of a well-typed machine is safe, whichever instruction it makes; so is a run.
use Rattle.std.proofs.Common.{◌≡◌, ℕ, zero, suc, ℤ, ◌<◌, List, [], ◌∷◌, map, replicate, Bool, true, Option, None, Some}
use Rattle.std.proofs.Common.{Ok, refl, sym, ap, subst, arith}
use Rattle.std.proofs.lemmas.Bool.{lt-ltb}
use Rattle.std.proofs.lemmas.List.Elements.{All-contains, All-from_recursion}
use Rattle.std.specs.Int.{w16}
use Rattle.std.specs.Int.RustNames.{FitsSigned}
use Rattle.std.specs.List.{AllByRecursion}
use Rattle.std.specs.Prelude.{⊤}
use Rattle.jc_check.specs.Method.{entry_of, word_locals, word_max_stack, word_method}
use Rattle.jc_check.specs.Rules.{word_rules}
use Rattle.jc_check.specs.Typing.{BranchLeads, IsFineAt, IsTyping, Leads, Typing}
use Rattle.jc_code.specs.Instructions.{word_instr_at}
use Rattle.jc_code.specs.Listing.{ListingLaws, PlacedInstr}
use Rattle.jc_code.specs.Targets.{falls_of, offsets_of, target_of, targets_of}
use Rattle.jc_code.specs.declared.instr.Operation.{Operation}
use Rattle.jc_code.specs.declared.instr.Operation.TheVariants as operations
use Rattle.jc_code.specs.declared.instr.WordOperation.{WordOperation}
use Rattle.jc_code.specs.declared.instr.WordOperation.TheVariants as ops
use Rattle.jc_types.specs.State.{Types, all_below}
use Rattle.jc_types.specs.declared.ty.Ty.TheVariants as types
use Rattle.jc_words.specs.Values.{TaggedValue, Unset, Word}
use Rattle.jc_machine.specs.Going.{StepContext, check, jumps, moved, on_some, with_top}
use Rattle.jc_machine.specs.Machine.{Ends, Frame, Machine, Next, Outcome, Stepped, Stuck, Throws, UsedUp, last_denied}
use Rattle.jc_machine.specs.Returns.{returns_to, returns_value}
use Rattle.jc_machine.specs.Step.{Called, continued}
use Rattle.jc_machine.specs.TypedWords.{LeavesTyped, KeepWordsTyped, branching, going, returning, throwing}
use Rattle.jc_machine.specs.Words.{act_word}
use Rattle.jc_machine.specs.declared.stop.Budget.TheVariants.{FrameWords}
use Rattle.jc_machine.specs.declared.stop.DeniedAccess.{DeniedAccess}
use Rattle.jc_eval.specs.Alone.{act_alone, alone_call, alone_method, alone_step, alone_steps, first_machine, here_alone}
use Rattle.jc_eval.specs.Alone.{nothing_around}
use Rattle.jc_eval.specs.TypedCode.{EndsTypedAlone, GoesOnTyped, IsTypedAlone, StandsAt, StepsTyped}
use Rattle.jc_eval.proofs.Values.{Have, Hold, below, both, operands_up, types_up}

-- what holds of each member's image
unmapped : {A B : Type 0} (P : B → Type 0) (f : A → B) (xs : List A) → AllByRecursion P (map f xs)
    → AllByRecursion (λ x. P (f x)) xs
unmapped P f [] h = tt
unmapped P f (x ∷ xs) h = (h.0, unmapped P f xs h.1)

-- ---- an instruction

module _ (typing : Typing) (m : Machine ⊤) (t : IsTypedAlone typing m) (next : ℕ) where
  abbrev here : StepContext ⊤
  here = record {
    around = nothing_around;
    machine = m;
    method = alone_method;
    max_stack = word_max_stack;
    next_pc = next;
  }

  abbrev BranchesTo : Types → ℤ → Type 0
  BranchesTo after offset = BranchLeads word_rules typing after (target_of m.top.pc offset)

  moves : (pc : ℕ) (locals operands : List TaggedValue) (after : Types) → Have locals after.locals
      → Hold operands after.operands → Leads word_rules typing after pc
      → GoesOnTyped typing m (with_top m (moved m.top pc locals operands))
  moves pc locals operands after has holds leads =
      let b = both (all_below below after.locals leads.state.locals)
      (all_below below after.operands leads.state.operands) leads.below in record {
        typed = record {
          heap = t.heap;
          statics = t.statics;
          waiting = t.waiting;
          state = leads.state;
          stated = leads.typed;
          locals = types_up locals after.locals leads.state.locals b.0 has;
          operands = operands_up operands after.operands leads.state.operands b.1 holds;
        };
        frame_alone = refl;
      }

  jumped : (place : ℤ) (operands : List TaggedValue) (after : Types) → Have m.top.locals after.locals
      → Hold operands after.operands → BranchLeads word_rules typing after place
      → StepsTyped typing m (jumps here place operands).outcome
  jumped place operands after has holds leads =
      subst (λ (z : ℤ). StepsTyped typing m (jumps here z operands).outcome) (sym leads.is)
      (moves leads.pc m.top.locals operands after has holds leads.leads)

  -- no frame waits for what is given
  gives_word : (n : ℕ) → n < 65536 → StepsTyped typing m (returns_value here (Word n)).outcome
  gives_word n small =
      let given = returns_to here (Some (Word n)) in
      subst (λ (b : Bool). StepsTyped typing m (check b (given m.waiting)).outcome) (sym (lt-ltb n 65536 small))
      (subst (λ (waiting : List Frame). StepsTyped typing m (given waiting).outcome) (sym t.waiting)
      (record { same = refl; word = n; small = small; is = refl }))

  word_comes : (operation : WordOperation) (after : Types)
      → AllByRecursion (BranchesTo after) (offsets_of (operations.Word operation))
      → (falls_of (operations.Word operation) ≡ true → Leads word_rules typing after next) → (x : Stepped ⊤)
      → LeavesTyped [] [] here (Some types.Word) operation after x → StepsTyped typing m x.outcome
  word_comes operation after branches falls _ (going locals operands on has holds) =
      moves next locals operands after has holds (falls on)
  word_comes operation after branches falls _ (branching offset operands there has holds) =
      jumped (target_of m.top.pc offset) operands after has holds
      (All-contains (BranchesTo after) (offsets_of (operations.Word operation)) offset
      (All-from_recursion (BranchesTo after) (offsets_of (operations.Word operation)) branches) there)
  word_comes operation after branches falls _ throwing = record { same = refl; arithmetic = refl }
  word_comes operation after branches falls _ (returning word small is) = gives_word word small

  act_safe : KeepWordsTyped ⊤ → (operation : Operation) (after : Types)
      → ((value : ℤ) → operation ≡ operations.Word (ops.Push value) → FitsSigned w16 value)
      → word_rules.effect word_max_stack (Some types.Word) operation t.state ≡ Ok after
      → AllByRecursion (BranchesTo after) (offsets_of operation)
      → (falls_of operation ≡ true → Leads word_rules typing after next)
      → StepsTyped typing m (act_alone here operation).outcome
  act_safe words (operations.Word operation) after short e branches falls =
      word_comes operation after branches falls (act_word here operation)
      (words [] [] below here (Some types.Word) t.state after t.locals t.operands operation
      (λ value is. short value (ap operations.Word is)) e)
  act_safe words (operations.Object operation) after short e branches falls = absurd cc

-- ---- a step

module _ (laws : ListingLaws word_instr_at) (words : KeepWordsTyped ⊤) (code : List ℕ) (typing : Typing)
    (t : IsTyping word_rules (word_method code) typing) where
  module _ (m : Machine ⊤) (typed : IsTypedAlone typing m) where
    its_instruction : IsFineAt word_rules (word_method code) typing t.listing m.top.pc typed.state
    its_instruction = t.each m.top.pc typed.state typed.stated

    pub stands_at : StandsAt code t.listing m
    stands_at =
        let x = its_instruction in
        let has = laws.has code t.listing m.top.pc x.instr t.whole x.stands in
        let behind = laws.ascends code m.top.pc x.instr.instr has.1 in record {
          instr = x.instr;
          placed = x.stands;
          begins = has.0;
          within = omega (arith, behind.0, behind.1);
          spelled = has.1;
        }

    pub steps_safely : StepsTyped typing m (alone_step t.listing m).outcome
    unfolding alone_step stands_at
    steps_safely =
        let x = its_instruction in
        let at = stands_at in
        let operation = x.instr.instr.operation in
        let branches = subst
        (λ (pc : ℕ). AllByRecursion (BranchLeads word_rules typing x.fine.after) (targets_of pc operation))
        at.begins x.fine.branches in
        subst
        (λ (o : Option PlacedInstr).
        StepsTyped typing m (on_some o (λ y. act_alone (here_alone m y.instr) y.instr.operation)).outcome)
        (sym x.stands)
        (act_safe typing m typed x.instr.instr.next_pc words operation x.fine.after
        (λ value is. laws.pushes code m.top.pc x.instr.instr value at.spelled is) x.fine.effect
        (unmapped (BranchLeads word_rules typing x.fine.after) (target_of m.top.pc) (offsets_of operation) branches)
        x.fine.falls)

  -- ---- many steps

  goes_on_safely : (m : Machine ⊤) → IsTypedAlone typing m → (go : Machine ⊤ → Called ⊤)
      (denied : Option DeniedAccess) (outcome : Outcome ⊤)
      → ((after : Machine ⊤) → IsTypedAlone typing after → EndsTypedAlone typing (go after).ends)
      → StepsTyped typing m outcome → EndsTypedAlone typing (continued FrameWords None denied go outcome).ends
  goes_on_safely m typed go denied (Next after) each h = each after h.typed
  goes_on_safely m typed go denied (Throws after object) each h =
      record { typed = subst (λ (x : Machine ⊤). IsTypedAlone typing x) (sym h.same) typed; arithmetic = h.arithmetic }
  goes_on_safely m typed go denied (Ends after value) each h = record {
    typed = subst (λ (x : Machine ⊤). IsTypedAlone typing x) (sym h.same) typed;
    word = h.word;
    small = h.small;
    is = h.is;
  }
  goes_on_safely m typed go denied (UsedUp after) each h = absurd h
  goes_on_safely m typed go denied Stuck each h = absurd h

  pub runs_safely : (n : ℕ) (m : Machine ⊤) → IsTypedAlone typing m
      → EndsTypedAlone typing (alone_steps t.listing n m).ends
  unfolding alone_steps
  runs_safely zero m typed = typed
  runs_safely (suc n) m typed =
      goes_on_safely m typed (alone_steps t.listing n) (last_denied (alone_step t.listing m).touches)
      (alone_step t.listing m).outcome (runs_safely n) (steps_safely m typed)

-- ---- the first machine

-- locals that were never written are of any types of which nothing is known
never_written : (n : ℕ) → Have (replicate n Unset) (replicate n types.Top)
never_written zero = tt
never_written (suc n) = (refl, never_written n)

pub begins_typed : (code : List ℕ) (typing : Typing) → IsTyping word_rules (word_method code) typing
    → IsTypedAlone typing first_machine
begins_typed code typing t =
    let s = t.entry in
    let entry = entry_of (word_method code) in
    let b = both (all_below below entry.locals s.state.locals) (all_below below entry.operands s.state.operands)
    s.below in record {
      heap = refl;
      statics = refl;
      waiting = refl;
      state = s.state;
      stated = s.typed;
      locals =
          types_up (replicate word_locals Unset) (replicate word_locals types.Top) s.state.locals b.0
          (never_written word_locals);
      operands = operands_up [] [] s.state.operands b.1 tt;
    }

pub calls_safely : ListingLaws word_instr_at → KeepWordsTyped ⊤ → (code : List ℕ) (typing : Typing)
    → (t : IsTyping word_rules (word_method code) typing) (steps : ℕ)
    → EndsTypedAlone typing (alone_call t.listing steps).ends
calls_safely laws words code typing t steps =
    runs_safely laws words code typing t steps first_machine (begins_typed code typing t)
