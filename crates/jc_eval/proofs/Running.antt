-- A run of code alone on words goes along with the defensive machine's. The loop runs a frame state, and no opcode of
-- code alone has a row of an instruction on references. So only the frame in it changes.
use Rattle.std.proofs.Common.{◌≡◌, ℕ, zero, suc, ◌+◌, ◌<◌, List, [], ◌∷◌, length, drop, Option}
use Rattle.std.proofs.Common.{Some, None, Bool, true, false, if◌then◌else◌, Result, Ok, Err, IfSome, nat_lt, refl, sym, ap, ◌∙◌, subst}
use Rattle.std.proofs.Common.{arith}
use Rattle.std.specs.Prelude.{⊤, ◌≢◌, get_or, slice_index}
use Rattle.std.specs.Option.{option_map, option_map_or}
use Rattle.jc_base.proofs.Binding as binding
use Rattle.jc_base.specs.Cursor.{Read, next_u1}
use Rattle.jc_base.specs.Results.{◌>>=◌}
use Rattle.jc_check.specs.Method.{word_max_stack, word_method}
use Rattle.jc_check.specs.Rules.{word_rules}
use Rattle.jc_check.specs.Typing.{IsTyping, Typing}
use Rattle.jc_code.specs.Decoding.{next_constant, next_word_operation}
use Rattle.jc_code.specs.Instructions.{either_operation, instr_at, instr_of, next_operation, word_instr_at}
use Rattle.jc_code.specs.Listing.{PlacedInstr}
use Rattle.jc_code.specs.Objects.{next_object}
use Rattle.jc_code.specs.Tables.{operand}
use Rattle.jc_code.specs.Targets.{is_end_of}
use Rattle.jc_code.specs.declared.fault.CodeFault.{CodeFault}
use Rattle.jc_code.specs.declared.fault.CodeFault.TheVariants.{BadOpcode, BadOperand, CutShort}
use Rattle.jc_code.specs.declared.instr.BinaryOperator.{BinaryOperator}
use Rattle.jc_code.specs.declared.instr.Instr.{Instr}
use Rattle.jc_code.specs.declared.instr.Operation.{Operation}
use Rattle.jc_code.specs.declared.instr.Operation.TheVariants as operations
use Rattle.jc_code.specs.declared.instr.When.TheVariants.{Always, Zero, Compare}
use Rattle.jc_code.specs.declared.instr.WordOperation.{WordOperation}
use Rattle.jc_code.specs.declared.instr.WordOperation.TheVariants as ops
use Rattle.jc_code.specs.declared.object.ObjectOperation.{ObjectOperation}
use Rattle.jc_follow.specs.Following.{ComesTo, FollowsTagged, GoesAlong, ReadsTop, WordsFollow}
use Rattle.jc_loop.specs.Loop.{MayRunBy, Ran, ReadReady, frame_behind, next_frame, onward, ran_by}
use Rattle.jc_loop.specs.Moves.{IsRead, WordsAreDecoded, word_at, word_for}
use Rattle.jc_loop.specs.QuickRows.{QuickRow, RowsAreDecoded, quick_row}
use Rattle.jc_loop.specs.Ready.{RowIsReady, StateIsReady, StateMayRun}
use Rattle.jc_loop.specs.FrameStates.{FrameState, next_state, quick_read, ran_state, with_frame}
use Rattle.jc_loop.specs.Words.{Continues, Divides, Outcome as WordOutcome, WordFrame, Yields, done_by}
use Rattle.jc_loop.specs.Words as words
use Rattle.jc_loop.specs.declared.environment.FrameEnvironment.{FrameEnvironment}
use Rattle.jc_machine.specs.Going.{StepContext, check, moved, on_some, with_top}
use Rattle.jc_machine.specs.Machine.{Frame, Machine, Next, Outcome, Stepped, Stuck, Throws, Ends, last_denied}
use Rattle.jc_machine.specs.Returns.{returns_to, returns_value}
use Rattle.jc_machine.specs.Runtime.{arithmetic_exception}
use Rattle.jc_machine.specs.Step.{CallEnd, continued}
use Rattle.jc_machine.specs.declared.stop.Budget.TheVariants.{FrameWords}
use Rattle.jc_machine.specs.Words.{act_word}
use Rattle.jc_store.specs.Store.{Store}
use Rattle.jc_words.specs.Shorts.{binary_of}
use Rattle.jc_words.specs.Values.{Word}
use Rattle.jc_eval.specs.Alone.{EndsAs, act_alone, alone_call, alone_step, alone_steps, first_machine, here_alone}
use Rattle.jc_eval.specs.PrivateRuns.{end_of}
use Rattle.jc_eval.specs.TypedCode.{IsTypedAlone, StandsAt, StepsTyped}
use Rattle.jc_eval.specs.declared.run.CodeEnd.TheVariants as ends

-- an operation on words that was read, as any operation
abbrev as_any : Read WordOperation → Read Operation
as_any read = record { value = operations.Word read.value; rest = read.rest }

-- what is decoded of code alone is one on words, and decoded so of any code
record IsWord (code : List ℕ) (pc : ℕ) (instr : Instr) : Type 0 where
  word : WordOperation
  is : instr.operation ≡ operations.Word word
  decoded : instr_at code pc ≡ Ok instr

-- what is decoded behind an opcode that was read, of words alone and of any code
abbrev word_of : List ℕ → Result (Read ℕ) CodeFault → Result Instr CodeFault
word_of code o =
    (o >>= (λ opcode. next_constant opcode.value opcode.rest)) >>= (λ read. Ok (instr_of code (as_any read)))

abbrev any_of : List ℕ → Result (Read ℕ) CodeFault → Result Instr CodeFault
any_of code o =
    (o >>= (λ opcode. either_operation (next_constant opcode.value opcode.rest)
    (next_object opcode.value opcode.rest))) >>= (λ read. Ok (instr_of code read))

word_read : (code : List ℕ) (pc : ℕ) (instr : Instr) (r : Result (Read WordOperation) CodeFault)
    (object : Result (Read ObjectOperation) CodeFault)
    → ((either_operation r object >>= (λ read. Ok (instr_of code read))) ≡ Ok instr → instr_at code pc ≡ Ok instr)
    → (r >>= (λ read. Ok (instr_of code (as_any read)))) ≡ Ok instr → IsWord code pc instr
word_read code pc instr (Ok read) object k e = record {
  word = read.value;
  is = ap (λ (x : Instr). x.operation) (sym (binding.the_ok (instr_of code (as_any read)) instr e));
  decoded = k e;
}
word_read code pc instr (Err fault) object k e = absurd cc

is_word : (code : List ℕ) (pc : ℕ) (instr : Instr) → word_instr_at code pc ≡ Ok instr → IsWord code pc instr
unfolding word_instr_at next_word_operation instr_at next_operation
is_word code pc instr = by_opcode (operand (next_u1 (drop pc code))) refl
  where
    by_opcode : (o : Result (Read ℕ) CodeFault) → operand (next_u1 (drop pc code)) ≡ o → word_of code o ≡ Ok instr
        → IsWord code pc instr
    by_opcode (Ok opcode) is e =
        word_read code pc instr (next_constant opcode.value opcode.rest) (next_object opcode.value opcode.rest)
        (λ any. ap (any_of code) is ∙ any) e
    by_opcode (Err fault) is e = absurd cc

-- what is decoded is the instruction that is read
abbrev IsDecoded : List ℕ → Instr → Result (Read WordOperation) CodeFault → Type 0
IsDecoded code instr (Ok read) = instr ≡ instr_of code (as_any read)
IsDecoded code instr (Err fault) = ⊥

is_decoded_by : (code : List ℕ) (pc : ℕ) (instr : Instr) → IsWord code pc instr
    → (r : Result (Read WordOperation) CodeFault) → IsRead code instr r → IsDecoded code instr r
is_decoded_by code pc instr w (Ok read) h =
    let same : w.word ≡ read.value =
    binding.the_some w.word read.value (sym (ap word_for w.is) ∙ h.word) in
    ap (λ (o : Operation). record { operation = o; next_pc = instr.next_pc }) (w.is ∙ ap operations.Word same)
    ∙ ap (λ (n : ℕ). record { operation = operations.Word read.value; next_pc = n }) h.next
is_decoded_by code pc instr w (Err BadOpcode) h =
    absurd (binding.none_some w.word (sym h ∙ ap word_for w.is))
is_decoded_by code pc instr w (Err BadOperand) h = absurd h
is_decoded_by code pc instr w (Err CutShort) h = absurd h

-- the row of the opcode at a pc, if it has one
abbrev row_at : List ℕ → ℕ → Option QuickRow
row_at code pc = quick_row (get_or code pc 0) (drop (pc + 1) code)

-- the opcode of an instruction on words has none
no_row : (code : List ℕ) (pc : ℕ) (instr : Instr) → RowsAreDecoded → IsWord code pc instr → pc < length code
    → row_at code pc ≡ None
no_row code pc instr rows w within = by_row (row_at code pc) refl
  where
    by_row : (o : Option QuickRow) → row_at code pc ≡ o → o ≡ None
    by_row None e = refl
    by_row (Some row) e =
        let is : operations.Word w.word ≡ operations.Object (rows code pc instr w.decoded within row e).read.value =
        sym w.is ∙ (rows code pc instr w.decoded within row e).operation in
        absurd cc

-- the frame on words that the code begins with
abbrev pub first_frame : WordFrame
first_frame = record { pc = 0; locals = 0 ∷ 0 ∷ []; operands = [] }

abbrev pub first_state : List ℕ → Store → FrameState
first_state statics store = record { frame = first_frame; statics = statics; store = store }

-- what the laws say of this code and this typing
pub record Laws (code : List ℕ) (typing : Typing) (t : IsTyping word_rules (word_method code) typing) : Type 0 where
  pub first : IsTypedAlone typing first_machine
  pub stands : (m : Machine ⊤) → IsTypedAlone typing m → StandsAt code t.listing m
  pub steps : (m : Machine ⊤) → IsTypedAlone typing m → StepsTyped typing m (alone_step t.listing m).outcome
  pub follow : (h : StepContext ⊤) → WordsFollow h
  pub decoded : WordsAreDecoded
  pub rows : RowsAreDecoded

module _ (code : List ℕ) (typing : Typing) (t : IsTyping word_rules (word_method code) typing)
    (laws : Laws code typing t) where
  abbrev listing : List PlacedInstr
  listing = t.listing

  -- the tagged machine that goes along with a frame on words ends so within the steps that are left
  pub record GoesWith (w : WordFrame) (left : ℕ) (end : CallEnd ⊤) : Type 0 where
    pub machine : Machine ⊤
    pub typed : IsTypedAlone typing machine
    pub reads : ReadsTop w machine.top
    pub rest : (alone_steps listing left machine).ends ≡ end

  module _ (w : WordFrame) (left : ℕ) (end : CallEnd ⊤) (g : GoesWith w left end) where
    abbrev m : Machine ⊤
    m = g.machine

    abbrev at : StandsAt code listing m
    at = laws.stands m g.typed

    abbrev h : StepContext ⊤
    h = here_alone m at.instr.instr

    within_code : w.pc < length code
    within_code = subst (λ (n : ℕ). n < length code) (sym g.reads.pc) at.within

    is_word_here : IsWord code w.pc at.instr.instr
    is_word_here = is_word code w.pc at.instr.instr (ap (word_instr_at code) g.reads.pc ∙ at.spelled)

    decoded_here : IsDecoded code at.instr.instr (word_at code w.pc)
    decoded_here =
        is_decoded_by code w.pc at.instr.instr is_word_here (word_at code w.pc)
        (laws.decoded code w.pc at.instr.instr is_word_here.decoded within_code)

    no_row_here : row_at code w.pc ≡ None
    no_row_here = no_row code w.pc at.instr.instr laws.rows is_word_here within_code

    step_is : alone_step listing m ≡ act_alone h at.instr.instr.operation
    unfolding alone_step
    step_is =
        ap (λ (o : Option PlacedInstr). on_some o (λ x. act_alone (here_alone m x.instr) x.instr.operation)) at.placed

    acts_is : (operation : WordOperation) → at.instr.instr.operation ≡ operations.Word operation
        → alone_step listing m ≡ act_word h operation
    acts_is operation is = step_is ∙ ap (act_alone h) is

    not_stuck : (o : Outcome ⊤) → StepsTyped typing m o → o ≢ Stuck
    not_stuck o s e = subst (StepsTyped typing m) e s

    follows : (operation : WordOperation) → at.instr.instr.operation ≡ operations.Word operation
        → FollowsTagged h (operations.Word operation) operation w
    follows operation is =
        laws.follow h (operations.Word operation) operation w refl g.reads
        (subst (λ (x : Stepped ⊤). x.outcome ≢ Stuck) (acts_is operation is)
        (not_stuck (alone_step listing m).outcome (laws.steps m g.typed)))

    ready_by : (r : Result (Read WordOperation) CodeFault) → IsDecoded code at.instr.instr r
        → ReadReady word_max_stack w r
    ready_by (Ok read) is = (follows read.value (ap (λ (x : Instr). x.operation) is)).ready
    ready_by (Err fault) is = absurd is

    ready : ReadReady word_max_stack w (word_at code w.pc)
    ready = ready_by (word_at code w.pc) decoded_here

  -- one step more
  module _ (env : FrameEnvironment) (s : FrameState) (left : ℕ) (end : CallEnd ⊤)
      (g : GoesWith s.frame (suc left) end) where
    abbrev w : WordFrame
    w = s.frame

    abbrev before : Machine ⊤
    before = g.machine

    abbrev stands : StandsAt code listing before
    stands = laws.stands before g.typed

    abbrev place : StepContext ⊤
    place = here_alone before stands.instr.instr

    step_ends : (o : Outcome ⊤) → (alone_step listing before).outcome ≡ o
        → (continued FrameWords None (last_denied (alone_step listing before).touches) (alone_steps listing left) o).ends
        ≡ end
    unfolding alone_steps
    step_ends o is =
        sym (ap (λ (x : Outcome ⊤). (continued FrameWords None (last_denied (alone_step listing before).touches)
        (alone_steps listing left) x).ends) is) ∙ g.rest

    goes_on : (v : WordFrame) (operation : WordOperation) → alone_step listing before ≡ act_word place operation
        → GoesAlong place (act_word place operation) v → GoesWith v left end
    goes_on v operation acts_are along =
        let next : Machine ⊤ = with_top before (moved before.top v.pc along.locals along.operands) in
        let is : (alone_step listing before).outcome ≡ Next next = ap (λ (x : Stepped ⊤). x.outcome) acts_are ∙ along.is in
        let steps : StepsTyped typing before (Next next) =
        subst (StepsTyped typing before) is (laws.steps before g.typed) in
        record {
          machine = next;
          typed = steps.typed;
          reads = record { pc = refl; locals = along.reads_locals; operands = along.reads_operands };
          rest = step_ends (Next next) is;
        }

    -- what is done at once there is an instruction on words
    state_is : next_state env word_max_stack code s ≡ option_map (with_frame s) (next_frame code w)
    state_is =
        ap (λ (o : Option QuickRow). option_map_or (quick_read env word_max_stack code s) o
        (option_map (with_frame s) (next_frame code w))) (no_row_here w (suc left) end g)

    state_ready : StateIsReady env code word_max_stack s
    state_ready = (
      ready w (suc left) end g,
      subst (λ (o : Option QuickRow). IfSome o (RowIsReady env word_max_stack s))
          (sym (no_row_here w (suc left) end g)) tt,
    )

    abbrev GoesOn : Option WordFrame → Type 0
    GoesOn o = IfSome (option_map (with_frame s) o) (λ v. GoesWith v.frame left end)

    next_by : (operation : WordOperation) (o : WordOutcome) → alone_step listing before ≡ act_word place operation
        → ComesTo place (act_word place operation) o → GoesOn (onward o)
    next_by operation (Continues v) acts_are along = goes_on v operation acts_are along
    next_by operation Divides acts_are along = tt
    next_by operation (Yields n) acts_are along = tt

    behind_by : (r : Result (Read WordOperation) CodeFault) → IsDecoded code stands.instr.instr r
        → GoesOn (frame_behind code w r)
    behind_by (Ok read) is =
        let operation_is = ap (λ (x : Instr). x.operation) is in
        let f = follows w (suc left) end g read.value operation_is in
        next_by read.value _ (acts_is w (suc left) end g read.value operation_is)
        (subst (λ (n : ℕ). ComesTo place (act_word place read.value) (done_by w.pc n read.value w))
        (ap (λ (x : Instr). x.next_pc) is) f.comes)
    behind_by (Err fault) is = tt

    behind : IfSome (next_state env word_max_stack code s) (λ v. GoesWith v.frame left end)
    behind =
        subst (λ (o : Option FrameState). IfSome o (λ v. GoesWith v.frame left end)) (sym state_is)
        (behind_by (word_at code w.pc) (decoded_here w (suc left) end g))

    -- ---- where no frame is behind it

    -- a word that is given is the end
    gives : (n : ℕ) → (returns_value place (Word n)).outcome ≢ Stuck
        → (returns_value place (Word n)).outcome ≡ Ends before (Some (Word n))
    gives n safe = by_test (nat_lt n 65536) safe
      where
        ends_so : (returns_to place (Some (Word n)) before.waiting).outcome ≡ Ends before (Some (Word n))
        ends_so = ap (λ (fs : List Frame). (returns_to place (Some (Word n)) fs).outcome) g.typed.waiting

        by_test : (b : Bool) → (check b (returns_to place (Some (Word n)) before.waiting)).outcome ≢ Stuck
            → (check b (returns_to place (Some (Word n)) before.waiting)).outcome ≡ Ends before (Some (Word n))
        by_test true safe = ends_so
        by_test false safe = absurd (safe refl)

    -- an operation that comes to no frame returns, or divides
    ends_by : (operation : WordOperation) (o : WordOutcome) → done_by w.pc place.next_pc operation w ≡ o
        → onward o ≡ None → alone_step listing before ≡ act_word place operation
        → ComesTo place (act_word place operation) o
        → EndsAs (if is_end_of (operations.Word operation) then ends.Gave (slice_index w.operands 0) else ends.Divided)
        end
    ends_by operation (Continues v) is none acts_are comes = absurd (let no : Some v ≡ None = none in cc)
    ends_by operation Divides is none acts_are comes = divides operation is
      where
        divided : EndsAs ends.Divided end
        divided =
            subst (EndsAs ends.Divided)
            (step_ends (Throws before arithmetic_exception) (ap (λ (x : Stepped ⊤). x.outcome) (acts_are ∙ comes))) refl

        divides : (it : WordOperation) → done_by w.pc place.next_pc it w ≡ Divides
            → EndsAs (if is_end_of (operations.Word it) then ends.Gave (slice_index w.operands 0) else ends.Divided) end
        divides ops.ReturnWord e = absurd (let no : Yields (slice_index w.operands 0) ≡ Divides = e in cc)
        divides (ops.Branch Always offset) e = divided
        divides (ops.Branch (Zero condition) offset) e = divided
        divides (ops.Branch (Compare condition) offset) e = divided
        divides it e = divided
    ends_by operation (Yields n) is none acts_are comes = yields operation is
      where
        safe_return : (returns_value place (Word n)).outcome ≢ Stuck
        safe_return =
            subst (λ (x : Stepped ⊤). x.outcome ≢ Stuck) (acts_are ∙ comes)
            (not_stuck w (suc left) end g (alone_step listing before).outcome (laws.steps before g.typed))

        gave : EndsAs (ends.Gave n) end
        gave =
            subst (EndsAs (ends.Gave n))
            (step_ends (Ends before (Some (Word n)))
            (ap (λ (x : Stepped ⊤). x.outcome) (acts_are ∙ comes) ∙ gives n safe_return)) refl

        result : (operator : BinaryOperator) (o : Option ℕ)
            → words.result_of o (λ k. words.continues place.next_pc w.locals (k ∷ drop 2 w.operands)) ≡ Yields n → ⊥
        result operator None e = let no : Divides ≡ Yields n = e in absurd cc
        result operator (Some k) e =
            let no : words.continues place.next_pc w.locals (k ∷ drop 2 w.operands) ≡ Yields n = e in absurd cc

        the_word : (a b : ℕ) → Yields a ≡ Yields b → a ≡ b
        the_word a b e = cc

        yields : (it : WordOperation) → done_by w.pc place.next_pc it w ≡ Yields n
            → EndsAs (if is_end_of (operations.Word it) then ends.Gave (slice_index w.operands 0) else ends.Divided) end
        yields (ops.Binary operator) e =
            absurd (result operator (binary_of operator (slice_index w.operands 1) (slice_index w.operands 0)) e)
        yields (ops.Branch Always offset) e = absurd cc
        yields (ops.Branch (Zero condition) offset) e = absurd cc
        yields (ops.Branch (Compare condition) offset) e = absurd cc
        yields ops.ReturnWord e =
            let same : slice_index w.operands 0 ≡ n = the_word (slice_index w.operands 0) n e in
            subst (λ (k : ℕ). EndsAs (ends.Gave k) end) (sym same) gave
        yields it e = absurd cc

    stopped_by : (r : Result (Read WordOperation) CodeFault) → word_at code w.pc ≡ r
        → IsDecoded code stands.instr.instr r → frame_behind code w r ≡ None
        → EndsAs (end_of (word_instr_at code w.pc) (slice_index w.operands 0)) end
    stopped_by (Ok read) read_is is none =
        let operation_is = ap (λ (x : Instr). x.operation) is in
        let next_is = ap (λ (x : Instr). x.next_pc) is in
        let f = follows w (suc left) end g read.value operation_is in
        let spelled : word_instr_at code w.pc ≡ Ok stands.instr.instr =
        ap (word_instr_at code) g.reads.pc ∙ stands.spelled in
        let none_here : onward (done_by w.pc place.next_pc read.value w) ≡ None =
        ap (λ (n : ℕ). onward (done_by w.pc n read.value w)) next_is ∙ none in
        subst (λ (r : Result Instr CodeFault). EndsAs (end_of r (slice_index w.operands 0)) end) (sym spelled)
        (subst
        (λ (o : Operation). EndsAs (if is_end_of o then ends.Gave (slice_index w.operands 0) else ends.Divided) end)
        (sym operation_is)
        (ends_by read.value (done_by w.pc place.next_pc read.value w) refl none_here
        (acts_is w (suc left) end g read.value operation_is) f.comes))
    stopped_by (Err fault) read_is is none = absurd is

    stopped : next_state env word_max_stack code s ≡ None
        → EndsAs (end_of (word_instr_at code w.pc) (slice_index w.operands 0)) end
    stopped none =
        stopped_by (word_at code w.pc) refl (decoded_here w (suc left) end g)
        (no_frame (next_frame code w) (sym state_is ∙ none))
      where
        no_frame : (o : Option WordFrame) → option_map (with_frame s) o ≡ None → o ≡ None
        no_frame None e = refl
        no_frame (Some v) e = absurd (let no : Some (with_frame s v) ≡ None = e in cc)

  -- ---- so many steps

  spent : (w : WordFrame) (end : CallEnd ⊤) → GoesWith w zero end → EndsAs ends.UsedUp end
  unfolding alone_steps
  spent w end g = subst (EndsAs ends.UsedUp) g.rest tt

  -- where it ends: no step is left, or it has stopped
  abbrev HasEnded : Ran FrameState → CallEnd ⊤ → Type 0
  HasEnded r end =
      ((r.left ≡ 0) → EndsAs ends.UsedUp end)
      × ((r.left ≡ 0 → ⊥)
      → EndsAs (end_of (word_instr_at code r.state.frame.pc) (slice_index r.state.frame.operands 0)) end)

  module _ (env : FrameEnvironment) where
    -- so many steps may be done, and they end as the tagged machine
    pub record Runs (left : ℕ) (s : FrameState) (end : CallEnd ⊤) : Type 0 where
      pub may_run : StateMayRun env word_max_stack code left s
      pub ended : HasEnded (ran_state env word_max_stack code left s) end

    runs : (left : ℕ) (s : FrameState) (end : CallEnd ⊤) → GoesWith s.frame left end → Runs left s end
    unfolding MayRunBy ran_by
    runs zero s end g = record {
      may_run = within_code s.frame zero end g;
      ended = ((λ _. spent s.frame end g), (λ more. absurd (more refl)));
    }
    runs (suc n) s end g =
        let onwards = each (next_state env word_max_stack code s) refl (λ v. runs n v end)
        (behind env s n end g) in record {
          may_run = (within_code s.frame (suc n) end g, state_ready env s n end g, onwards.0);
          ended = onwards.1;
        }
      where
        each : (o : Option FrameState) → next_state env word_max_stack code s ≡ o
            → ((v : FrameState) → GoesWith v.frame n end → Runs n v end) → IfSome o (λ v. GoesWith v.frame n end)
            → IfSome o (StateMayRun env word_max_stack code n)
            × HasEnded (option_map_or (ran_state env word_max_stack code n) o (record { state = s; left = suc n })) end
        each None e go k = (tt, ((λ none. absurd (omega (arith, none))), (λ _. stopped env s n end g e)))
        each (Some v) e go k = let there = go v k in (there.may_run, there.ended)

    pub from_first : (statics : List ℕ) (store : Store) (steps : ℕ)
        → Runs steps (first_state statics store) (alone_call listing steps).ends
    from_first statics store steps = runs steps (first_state statics store) (alone_call listing steps).ends (record {
      machine = first_machine;
      typed = laws.first;
      reads = record { pc = refl; locals = (tt, (tt, tt)); operands = tt };
      rest = refl;
    })

    pub ends_so : (statics : List ℕ) (store : Store) (steps : ℕ) (r : Ran FrameState)
        → r ≡ ran_state env word_max_stack code steps (first_state statics store)
        → HasEnded r (alone_call listing steps).ends
    ends_so statics store steps r is =
        subst (λ (x : Ran FrameState). HasEnded x (alone_call listing steps).ends) (sym is)
        (from_first statics store steps).ended
