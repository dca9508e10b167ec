-- Code alone: the code of one method without a package, run on the defensive machine. There are no objects, no static
-- fields and no waiting frame, and only instructions on words.
use Rattle.std.specs.Prelude.{⊤, ◌≡◌, ℕ, zero, suc, ◌+◌, List, [], replicate, None, Some, true, false}
use Rattle.jc_api.specs.declared.class.ApiClass.TheVariants.{Object}
use Rattle.jc_base.specs.declared.declared_type.DeclaredType.TheVariants.{Short}
use Rattle.jc_base.specs.declared.declared_type.ReturnType.TheVariants.{Value}
use Rattle.jc_cap.specs.declared.method_header.MethodHeader.{MethodHeader}
use Rattle.jc_check.specs.Method.{word_locals, word_max_stack}
use Rattle.jc_classes.specs.Members.{DeclaredMethod}
use Rattle.jc_code.specs.Listing.{PlacedInstr, placed_at}
use Rattle.jc_code.specs.declared.instr.Instr.{Instr}
use Rattle.jc_code.specs.declared.instr.Operation.{Operation}
use Rattle.jc_code.specs.declared.instr.Operation.TheVariants as operations
use Rattle.jc_firewall.specs.Verdict as firewall
use Rattle.jc_link.specs.Linked.{World}
use Rattle.jc_names.specs.declared.name.ClassName.TheVariants.{Api}
use Rattle.jc_words.specs.Values.{Unset, Word}
use Rattle.jc_machine.specs.Going.{StepContext, moved, on_some, stuck}
use Rattle.jc_machine.specs.Idle.{idle}
use Rattle.jc_machine.specs.Machine.{Limits, Machine, Stepped, Surroundings}
use Rattle.jc_machine.specs.Runtime.{arithmetic_exception}
use Rattle.jc_machine.specs.Step.{CallEnd, Called, Gave, RanOut, Threw, WasStuck, ended_by, no_frame, onward}
use Rattle.jc_machine.specs.declared.stop.Budget.TheVariants.{FrameWords, Steps}
use Rattle.jc_machine.specs.Words.{act_word}
use Rattle.jc_eval.specs.declared.run.CodeEnd.{CodeEnd}
use Rattle.jc_eval.specs.declared.run.CodeEnd.TheVariants as ends

-- ---- its surroundings

-- a world without packages
abbrev pub empty_world : World
empty_world = record { shapes = []; bodies = [] }

-- room for its one frame, and for no objects; no instruction on words needs any
abbrev pub one_frame : Limits
one_frame = record { objects = 0; cells = 0; frames = 1; frame_words = word_locals + word_max_stack }

-- that world, native members that are never called, and no applet
abbrev pub nothing_around : Surroundings ⊤
nothing_around = record { world = empty_world; natives = idle; limits = one_frame; selected = None }

-- the header of its method
abbrev pub alone_header : MethodHeader
alone_header = record { is_abstract = false; max_stack = word_max_stack; nargs = 0; max_locals = word_locals }

-- the declaration of its method: static, without arguments, and with a short as its result
abbrev pub alone_method : DeclaredMethod
alone_method = record {
  class = Api Object;
  method = record {
    token = 0;
    is_static = true;
    offset = 0;
    header = Some alone_header;
    signature = record { parameters = []; result = Value Short };
  };
}

-- ---- a step

-- the context of an instruction of the code on a machine
abbrev pub here_alone : Machine ⊤ → Instr → StepContext ⊤
here_alone m instr = record {
  around = nothing_around;
  machine = m;
  method = alone_method;
  max_stack = word_max_stack;
  next_pc = instr.next_pc;
}

-- one instruction: one on words acts as in any method, and there is no other
abbrev pub act_alone : StepContext ⊤ → Operation → Stepped ⊤
act_alone h (operations.Word operation) = act_word h operation
act_alone h (operations.Object operation) = stuck

-- one step, if an instruction of the listing begins at the frame's pc; otherwise the machine is stuck
unfoldable pub alone_step : List PlacedInstr → Machine ⊤ → Stepped ⊤
alone_step listing m =
    on_some (placed_at listing m.top.pc) (λ x. act_alone (here_alone m x.instr) x.instr.operation)

-- ---- a run

-- at most n steps; if a further one would begin, the budget is used up. Code alone calls nothing: it never lacks a
-- frame, and no package's place is reported
unfoldable pub alone_steps : List PlacedInstr → ℕ → Machine ⊤ → Called ⊤
alone_steps listing zero m = ended_by (RanOut m Steps None)
alone_steps listing (suc n) m = onward FrameWords None (alone_steps listing n) (alone_step listing m)

-- the first machine: at the first byte of the code, with locals that were never written, and no operands
abbrev pub first_machine : Machine ⊤
first_machine = record {
  heap = [];
  statics = [];
  runtime = tt;
  top = moved (no_frame firewall.runtime) 0 (replicate word_locals Unset) [];
  waiting = [];
}

-- a run of the code from there on, of at most the given number of steps
abbrev pub alone_call : List PlacedInstr → ℕ → Called ⊤
alone_call listing steps = alone_steps listing steps first_machine

-- ---- ends of a run

-- it returns this word
abbrev pub GivesWord : ℕ → CallEnd ⊤ → Type 0
GivesWord word (Gave m value) = value ≡ Some (Word word)
GivesWord word (Threw m object at denied) = ⊥
GivesWord word (RanOut m spent at) = ⊥
GivesWord word WasStuck = ⊥

-- it throws the exception of a division by zero
abbrev pub ThrowsArithmetic : CallEnd ⊤ → Type 0
ThrowsArithmetic (Gave m value) = ⊥
ThrowsArithmetic (Threw m object at denied) = object ≡ arithmetic_exception
ThrowsArithmetic (RanOut m spent at) = ⊥
ThrowsArithmetic WasStuck = ⊥

-- it has no step left
abbrev pub UsesUp : CallEnd ⊤ → Type 0
UsesUp (Gave m value) = ⊥
UsesUp (Threw m object at denied) = ⊥
UsesUp (RanOut m spent at) = ⊤
UsesUp WasStuck = ⊥

-- a run on words has the same end
abbrev pub EndsAs : CodeEnd → CallEnd ⊤ → Type 0
EndsAs (ends.Gave word) end = GivesWord word end
EndsAs ends.Divided end = ThrowsArithmetic end
EndsAs ends.UsedUp end = UsesUp end
