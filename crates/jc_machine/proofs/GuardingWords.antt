-- Instructions on words, and those that move operands, keep the law of accesses.
use Rattle.std.proofs.Common.{arith, ◌+◌, List, length, drop, max, Option, Some, None, ℕ, true, nat_le}
use Rattle.jc_base.specs.Stack.{duplicated, swapped}
use Rattle.jc_code.specs.declared.instr.Shuffle as shuffles
use Rattle.jc_code.specs.declared.instr.Shuffle.TheVariants.{Pop, Duplicate, Swap}
use Rattle.jc_code.specs.declared.instr.When.TheVariants.{Always, Zero, Compare}
use Rattle.jc_code.specs.declared.instr.WordOperation.{WordOperation}
use Rattle.jc_code.specs.declared.instr.WordOperation.TheVariants.{Shuffle, Branch}
use Rattle.jc_machine.specs.Going.{StepContext}
use Rattle.jc_machine.specs.Machine.{Stepped, Touch}
use Rattle.jc_machine.specs.Words.{act_word, on_result, shuffled}
use Rattle.jc_words.specs.Shorts.{holds}
use Rattle.jc_words.specs.Values.{TaggedValue}
use Rattle.jc_machine.proofs.Guarding.{KeepsLaw, at_check, at_operands, at_word, at_word_local, branches_still}
use Rattle.jc_machine.proofs.Guarding.{gives_still, goes_behind, leaves_still, throws_still}
use Rattle.jc_machine.proofs.GuardingReturns.{at_returns}

at_arithmetic : {C : Type 0} {before : List Touch} (h : StepContext C) (result : Option ℕ) (go : ℕ → Stepped C)
    → ((n : ℕ) → KeepsLaw h.around h.machine before (go n)) → KeepsLaw h.around h.machine before (on_result h result go)
at_arithmetic h None go k = throws_still h _
at_arithmetic h (Some n) go k = k n

shuffle_keeps : {C : Type 0} {before : List Touch} (h : StepContext C) (shuffle : shuffles.Shuffle) (vs : List TaggedValue)
    → KeepsLaw h.around h.machine before (shuffled h shuffle vs)
shuffle_keeps h (Pop count) vs = at_operands count vs _ (leaves_still h (drop count vs))
shuffle_keeps h (Duplicate count below) vs =
    at_operands (max count below) vs _ (at_check (nat_le (length vs + count) h.max_stack) _
    (leaves_still h (duplicated count below vs)))
shuffle_keeps h (Swap upper lower) vs = at_operands (upper + lower) vs _ (leaves_still h (swapped upper lower vs))

pub word_keeps : {C : Type 0} {before : List Touch} (h : StepContext C) (operation : WordOperation)
    → KeepsLaw h.around h.machine before (act_word h operation)
unfolding act_word
word_keeps h (Shuffle shuffle) = shuffle_keeps h shuffle h.machine.top.operands
word_keeps h (Branch Always offset) = branches_still h true offset h.machine.top.operands
word_keeps h (Branch (Zero condition) offset) =
    at_word h.machine.top.operands _ (λ a vs. branches_still h (holds condition a 0) offset vs)
word_keeps h (Branch (Compare condition) offset) =
    at_word h.machine.top.operands _ (λ b us. at_word us _ (λ a vs. branches_still h (holds condition a b) offset vs))
word_keeps h operation =
    search (
      arith,
      leaves_still,
      gives_still,
      goes_behind,
      at_word_local,
      at_word,
      at_check,
      at_arithmetic,
      branches_still,
      at_returns,
    )
