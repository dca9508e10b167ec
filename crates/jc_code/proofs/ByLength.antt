-- Where an opcode tells its instruction's length, decoding comes to the pc so many bytes behind.
use Rattle.std.proofs.lemmas.List.{drop_all, drop_more}
use Rattle.std.proofs.Common.{◌≡◌, ◌≢◌, ◌≤◌, get_or, ℕ, suc, ◌+◌, ◌-◌, ◌<◌, List, [], ◌∷◌, length, drop, Result}
use Rattle.std.proofs.Common.{Ok, Err, ap, ◌∙◌, arith, length-drop}
use Rattle.jc_base.specs.Cursor.{Read}
use Rattle.jc_base.specs.Results.{◌>>=◌}
use Rattle.jc_code.specs.declared.fault.CodeFault.{CodeFault}
use Rattle.jc_code.specs.declared.fault.CodeFault.TheVariants.{CutShort}
use Rattle.jc_code.specs.declared.instr.Instr.{Instr}
use Rattle.jc_code.specs.declared.instr.Operation.{Operation}
use Rattle.jc_code.specs.declared.instr.Operation.TheVariants.{Word}
use Rattle.jc_code.specs.Decoding.{next_constant, next_word_operation}
use Rattle.jc_code.specs.Instructions.{instr_at, word_instr_at, instr_of, next_operation, next_pc_of}
use Rattle.jc_code.specs.PrivateLengths.{HasLength, behind, next_any, pc_behind, rest_of}

-- the pc at which these bytes begin
abbrev pc_of : List ℕ → Result (List ℕ) CodeFault → Result ℕ CodeFault
pc_of code (Ok rest) = Ok (length code - length rest)
pc_of code (Err fault) = Err fault

-- an operation that was read at a pc, seen as any operation, and the bytes behind it
abbrev seen : {A : Type 0} → List ℕ → (A → Operation) → Result (Read A) CodeFault → Result Instr CodeFault
seen code view r = r >>= (λ read. Ok (instr_of code (record { value = view read.value; rest = read.rest })))

by_rest : {A : Type 0} (code : List ℕ) (view : A → Operation) (r : Result (Read A) CodeFault)
    → next_pc_of (seen code view r) ≡ pc_of code (rest_of r)
by_rest code view r = grind arith

behind_pc : (code : List ℕ) (pc count : ℕ) (bytes : List ℕ) → length code ≡ pc + suc (length bytes)
    → pc_of code (behind count bytes) ≡ pc_behind code pc (suc count)
behind_pc code pc count bytes e = grind (arith, length-drop count bytes)

-- the instruction at a pc is that in front of what stands from there on
any_at : (code bytes : List ℕ) (pc : ℕ) → drop pc code ≡ bytes
    → instr_at code pc ≡ (next_operation bytes >>= (λ read. Ok (instr_of code read)))
unfolding instr_at
any_at code bytes pc e = ap (λ b. next_operation b >>= (λ read. Ok (instr_of code read))) e

word_at : (code bytes : List ℕ) (pc : ℕ) → drop pc code ≡ bytes
    → word_instr_at code pc ≡ seen code Word (next_word_operation bytes)
unfolding word_instr_at
word_at code bytes pc e = ap (λ b. seen code Word (next_word_operation b)) e

any_front : (code : List ℕ) (pc opcode count : ℕ) (bytes : List ℕ) → length code ≡ pc + suc (length bytes)
    → HasLength (suc count) (next_any opcode)
    → next_pc_of (next_operation (opcode ∷ bytes) >>= (λ read. Ok (instr_of code read))) ≡ pc_behind code pc (suc count)
unfolding next_operation
any_front code pc opcode count bytes e h =
    by_rest code (λ operation. operation) (next_any opcode bytes) ∙ ap (pc_of code) (h bytes)
    ∙ behind_pc code pc count bytes e

word_front : (code : List ℕ) (pc opcode count : ℕ) (bytes : List ℕ) → length code ≡ pc + suc (length bytes)
    → HasLength (suc count) (next_constant opcode)
    → next_pc_of (seen code Word (next_word_operation (opcode ∷ bytes))) ≡ pc_behind code pc (suc count)
unfolding next_word_operation
word_front code pc opcode count bytes e h = grind (arith, by_rest, behind_pc)

-- nothing stands past the code's end
pub no_instr : (code : List ℕ) (pc : ℕ) → length code ≤ pc → next_pc_of (instr_at code pc) ≡ Err CutShort
unfolding next_operation
no_instr code pc le = ap next_pc_of (any_at code [] pc (drop_all pc code le))

pub no_word_instr : (code : List ℕ) (pc : ℕ) → length code ≤ pc → next_pc_of (word_instr_at code pc) ≡ Err CutShort
unfolding next_word_operation
no_word_instr code pc le = ap next_pc_of (word_at code [] pc (drop_all pc code le))

pub by_length : (code : List ℕ) (pc count : ℕ) → pc < length code → count ≢ 0
    → HasLength count (next_any (get_or code pc 0))
    → next_pc_of (instr_at code pc) ≡ pc_behind code pc count
by_length code pc count h1 h2 h3 = grind (arith, any_at, drop_more, any_front, get_or, length-drop)

pub words_by_length : (code : List ℕ) (pc count : ℕ) → pc < length code → count ≢ 0
    → HasLength count (next_constant (get_or code pc 0))
    → next_pc_of (word_instr_at code pc) ≡ pc_behind code pc count
words_by_length code pc count h1 h2 h3 = grind (arith, word_at, drop_more, word_front, get_or, length-drop)
