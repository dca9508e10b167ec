-- An instruction ends behind its pc, and within the code; what it pushes is a short.
use Rattle.std.proofs.Common.{◌≡◌, ℕ, ℤ, suc, ◌+◌, ◌-◌, ◌≤◌, ◌<◌, List, length, drop, Result, Ok, Err, subst}
use Rattle.std.proofs.Common.{arith, length-drop}
use Rattle.std.specs.Int.{w16}
use Rattle.std.specs.Int.RustNames.{FitsSigned}
use Rattle.jc_base.specs.Cursor.{Read}
use Rattle.jc_base.specs.Results.{◌>>=◌}
use Rattle.jc_code.specs.declared.fault.CodeFault.{CodeFault}
use Rattle.jc_code.specs.declared.instr.Instr.{Instr}
use Rattle.jc_code.specs.declared.instr.Operation.{Operation}
use Rattle.jc_code.specs.declared.instr.Operation.TheVariants.{Object, Word}
use Rattle.jc_code.specs.declared.instr.WordOperation.{WordOperation}
use Rattle.jc_code.specs.declared.instr.WordOperation.TheVariants.{Push}
use Rattle.jc_code.specs.declared.object.ObjectOperation.{ObjectOperation}
use Rattle.jc_code.specs.Decoding.{next_constant, next_word_operation}
use Rattle.jc_code.specs.Objects.{next_object}
use Rattle.jc_code.specs.Instructions.{either_operation, next_operation, instr_of, instr_at, word_instr_at}
use Rattle.jc_code.specs.Listing.{Decoder}
use Rattle.jc_code.proofs.Advance.{Gives, IsLeft, IsSmall, words_left}
use Rattle.jc_code.proofs.ObjectAdvance.{objects_left}

left_of : {A : Type 0} {P : A → Type 0} (n : ℕ) (r : Result (Read A) CodeFault) (operation : A) (rest : List ℕ)
    → Gives P n r → r ≡ Ok (record { value = operation; rest = rest }) → length rest ≤ n
left_of {A} {P} n r operation rest h e = (subst (λ (q : Result (Read A) CodeFault). Gives P n q) e h).left.0

-- what is left behind an operation is no more than there was
pub left_behind_word : (op : ℕ) (bytes : List ℕ) (operation : WordOperation) (rest : List ℕ) → next_constant op bytes ≡ Ok (record { value = operation; rest = rest }) → length rest ≤ length bytes
left_behind_word op bytes operation rest e = left_of (length bytes) (next_constant op bytes) operation rest (words_left (length bytes) op bytes (omega arith)) e

pub left_behind_object : (op : ℕ) (bytes : List ℕ) (operation : ObjectOperation) (rest : List ℕ) → next_object op bytes ≡ Ok (record { value = operation; rest = rest }) → length rest ≤ length bytes
left_behind_object op bytes operation rest e = left_of (length bytes) (next_object op bytes) operation rest (objects_left (length bytes) op bytes (omega arith)) e

-- what an operation pushes is a short
abbrev IsSmallOperation : Operation → Type 0
IsSmallOperation (Word operation) = IsSmall operation
IsSmallOperation (Object operation) = Unit {0}

either_left : (n : ℕ) (word : Result (Read WordOperation) CodeFault) (object : Result (Read ObjectOperation) CodeFault)
    → Gives IsSmall n word → IsLeft n object → Gives IsSmallOperation n (either_operation word object)
either_left n word object h1 h2 = grind arith

abbrev Advances : ℕ → ℕ → Result Instr CodeFault → Type 0
Advances n pc (Ok instr) = (pc < instr.next_pc) × (instr.next_pc ≤ n) × IsSmallOperation instr.operation
Advances n pc (Err fault) = Unit {0}

behind : {A : Type 0} (code : List ℕ) (pc n : ℕ) (view : A → Operation) (r : Result (Read A) CodeFault)
    → suc n + pc ≡ length code → Gives (λ a. IsSmallOperation (view a)) n r
    → Advances (length code) pc (r >>= (λ read. Ok (instr_of code (record { value = view read.value; rest = read.rest }))))
behind code pc n view r h1 h2 = grind arith

at_front : (code : List ℕ) (pc : ℕ) (bytes : List ℕ) → length bytes ≡ length code - pc → Advances (length code) pc (next_operation bytes >>= (λ read. Ok (instr_of code read)))
unfolding next_operation
at_front code pc bytes h1 = grind (arith, behind, either_left, words_left, objects_left)

words_at_front : (code : List ℕ) (pc : ℕ) (bytes : List ℕ) → length bytes ≡ length code - pc
    → Advances (length code) pc (next_word_operation bytes >>= (λ read. Ok (instr_of code (record { value = Word read.value; rest = read.rest }))))
unfolding next_word_operation
words_at_front code pc bytes h1 = grind (arith, behind, words_left)

-- what a decoder gives ends behind its pc and within the code
abbrev pub Ascends : Decoder → Type 0
Ascends decoder = (code : List ℕ) (pc : ℕ) (instr : Instr) → decoder code pc ≡ Ok instr → (pc < instr.next_pc) × (instr.next_pc ≤ length code)

-- the constants that it pushes are shorts
abbrev pub Pushes : Decoder → Type 0
Pushes decoder = (code : List ℕ) (pc : ℕ) (instr : Instr) (value : ℤ) → decoder code pc ≡ Ok instr
    → instr.operation ≡ Word (Push value) → FitsSigned w16 value

module _ (decoder : Decoder) (h : (code : List ℕ) (pc : ℕ) → Advances (length code) pc (decoder code pc)) where
  advances : (code : List ℕ) (pc : ℕ) (instr : Instr) → decoder code pc ≡ Ok instr
      → Advances (length code) pc (Ok instr)
  advances code pc instr e = subst (λ (r : Result Instr CodeFault). Advances (length code) pc r) e (h code pc)

  ascends_by : Ascends decoder
  ascends_by code pc instr e = let a = advances code pc instr e in (a.0, a.1)

  pushes_by : Pushes decoder
  pushes_by code pc instr value e is = subst IsSmallOperation is (advances code pc instr e).2

all_advance : (code : List ℕ) (pc : ℕ) → Advances (length code) pc (instr_at code pc)
unfolding instr_at
all_advance code pc = at_front code pc (drop pc code) (length-drop pc code)

words_advance : (code : List ℕ) (pc : ℕ) → Advances (length code) pc (word_instr_at code pc)
unfolding word_instr_at
words_advance code pc = words_at_front code pc (drop pc code) (length-drop pc code)

pub all_ascend : Ascends instr_at
all_ascend = ascends_by instr_at all_advance

pub words_ascend : Ascends word_instr_at
words_ascend = ascends_by word_instr_at words_advance

pub all_push : Pushes instr_at
all_push = pushes_by instr_at all_advance

pub words_push : Pushes word_instr_at
words_push = pushes_by word_instr_at words_advance
