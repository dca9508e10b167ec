-- Reading goes forward: what is left behind an operation on words is no more than there was. What it pushes is a short.
use Rattle.std.proofs.Common.{ℕ, ◌*◌, ◌==◌, ◌≤◌, List, length, take, drop, Bool}
use Rattle.std.proofs.Common.{cond, nat_lt, Option, Some, None, Result, Ok, Err, arith}
use Rattle.std.proofs.Common.{length-drop, rules}
use Rattle.std.specs.Int.{w16}
use Rattle.std.specs.Int.RustNames.{FitsSigned}
use Rattle.jc_base.specs.Cursor.{Read, next_u1, next_u2, next_s1, next_s2, next_bytes}
use Rattle.jc_base.specs.Results.{◌>>=◌}
use Rattle.jc_code.specs.declared.fault.CodeFault.{CodeFault}
use Rattle.jc_code.specs.declared.fault.CodeFault.TheVariants.{BadOpcode}
use Rattle.jc_code.specs.declared.instr.WordOperation.{WordOperation}
use Rattle.jc_code.specs.declared.instr.WordOperation.TheVariants.{Push}
use Rattle.jc_code.specs.Tables.{operand, next_offsets, next_cases, offsets_of_bytes, cases_of_bytes}
use Rattle.jc_code.specs.Decoding.{done, listed, next_arithmetic, next_branch, next_constant}
use Rattle.jc_code.specs.Decoding.{next_control, next_local, next_lookup_switch, next_shuffle, next_stable_switch}
use Rattle.jc_code.specs.Decoding.{next_wide_branch, next_wide_increment}

-- what is left is no longer than n, and P holds of what was read
abbrev pub Left : {A : Type 0} → (A → Type 0) → ℕ → Result (Read A) CodeFault → Type 0
Left P n (Ok read) = (length read.rest ≤ n) × P read.value
Left P n (Err fault) = Unit {0}

pub record Gives {A : Type 0} (P : A → Type 0) (n : ℕ) (read : Result (Read A) CodeFault) : Type 0 where
  pub left : Left P n read

-- the same, where nothing is asked of what was read
abbrev pub IsLeft : {A : Type 0} → ℕ → Result (Read A) CodeFault → Type 0
IsLeft {A} n read = Gives {A = A} (λ a. Unit {0}) n read

abbrev pub Field : {A : Type 0} → ℕ → Option (Read A) → Type 0
Field n (Some read) = length read.rest ≤ n
Field n None = Unit {0}

module _ {A B : Type 0} {P : B → Type 0} (n : ℕ) where
  pub field : (o : Option (Read A)) (f : Read A → Result (Read B) CodeFault) → Field n o
      → ((r : Read A) → length r.rest ≤ n → Gives P n (f r)) → Gives P n (operand o >>= f)
  field o f h1 h2 = grind arith

  pub read_on : (r : Result (Read A) CodeFault) (f : Read A → Result (Read B) CodeFault) → IsLeft n r
      → ((r : Read A) → length r.rest ≤ n → Gives P n (f r)) → Gives P n (r >>= f)
  read_on r f h1 h2 = grind arith

  pub either : (o : Option A) (f : A → Result (Read B) CodeFault) (other : Result (Read B) CodeFault)
      → ((x : A) → Gives P n (f x)) → Gives P n other → Gives P n (listed o f other)
  either o f other h1 h2 = grind arith

module _ {A : Type 0} {P : A → Type 0} (n : ℕ) where
  pub chosen : (b : Bool) (x y : Result (Read A) CodeFault) → Gives P n x → Gives P n y → Gives P n (cond b x y)
  chosen b x y h1 h2 = grind arith

  pub none : (fault : CodeFault) → Gives {A = A} P n (Err fault)
  none fault = record { left = tt }

  gives : (x : A) (rest : List ℕ) → length rest ≤ n → P x → Gives P n (Ok (record { value = x; rest = rest }))
  gives x rest le p = record { left = (le, p) }

pub same : {A : Type 0} (n : ℕ) (x : A) (rest : List ℕ) → length rest ≤ n
    → IsLeft {A = A} n (Ok (record { value = x; rest = rest }))
same n x rest le = gives n x rest le tt

pub u1_left : (n : ℕ) (bytes : List ℕ) → length bytes ≤ n → Field n (next_u1 bytes)
u1_left n bytes h1 = grind arith

pub s1_left : (n : ℕ) (bytes : List ℕ) → length bytes ≤ n → Field n (next_s1 bytes)
s1_left n bytes h1 = grind arith

pub u2_left : (n : ℕ) (bytes : List ℕ) → length bytes ≤ n → Field n (next_u2 bytes)
u2_left n bytes h1 = grind arith

pub s2_left : (n : ℕ) (bytes : List ℕ) → length bytes ≤ n → Field n (next_s2 bytes)
s2_left n bytes h1 = grind arith

bytes_left : (n k : ℕ) (bytes : List ℕ) (b : Bool) → length bytes ≤ n → Field {A = List ℕ} n (cond b None (Some (record { value = take k bytes; rest = drop k bytes })))
bytes_left n k bytes b h1 = grind (arith, length-drop)

table_left : {A : Type 0} (n : ℕ) (o : Option (Read (List ℕ))) (view : List ℕ → A) → Field n o → IsLeft {A = A} n (operand o >>= (λ table. Ok (record { value = view table.value; rest = table.rest })))
table_left n o view h1 = grind arith

offsets_left : (n k : ℕ) (bytes : List ℕ) → length bytes ≤ n → IsLeft n (next_offsets k bytes)
unfolding next_offsets
offsets_left n k bytes le = table_left n (next_bytes (2 * k) bytes) offsets_of_bytes (bytes_left n (2 * k) bytes (nat_lt (length bytes) (2 * k)) le)

cases_left : (n k : ℕ) (bytes : List ℕ) → length bytes ≤ n → IsLeft n (next_cases k bytes)
unfolding next_cases
cases_left n k bytes le = table_left n (next_bytes (4 * k) bytes) cases_of_bytes (bytes_left n (4 * k) bytes (nat_lt (length bytes) (4 * k)) le)

stable_switch_left : (n : ℕ) (bytes : List ℕ) → length bytes ≤ n → IsLeft n (next_stable_switch bytes)
unfolding next_stable_switch
stable_switch_left n bytes le = grind (arith, field, s2_left, chosen, none, read_on, offsets_left, same)

lookup_switch_left : (n : ℕ) (bytes : List ℕ) → length bytes ≤ n → IsLeft n (next_lookup_switch bytes)
unfolding next_lookup_switch
lookup_switch_left n bytes le = field n (next_s2 bytes) _ (s2_left n bytes le) (λ d h. field n (next_u2 d.rest) _ (u2_left n d.rest h) (λ c i. read_on n (next_cases c.value c.rest) _ (cases_left n c.value c.rest i) (λ t k. same n _ t.rest k)))

-- ---- operations on words

-- an operation that pushes no more than a short
abbrev pub IsSmall : WordOperation → Type 0
IsSmall (Push value) = FitsSigned w16 value
IsSmall _ = Unit {0}

abbrev Reads : ℕ → Result (Read WordOperation) CodeFault → Type 0
Reads n read = Gives IsSmall n read

wide_increment_left : (n : ℕ) (bytes : List ℕ) → length bytes ≤ n → Reads n (next_wide_increment bytes)
unfolding next_wide_increment
wide_increment_left n bytes le = grind (arith, field, u1_left, s2_left, gives)

wide_branch_left : (n op : ℕ) (bytes : List ℕ) → length bytes ≤ n → Reads n (next_wide_branch op bytes)
unfolding next_wide_branch
wide_branch_left n op bytes le = grind (arith, either, field, s2_left, gives, none)

control_left : (n op : ℕ) (bytes : List ℕ) → length bytes ≤ n → Reads n (next_control op bytes)
unfolding next_control
control_left n op bytes le =
    chosen n (op == 115) _ _
    (read_on n (next_stable_switch bytes) _ (stable_switch_left n bytes le) (λ t k. gives n _ t.rest k tt))
    (chosen n (op == 117) _ _
    (read_on n (next_lookup_switch bytes) _ (lookup_switch_left n bytes le) (λ t k. gives n _ t.rest k tt))
    (chosen n (op == 120) _ _ (gives n _ bytes le tt)
    (chosen n (op == 150) _ _ (wide_increment_left n bytes le)
    (chosen n (nat_lt op 152) _ _ (none n BadOpcode) (wide_branch_left n op bytes le)))))

branch_left : (n op : ℕ) (bytes : List ℕ) → length bytes ≤ n → Reads n (next_branch op bytes)
unfolding next_branch
branch_left n op bytes le = grind (arith, either, field, s1_left, gives, control_left)

arithmetic_left : (n op : ℕ) (bytes : List ℕ) → length bytes ≤ n → Reads n (next_arithmetic op bytes)
unfolding next_arithmetic
arithmetic_left n op bytes le = grind (arith, chosen, gives, field, u1_left, s1_left, either, branch_left)

shuffle_left : (n op : ℕ) (bytes : List ℕ) → length bytes ≤ n → Reads n (next_shuffle op bytes)
unfolding next_shuffle
shuffle_left n op bytes le = grind (arith, chosen, gives, field, u1_left, none, arithmetic_left)

local_left : (n op : ℕ) (bytes : List ℕ) → length bytes ≤ n → Reads n (next_local op bytes)
unfolding next_local
local_left n op bytes le = grind (arith, chosen, field, u1_left, gives, shuffle_left)

-- a byte or two, with their sign
pushed_byte : (n : ℕ) (bytes : List ℕ) → length bytes ≤ n
    → Reads n (operand (next_s1 bytes) >>= λ r. done (Push r.value) r.rest)
pushed_byte n bytes h1 = grind (arith, none, gives, rules)

pushed_word : (n : ℕ) (bytes : List ℕ) → length bytes ≤ n
    → Reads n (operand (next_s2 bytes) >>= λ r. done (Push r.value) r.rest)
pushed_word n bytes h1 = grind (arith, none, gives, rules)

pub words_left : (n op : ℕ) (bytes : List ℕ) → length bytes ≤ n → Reads n (next_constant op bytes)
unfolding next_constant
words_left n op bytes le = grind (arith, chosen, gives, rules, pushed_byte, pushed_word, local_left)
