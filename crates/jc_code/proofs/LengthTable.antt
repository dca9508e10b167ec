-- The lengths of opcodes are those that decoding finds: at each opcode by computing.
use Rattle.std.proofs.Common.{◌≡◌, ℕ, zero, suc, ◌+◌, List, [], ◌∷◌, length, Some, Result, Ok, Err}
use Rattle.std.proofs.Common.{subst, arith}
use Rattle.std.specs.Prelude.{slice_get}
use Rattle.jc_base.proofs.Binding.{none_some, the_some}
use Rattle.jc_base.specs.Cursor.{Read}
use Rattle.jc_code.specs.declared.fault.CodeFault.{CodeFault}
use Rattle.jc_code.specs.declared.fault.CodeFault.TheVariants.{CutShort}
use Rattle.jc_code.specs.PrivateLengths.{AreLengths, HasLength, behind, rest_of}

-- so many bytes are read, whatever they are, and what follows them is left
abbrev Reads : {A : Type 0} → ℕ → (List ℕ → Result (Read A) CodeFault) → Type 0
Reads zero read = (bytes : List ℕ) → rest_of (read bytes) ≡ Ok bytes
Reads (suc count) read = (rest_of (read []) ≡ Err CutShort) × ((b : ℕ) → Reads count (λ bytes. read (b ∷ bytes)))

-- the lengths that tell are those of their opcodes, from one opcode on
abbrev EachReads : {A : Type 0} → (ℕ → List ℕ → Result (Read A) CodeFault) → ℕ → List ℕ → Type 0
EachReads read first [] = Unit {0}
EachReads read first (zero ∷ ns) = EachReads read (suc first) ns
EachReads read first (suc n ∷ ns) = Reads n (read first) × EachReads read (suc first) ns

infixr 10 ◌&◌
abbrev pub ◌&◌ : {A B : Type 0} → A → B → A × B
a & b = (a, b)

reads_behind : {A : Type 0} (count : ℕ) (read : List ℕ → Result (Read A) CodeFault) → Reads count read
    → (bytes : List ℕ)
    → rest_of (read bytes) ≡ behind count bytes
reads_behind zero read h bytes = grind (arith, h bytes)
reads_behind (suc count) read h [] = grind (arith, h.0)
reads_behind (suc count) read h (b ∷ bytes) = grind (arith, reads_behind count (λ r. read (b ∷ r)) (h.1 b) bytes)

theirs : {A : Type 0} (read : ℕ → List ℕ → Result (Read A) CodeFault) (first : ℕ) (ns : List ℕ)
    → EachReads read first ns
    → (index count : ℕ) → slice_get ns index ≡ Some count → HasLength count (read (first + index))
theirs read first [] h index count e = absurd (none_some count e)
theirs read first (zero ∷ ns) h zero count e =
    subst (λ (x : ℕ). HasLength x (read (first + 0))) (the_some zero count e) tt
theirs read first (suc n ∷ ns) h zero count e =
    let same : first + 0 ≡ first = omega arith in
    rw same (subst (λ (x : ℕ). HasLength x (read first)) (the_some (suc n) count e) (reads_behind n (read first) h.0))
theirs read first (zero ∷ ns) h (suc index) count e =
    let same : first + suc index ≡ suc first + index = omega arith in
    rw same (theirs read (suc first) ns h index count e)
theirs read first (suc n ∷ ns) h (suc index) count e =
    let same : first + suc index ≡ suc first + index = omega arith in
    rw same (theirs read (suc first) ns h.1 index count e)

pub are_lengths : {A : Type 0} (read : ℕ → List ℕ → Result (Read A) CodeFault) (ns : List ℕ) → EachReads read 0 ns
    → length ns ≡ 256 → AreLengths read ns
are_lengths read ns h all = record {
  each = λ opcode count e.
      subst (λ (n : ℕ). HasLength count (read n)) (zero_plus opcode) (theirs read 0 ns h opcode count e);
  all = all;
}
  where
    zero_plus : (n : ℕ) → 0 + n ≡ n
    zero_plus n = omega arith
