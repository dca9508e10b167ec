-- The contents of a certificate: for methods, the types of the locals and the operands at places of their code.
use Rattle.std.specs.Prelude.{ℕ, ◌+◌, ◌<◌, ◌≤◌, ◌^◌, List, [], ◌∷◌, length, map}
use Rattle.std.specs.List.{AllByRecursion}
use Rattle.jc_base.specs.Aid.{shortest_aid, longest_aid}
use Rattle.jc_cert.specs.declared.stated_type.SpelledClass.{SpelledClass}
use Rattle.jc_cert.specs.declared.stated_type.SpelledClass.TheVariants.{Own, Api, Other}
use Rattle.jc_cert.specs.declared.stated_type.StatedType.{StatedType}
use Rattle.jc_cert.specs.declared.stated_type.StatedType.TheVariants.{Top, Word, Null, Class, BooleanArray, ByteArray}
use Rattle.jc_cert.specs.declared.stated_type.StatedType.TheVariants.{ShortArray, ReferenceArray}
use Rattle.jc_cert.specs.declared.cert.StateRow.{StateRow}
use Rattle.jc_cert.specs.declared.cert.MethodStates.{MethodStates}

-- the types at a pc, the operands bottom first
pub record Stated : Type 0 where
  pub pc : ℕ
  pub locals : List StatedType
  pub operands : List StatedType

-- the states of the method whose header is at an offset
pub record Row : Type 0 where
  pub offset : ℕ
  pub states : List Stated

-- pcs at or above `least`, each above the one before
abbrev pub PcsAscend : ℕ → List Stated → Type 0
PcsAscend least [] = Unit {0}
PcsAscend least (s ∷ states) = (least ≤ s.pc) × PcsAscend (s.pc + 1) states

-- offsets at or above `least`, each above the one before
abbrev pub OffsetsAscend : ℕ → List Row → Type 0
OffsetsAscend least [] = Unit {0}
OffsetsAscend least (r ∷ rows) = (least ≤ r.offset) × OffsetsAscend (r.offset + 1) rows

-- a class's name whose offset fits two bytes, and whose AID has the length of an AID
abbrev pub IsSpelledClass : SpelledClass → Type 0
IsSpelledClass (Own offset) = offset < 2 ^ 16
IsSpelledClass (Api class) = Unit {0}
IsSpelledClass (Other aid offset) = (shortest_aid ≤ length aid) × (length aid ≤ longest_aid) × (offset < 2 ^ 16)

-- a type whose class, if it has one, has such a name
abbrev pub IsStatedType : StatedType → Type 0
IsStatedType Top = Unit {0}
IsStatedType Word = Unit {0}
IsStatedType Null = Unit {0}
IsStatedType (Class class) = IsSpelledClass class
IsStatedType BooleanArray = Unit {0}
IsStatedType ByteArray = Unit {0}
IsStatedType ShortArray = Unit {0}
IsStatedType (ReferenceArray class) = IsSpelledClass class

-- a state whose pc and count of locals fit two bytes each, and whose count of operands fits one
pub record IsStated (s : Stated) : Type 0 where
  pub pc : s.pc < 2 ^ 16
  pub locals : length s.locals < 2 ^ 16
  pub depth : length s.operands < 2 ^ 8
  pub each_local : AllByRecursion IsStatedType s.locals
  pub each_operand : AllByRecursion IsStatedType s.operands

-- a row with at least one state, by strictly ascending pc
pub record IsRow (r : Row) : Type 0 where
  pub offset : r.offset < 2 ^ 16
  pub some : 1 ≤ length r.states
  pub count : length r.states < 2 ^ 16
  pub each : AllByRecursion IsStated r.states
  pub ascend : PcsAscend 0 r.states

-- rows by strictly ascending offset
pub record IsCert (rows : List Row) : Type 0 where
  pub count : length rows < 2 ^ 16
  pub each : AllByRecursion IsRow rows
  pub ascend : OffsetsAscend 0 rows

-- the code's rows as these records
abbrev pub stated : StateRow → Stated
stated s = record { pc = s.pc; locals = s.locals.items; operands = s.operands.items }

abbrev pub row : MethodStates → Row
row m = record { offset = m.offset; states = map stated m.states.items }

abbrev pub rows : List MethodStates → List Row
rows methods = map row methods
