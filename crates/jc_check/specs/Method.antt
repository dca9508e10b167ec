-- A method for the check.
use Rattle.std.specs.Prelude.{ℕ, ◌+◌, ◌==◌, ◌&&◌, nat_le, nat_lt, Bool, List, [], ◌∷◌, Option, Some, None}
use Rattle.std.specs.Prelude.{if◌then◌else◌}
use Rattle.jc_names.specs.declared.name.ClassName.{ClassName}
use Rattle.jc_types.specs.declared.ty.Ty.{Ty}
use Rattle.jc_types.specs.declared.ty.Ty.TheVariants.{Word, Class}
use Rattle.jc_types.specs.State.{Types, entry_types}
use Rattle.jc_cert.specs.Cert.{Stated, Row}

-- an exception handler: the first pc that it covers and the number of pcs, the pc at which it goes on, and the class
-- that it catches, if its entry of the constant pool names one that may be thrown
pub record CheckedHandler : Type 0 where
  pub start : ℕ
  pub length : ℕ
  pub goes_on : ℕ
  pub caught : Option ClassName

-- a handler covers a pc
abbrev pub covers : CheckedHandler → ℕ → Bool
covers h pc = nat_le h.start pc && nat_lt pc (h.start + h.length)

-- the types where a handler goes on: the locals unchanged, and the class that it catches as the only operand
abbrev pub caught_types : ClassName → Types → Types
caught_types class s = record { locals = s.locals; operands = Class class ∷ [] }

-- its code, the types of its arguments, the number of its other locals, the greatest number of its operands, the type
-- of its result, if it isn't void, and its exception handlers
pub record CheckedMethod : Type 0 where
  pub code : List ℕ
  pub arguments : List Ty
  pub max_locals : ℕ
  pub max_stack : ℕ
  pub returned : Option Ty
  pub handlers : List CheckedHandler

-- the state at its entry
abbrev pub entry_of : CheckedMethod → Types
entry_of m = entry_types m.arguments m.max_locals

-- the number of locals, and the greatest number of operands, of code alone
abbrev pub word_locals : ℕ
word_locals = 2

abbrev pub word_max_stack : ℕ
word_max_stack = 8

-- code alone: a static method without arguments and handlers that returns a short
abbrev pub word_method : List ℕ → CheckedMethod
word_method code =
    record {
      code = code;
      arguments = [];
      max_locals = word_locals;
      max_stack = word_max_stack;
      returned = Some Word;
      handlers = [];
    }

-- the certificate's states for the only method, at offset 0; none if there is a row for another method
abbrev pub states_of : List Row → Option (List Stated)
states_of [] = Some []
states_of (row ∷ []) = if row.offset == 0 then Some row.states else None
states_of (row ∷ next ∷ rows) = None
