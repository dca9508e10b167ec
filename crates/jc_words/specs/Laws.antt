-- Operators on words of 16 bits give words of 16 bits, and a switch takes an offset that it names.
use Rattle.std.specs.Prelude.{◌≡◌, ℕ, ℤ, ◌<◌, List, ◌∷◌, map, Some}
use Rattle.std.specs.List.{Contains}
use Rattle.jc_code.specs.declared.instr.BinaryOperator.{BinaryOperator}
use Rattle.jc_code.specs.declared.instr.UnaryOperator.{UnaryOperator}
use Rattle.jc_code.specs.declared.tables.Case.{Case}
use Rattle.jc_words.specs.Shorts.{binary_of, incremented, lookup_offset, stable_offset, unary_of}

pub record WordLaws : Type 0 where
  -- the result of a binary operator, of a unary operator and of an increment is a word
  pub binary : (operator : BinaryOperator) (a b n : ℕ) → a < 65536 → b < 65536 → binary_of operator a b ≡ Some n
      → n < 65536
  pub unary : (operator : UnaryOperator) (a : ℕ) → unary_of operator a < 65536
  pub increment : (a : ℕ) (by : ℤ) → incremented a by < 65536
  -- the offset that a switch takes is its default or one of its table's
  pub stable : (default low : ℤ) (offsets : List ℤ) (key : ℤ)
      → Contains (default ∷ offsets) (stable_offset default low offsets key)
  pub lookup : (default : ℤ) (cases : List Case) (key : ℤ)
      → Contains (default ∷ map (λ (c : Case). c.offset) cases) (lookup_offset default cases key)
