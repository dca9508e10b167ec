-- What operators make of words of 16 bits is a word of 16 bits.
use Rattle.std.proofs.Common.{◌≡◌, ℕ, ◌%◌, ◌<◌, ◌≤◌, ◌==◌, Bool, true, false, cond, rules}
use Rattle.std.proofs.Common.{Some, None, subst, arith, ℤ, pos, negsuc, nat_abs}
use Rattle.std.proofs.lemmas.Int.{ints}
use Rattle.std.proofs.lemmas.Nat.{and_le_l, div-add-mod', or_lt, xor_lt}
use Rattle.std.specs.Int.{w16}
use Rattle.std.specs.Int.RustNames.{FitsSigned}
use Rattle.std.specs.Prelude.{int_rem}
use Rattle.jc_code.specs.declared.instr.BinaryOperator.{BinaryOperator}
use Rattle.jc_code.specs.declared.instr.BinaryOperator.TheVariants.{Add, And, Divide, Multiply, Or, Remainder}
use Rattle.jc_code.specs.declared.instr.BinaryOperator.TheVariants.{ShiftLeft, ShiftRight, ShiftRightUnsigned}
use Rattle.jc_code.specs.declared.instr.BinaryOperator.TheVariants.{Subtract, Xor}
use Rattle.jc_code.specs.declared.instr.UnaryOperator.{UnaryOperator}
use Rattle.jc_code.specs.declared.instr.UnaryOperator.TheVariants.{Negate, ToByte}
use Rattle.jc_words.specs.Shorts.{binary_of, incremented, short, unary_of, word_of}

-- a remainder is no larger than the dividend
rest_at_most : (n m : ℕ) → n % m ≤ n
rest_at_most n m = let whole = div-add-mod' n m in omega (arith, whole)

rem_bound : (a d : ℤ) → FitsSigned w16 a → word_of (int_rem a d) < 65536
rem_bound (pos a) d h = let k = rest_at_most a (nat_abs d) in omega (arith, k, h.sfits)
rem_bound (negsuc a) d h = omega (arith, ints)

divided_bound : (test : Bool) (x n : ℕ) → cond test None (Some x) ≡ Some n → x < 65536 → n < 65536
divided_bound true x n e h = absurd cc
divided_bound false x n e h =
    let same : x ≡ n = cc in
    subst (λ (k : ℕ). k < 65536) same h

some_bound : (x n : ℕ) → Some x ≡ Some n → x < 65536 → n < 65536
some_bound x n e h = divided_bound false x n e h

pub binary_bound : (operator : BinaryOperator) (a b n : ℕ) → a < 65536 → b < 65536
    → binary_of operator a b ≡ Some n → n < 65536
binary_bound Add a b n f g e = some_bound _ n e (omega (arith, ints))
binary_bound Subtract a b n f g e = some_bound _ n e (omega (arith, ints))
binary_bound Multiply a b n f g e = some_bound _ n e (omega (arith, ints))
binary_bound Divide a b n f g e = divided_bound (b == 0) _ n e (omega (arith, ints))
binary_bound Remainder a b n f g e =
    divided_bound (b == 0) _ n e (rem_bound (short a) (short b) (search rules))
binary_bound ShiftLeft a b n f g e = some_bound _ n e (omega arith)
binary_bound ShiftRight a b n f g e = some_bound _ n e (omega arith)
binary_bound ShiftRightUnsigned a b n f g e = some_bound _ n e (omega arith)
binary_bound And a b n f g e = let k = and_le_l a b in some_bound _ n e (omega (arith, k))
binary_bound Or a b n f g e = some_bound _ n e (or_lt 16 a b f g)
binary_bound Xor a b n f g e = some_bound _ n e (xor_lt 16 a b f g)

pub unary_bound : (operator : UnaryOperator) (a : ℕ) → unary_of operator a < 65536
unary_bound Negate a = omega (arith, ints)
unary_bound ToByte a = omega (arith, ints)

pub incremented_bound : (a : ℕ) (by : ℤ) → incremented a by < 65536
incremented_bound a by = omega (arith, ints)
