use Rattle.std.proofs.Common.{◌≡◌, ◌+◌, ◌*◌, ◌++◌, take}
use Rattle.arrayvec.specs.ArrayVec.{array_vec_len}
use Rattle.hex.specs.Hex.{encode_upper}
use Rattle.jc_script.proofs.hexadecimal.put_digits.Given as goal

abbrev pub invariant-loop-byte : goal.invariant-loop-byte
invariant-loop-byte g l =
    (l.line.items ≡ l.initial.line.items ++ encode_upper (take l.byte-index l.bytes))
    × (array_vec_len l.line ≡ array_vec_len l.initial.line + 2 * l.byte-index)
