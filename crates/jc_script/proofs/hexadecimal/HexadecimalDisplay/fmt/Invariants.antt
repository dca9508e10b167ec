use Rattle.std.proofs.Common.{take}
use Rattle.std.specs.Fmt.{HasWritten, IsPlainFormatter}
use Rattle.hex.specs.Hex.{encode_upper}
use Rattle.jc_script.proofs.hexadecimal.HexadecimalDisplay.fmt.Given as goal

abbrev pub invariant-loop-byte : goal.invariant-loop-byte
invariant-loop-byte g l =
    IsPlainFormatter l.initial.f
    → HasWritten g.W.Write.write_str_gives l.initial.f (encode_upper (take l.byte-index l.self.bytes.now)) l.f
