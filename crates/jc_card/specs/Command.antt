-- Command APDUs of a reader (ISO/IEC 7816-3 and 7816-4: short command APDUs, SELECT by name).
use Rattle.std.specs.Prelude.{ℕ, ◌+◌, ◌==◌, ◌&&◌, ◌||◌, Bool, not, List, [], ◌∷◌, ◌++◌, length, drop, take, Option}
use Rattle.std.specs.Prelude.{Some, None, bytes_eq, get_or, replicate, if◌then◌else◌}

-- a command: CLA, INS, P1 and P2; P3, which is Lc or Le, or 0 if it is missing; the data; and Le, or 0 if it is missing
pub record Command : Type 0 where
  pub header : List ℕ
  pub p3 : ℕ
  pub incoming : List ℕ
  pub expected : ℕ

-- P3
abbrev pub p3_of : List ℕ → ℕ
p3_of bytes = get_or bytes 4 0

-- Lc isn't 0, and that many bytes of data follow, possibly with Le after them
abbrev pub has_data : List ℕ → Bool
has_data bytes =
    not (p3_of bytes == 0) && (length bytes == 5 + p3_of bytes || length bytes == 6 + p3_of bytes)

abbrev pub without_data : List ℕ → Command
without_data bytes =
    record { header = take 4 bytes; p3 = p3_of bytes; incoming = []; expected = p3_of bytes }

abbrev pub with_data : List ℕ → Command
with_data bytes = record {
  header = take 4 bytes;
  p3 = p3_of bytes;
  incoming = take (p3_of bytes) (drop 5 bytes);
  expected = get_or bytes (5 + p3_of bytes) 0;
}

-- the command that these bytes encode, if they are one: a header alone, with Le, or with data
abbrev pub command_of : List ℕ → Option Command
command_of bytes =
    if length bytes == 4 || length bytes == 5 then Some (without_data bytes)
    else if has_data bytes then Some (with_data bytes) else None

-- SELECT by name: CLA 00, INS A4, P1 04, P2 00
abbrev pub is_select : Command → Bool
is_select k = bytes_eq k.header (0x00 ∷ 0xA4 ∷ 0x04 ∷ 0x00 ∷ [])

-- the APDU buffer when a command arrives: the header and P3, and then zeros
abbrev pub buffer_size : ℕ
buffer_size = 261

abbrev pub buffer_of : Command → List ℕ
buffer_of k = k.header ++ k.p3 ∷ replicate 256 0

-- ---- answers

-- status words (ISO/IEC 7816-4): normal; the length is wrong; no applet is selected; no precise diagnosis
abbrev pub normal : ℕ
normal = 0x9000

abbrev pub wrong_length : ℕ
wrong_length = 0x6700

abbrev pub not_selected : ℕ
not_selected = 0x6999

abbrev pub unknown_error : ℕ
unknown_error = 0x6F00
