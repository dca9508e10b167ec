-- Refusals: their numbers and names, their places, the words of their printed lines, and their order.
use Rattle.std.specs.Prelude.{ℕ, List, ◌++◌, codes, Bool, ◌&&◌, ◌||◌, ◌==◌, nat_lt, if◌then◌else◌}
use Rattle.std.specs.Fmt.{decimal}
use Rattle.jc_base.specs.Reason.{name_of}
use Rattle.jc_base.specs.declared.fault.LoadFault.{LoadFault}
use Rattle.jc_base.specs.declared.fault.LoadFault.TheVariants.{ShortComponent, ExtraBytes, MissingComponent}
use Rattle.jc_base.specs.declared.fault.LoadFault.TheVariants.{RepeatedComponent, BadMagic, FormatVersion, IntPackage}
use Rattle.jc_base.specs.declared.fault.LoadFault.TheVariants.{BadAid, Malformed, MissingImport, Unresolved}
use Rattle.jc_base.specs.declared.fault.LoadFault.TheVariants.{TypeMismatch, BadClass, BadStatic, DuplicatePackage}
use Rattle.jc_base.specs.declared.fault.LoadFault.TheVariants.{BadCertificate, MethodRefused, Full, Memory}

-- the words of a refusal's line after the word `refused`: number, name and places, separated by one space; tags,
-- tokens, indices, offsets and pcs in decimal
abbrev pub words_of : LoadFault → List ℕ
words_of ShortComponent = codes "1 ShortComponent"
words_of ExtraBytes = codes "2 ExtraBytes"
words_of (MissingComponent tag) = codes "3 MissingComponent " ++ decimal tag
words_of (RepeatedComponent tag) = codes "4 RepeatedComponent " ++ decimal tag
words_of BadMagic = codes "5 BadMagic"
words_of FormatVersion = codes "6 FormatVersion"
words_of IntPackage = codes "7 IntPackage"
words_of BadAid = codes "8 BadAid"
words_of (Malformed tag) = codes "9 Malformed " ++ decimal tag
words_of (MissingImport token) = codes "10 MissingImport " ++ decimal token
words_of (Unresolved index) = codes "11 Unresolved " ++ decimal index
words_of (TypeMismatch index) = codes "12 TypeMismatch " ++ decimal index
words_of (BadClass offset) = codes "13 BadClass " ++ decimal offset
words_of (BadStatic offset) = codes "14 BadStatic " ++ decimal offset
words_of DuplicatePackage = codes "15 DuplicatePackage"
words_of BadCertificate = codes "16 BadCertificate"
words_of (MethodRefused method pc reason) =
    ((((codes "17 MethodRefused " ++ decimal method) ++ codes " ") ++ decimal pc) ++ codes " ") ++ name_of reason
words_of Full = codes "18 Full"
words_of Memory = codes "19 Memory"

-- the number of a refusal
abbrev pub number_of : LoadFault → ℕ
number_of ShortComponent = 1
number_of ExtraBytes = 2
number_of (MissingComponent tag) = 3
number_of (RepeatedComponent tag) = 4
number_of BadMagic = 5
number_of FormatVersion = 6
number_of IntPackage = 7
number_of BadAid = 8
number_of (Malformed tag) = 9
number_of (MissingImport token) = 10
number_of (Unresolved index) = 11
number_of (TypeMismatch index) = 12
number_of (BadClass offset) = 13
number_of (BadStatic offset) = 14
number_of DuplicatePackage = 15
number_of BadCertificate = 16
number_of (MethodRefused method pc reason) = 17
number_of Full = 18
number_of Memory = 19

-- the tag, token, index or offset that a refusal names first; 0 for a refusal that names no place
abbrev pub place_of : LoadFault → ℕ
place_of ShortComponent = 0
place_of ExtraBytes = 0
place_of (MissingComponent tag) = tag
place_of (RepeatedComponent tag) = tag
place_of BadMagic = 0
place_of FormatVersion = 0
place_of IntPackage = 0
place_of BadAid = 0
place_of (Malformed tag) = tag
place_of (MissingImport token) = token
place_of (Unresolved index) = index
place_of (TypeMismatch index) = index
place_of (BadClass offset) = offset
place_of (BadStatic offset) = offset
place_of DuplicatePackage = 0
place_of BadCertificate = 0
place_of (MethodRefused method pc reason) = method
place_of Full = 0
place_of Memory = 0

-- of several refusals the one with the smaller number is reported, and of one number the one with the smaller place
abbrev pub is_told_before : LoadFault → LoadFault → Bool
is_told_before a b =
    nat_lt (number_of a) (number_of b) || (number_of a == number_of b && nat_lt (place_of a) (place_of b))

-- the one of two that is reported; the first if neither is reported before the other
abbrev pub least_of : LoadFault → LoadFault → LoadFault
least_of a b = if is_told_before b a then b else a
