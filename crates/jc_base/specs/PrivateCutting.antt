-- Private. The first component of a list of bytes, and what is kept of the components that were read.
use Rattle.std.specs.Prelude.{◌≡◌, ℕ, ◌+◌, ◌*◌, ◌^◌, ◌<◌, false, List, [], ◌∷◌, length, take, drop, Some, None, Result}
use Rattle.std.specs.Prelude.{Ok, Err, Option, nat_lt, slice_index_or, IfSome, if◌then◌else◌}
use Rattle.std.specs.Option.{option_copied}
use Rattle.std.specs.List.{find}
use Rattle.jc_base.specs.Cutting.{Piece, info_of, count_of, known}
use Rattle.jc_base.specs.declared.fault.LoadFault.{LoadFault}
use Rattle.jc_base.specs.declared.fault.LoadFault.TheVariants.{ShortComponent, ExtraBytes}
use Rattle.jc_base.specs.declared.cutting.Component.{Component}
use Rattle.jc_base.specs.declared.cutting.Slots.{Slots}

-- the end of the bytes; or a tag and an info, and the bytes after them; or a refusal
pub data Next : Type 0 where
  Ended : Next
  Found : ℕ → List ℕ → List ℕ → Next
  Refused : LoadFault → Next

abbrev pub next_of : List ℕ → Next
next_of [] = Ended
next_of (tag ∷ []) = Refused ExtraBytes
next_of (tag ∷ high ∷ []) = Refused ExtraBytes
next_of (tag ∷ high ∷ low ∷ bytes) =
    if nat_lt (length bytes) (256 * high + low) then Refused ShortComponent
    else Found tag (take (256 * high + low) bytes) (drop (256 * high + low) bytes)

-- what the code found, with what is left after it
abbrev pub next_is : Result (Option Component) LoadFault → List ℕ → Next
next_is (Ok None) rest = Ended
next_is (Ok (Some c)) rest = Found c.tag c.info.now rest
next_is (Err fault) rest = Refused fault

-- the info that is kept for a tag
abbrev pub info_in : Slots → ℕ → Option (List ℕ)
info_in slots tag = option_copied (slice_index_or slots.infos tag None)

-- the least known tag that is marked as repeated
abbrev pub twice_in : Slots → Option ℕ
twice_in slots = find (λ tag. slice_index_or slots.repeats tag false) known

-- the first info of each tag below 13, and whether the tag came again
pub record Holds (slots : Slots) (pieces : List Piece) : Type 0 where
  pub infos_len : length slots.infos ≡ 13
  pub infos : (tag : ℕ) → tag < 13 → info_in slots tag ≡ info_of tag pieces
  pub repeats_len : length slots.repeats ≡ 13
  pub repeats : (tag : ℕ) → tag < 13 → slice_index_or slots.repeats tag false ≡ nat_lt 1 (count_of tag pieces)

-- each kept info is shorter than 2^16 bytes
abbrev pub AreShort : Slots → Type 0
AreShort slots = (tag : ℕ) → IfSome (slice_index_or slots.infos tag None) (λ info. length info.now < 2 ^ 16)
