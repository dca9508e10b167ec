-- Private. The first bad static field, by a loop over the fields; and the bytes of the image that static fields take.
use Rattle.std.specs.Prelude.{◌≡◌, ℕ, ◌+◌, ◌≤◌, ◌<◌, ◌==◌, Bool, ◌&&◌, ◌||◌, nat_le, nat_lt, List, ◌++◌, map, min}
use Rattle.std.specs.Prelude.{Option, Some, None, if◌then◌else◌}
use Rattle.std.specs.List.{count_by, filter, filter_map}
use Rattle.std.specs.Option.{option_and_then, option_map_or}
use Rattle.jc_base.specs.NumberSet.{has_number}
use Rattle.jc_cap.specs.Statics.{StaticImage}
use Rattle.jc_cap_desc.specs.Shape.{FieldShape}
use Rattle.jc_link.specs.Statics.{StaticField, static_of, width_of, behind, is_bad_static, least}

-- the lesser of two numbers, or the one that is there
abbrev pub earlier : Option ℕ → Option ℕ → Option ℕ
earlier None other = other
earlier (Some n) other = Some (option_map_or (min n) other n)

-- the offset of a static field, if it is bad among all
abbrev pub offset_if_bad : StaticImage → List StaticField → StaticField → Option ℕ
offset_if_bad image all f = if is_bad_static image all f then Some f.offset else None

-- the offset of a field, if it is static and bad
abbrev pub bad_offset : StaticImage → List StaticField → FieldShape → Option ℕ
bad_offset image all f = option_and_then (offset_if_bad image all) (static_of f)

-- the least offset of a bad static field among these fields
abbrev pub first_bad_among : StaticImage → List StaticField → List FieldShape → Option ℕ
first_bad_among image all fields =
    least (map (λ f. f.offset) (filter (is_bad_static image all) (filter_map static_of fields)))

-- the bytes of the image that static fields take, by their numbers: those that at least one field takes, and those that
-- at least two take
pub record Taken : Type 0 where
  pub once : List ℕ
  pub twice : List ℕ

-- whether a field takes a byte
abbrev pub takes : StaticField → ℕ → Bool
takes f n = nat_le f.offset n && nat_lt n (behind f)

-- the second byte of a field that takes two, if its number is below 65,536
abbrev pub second_byte : StaticField → Option ℕ
second_byte f = if width_of f.type == 2 && nat_lt f.offset 65535 then Some (f.offset + 1) else None

-- how many of these fields take a byte
abbrev pub takers : List StaticField → ℕ → ℕ
takers fields n = count_by (λ f. takes f n) fields

-- these are the bytes that these fields take, for numbers below 65,536
pub record AreTaken (taken : Taken) (fields : List StaticField) : Type 0 where
  pub once : (n : ℕ) → n < 65536 → has_number taken.once n ≡ nat_lt 0 (takers fields n)
  pub twice : (n : ℕ) → n < 65536 → has_number taken.twice n ≡ nat_lt 1 (takers fields n)

-- the bytes that pass a test were taken once more
pub record WereTaken (test : ℕ → Bool) (old new : Taken) : Type 0 where
  pub once : (n : ℕ) → n < 65536 → has_number new.once n ≡ (test n || has_number old.once n)
  pub twice : (n : ℕ) → n < 65536
      → has_number new.twice n ≡ ((test n && has_number old.once n) || has_number old.twice n)

-- the bytes of these fields were taken, after those of the fields before
abbrev pub HaveTaken : List StaticField → Taken → Taken → Type 0
HaveTaken fields old new = (before : List StaticField) → AreTaken old before → AreTaken new (before ++ fields)

-- these fields are among others: of the others at least as many pass any test
abbrev pub AreAmong : List StaticField → List StaticField → Type 0
AreAmong fields all = (test : StaticField → Bool) → count_by test fields ≤ count_by test all
