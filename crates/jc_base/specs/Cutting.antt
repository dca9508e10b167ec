-- An image: consecutive components, each a tag, a size and an info, in any order (Java Card Virtual Machine
-- Specification, CAP file format: Component model).
use Rattle.std.specs.Prelude.{◌≡◌, ℕ, ◌+◌, ◌*◌, ◌<◌, ◌==◌, if◌then◌else◌, List, [], ◌∷◌, ◌++◌, length, Option, Some}
use Rattle.std.specs.Prelude.{None, nat_lt, Result, Ok, Err}
use Rattle.std.specs.List.{flat_map, find, AllByRecursion, range_with_len}
use Rattle.jc_base.specs.Parts.{Infos}
use Rattle.jc_base.specs.Results.{◌>>=◌}
use Rattle.jc_base.specs.declared.fault.LoadFault.{LoadFault}
use Rattle.jc_base.specs.declared.fault.LoadFault.TheVariants.{ShortComponent, ExtraBytes, MissingComponent}
use Rattle.jc_base.specs.declared.fault.LoadFault.TheVariants.{RepeatedComponent}
use Rattle.jc_base.specs.Tag.{header_tag, applet_tag, import_tag, constant_pool_tag, class_tag, method_tag}
use Rattle.jc_base.specs.Tag.{static_field_tag, export_tag, descriptor_tag}

-- a component: its tag, the two bytes of its size, and its info
pub record Piece : Type 0 where
  pub tag : ℕ
  pub high : ℕ
  pub low : ℕ
  pub info : List ℕ

-- its bytes
abbrev pub bytes_of : Piece → List ℕ
bytes_of p = p.tag ∷ p.high ∷ p.low ∷ p.info

-- it is whole: its info is as long as its size says
abbrev pub IsWhole : Piece → Type 0
IsWhole p = length p.info ≡ 256 * p.high + p.low

-- less than a component: nothing, less than a tag and a size, or fewer bytes than the size says
abbrev pub IsPartial : List ℕ → Type 0
IsPartial (tag ∷ high ∷ low ∷ bytes) = length bytes < 256 * high + low
IsPartial _ = Unit {0}

-- the image is these whole components, and then less than one
pub record Splits (image : List ℕ) (pieces : List Piece) (rest : List ℕ) : Type 0 where
  pub joined : image ≡ flat_map bytes_of pieces ++ rest
  pub whole : AllByRecursion IsWhole pieces
  pub partial : IsPartial rest

-- the info of the first component with a tag
abbrev pub info_of : ℕ → List Piece → Option (List ℕ)
info_of tag [] = None
info_of tag (p ∷ pieces) = if p.tag == tag then Some p.info else info_of tag pieces

-- how many components have a tag
abbrev pub count_of : ℕ → List Piece → ℕ
count_of tag [] = 0
count_of tag (p ∷ pieces) = (if p.tag == tag then 1 else 0) + count_of tag pieces

-- the tags that have a meaning, 1 to 12; other components are ignored
unfoldable pub known : List ℕ
known = range_with_len 1 12

-- the least known tag that came twice, if one did
abbrev pub twice : List Piece → Option ℕ
twice pieces = find (λ tag. nat_lt 1 (count_of tag pieces)) known

-- the info of a required component
abbrev pub needed : ℕ → Option (List ℕ) → Result (List ℕ) LoadFault
needed tag (Some info) = Ok info
needed tag None = Err (MissingComponent tag)

-- the infos, if no tag came twice
abbrev pub single : Option ℕ → Infos → Result Infos LoadFault
single None infos = Ok infos
single (Some tag) infos = Err (RepeatedComponent tag)

-- the infos, from the info of each tag and the tag that came twice; of several missing tags the least is reported
unfoldable pub infos_by : (ℕ → Option (List ℕ)) → Option ℕ → Result Infos LoadFault
infos_by info repeated = do
  header ← needed header_tag (info header_tag)
  constant_pool ← needed constant_pool_tag (info constant_pool_tag)
  class ← needed class_tag (info class_tag)
  method ← needed method_tag (info method_tag)
  static_field ← needed static_field_tag (info static_field_tag)
  descriptor ← needed descriptor_tag (info descriptor_tag)
  single repeated
      (record {
        header = header;
        applet = info applet_tag;
        imports = info import_tag;
        constant_pool = constant_pool;
        class = class;
        method = method;
        static_field = static_field;
        export = info export_tag;
        descriptor = descriptor;
      })

-- the result for an image of these components and this rest: its infos, or the first refusal
abbrev pub answer : List Piece → List ℕ → Result Infos LoadFault
answer pieces [] = infos_by (λ tag. info_of tag pieces) (twice pieces)
answer pieces (tag ∷ high ∷ low ∷ bytes) = Err ShortComponent
answer pieces _ = Err ExtraBytes
