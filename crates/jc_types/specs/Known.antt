-- Types that name classes of a world.
use Rattle.std.specs.Prelude.{◌≡◌, Bool, true}
use Rattle.std.specs.List.{list_all}
use Rattle.jc_names.specs.declared.name.ClassName.{ClassName}
use Rattle.jc_types.specs.State.{Types}
use Rattle.jc_types.specs.declared.ty.Ty.{Ty}
use Rattle.jc_types.specs.declared.ty.Ty.TheVariants.{Top, Word, Null, Class, BooleanArray, ByteArray, ShortArray}
use Rattle.jc_types.specs.declared.ty.Ty.TheVariants.{ReferenceArray}

-- the class that a type names, if it names one, is known
abbrev pub is_known : (ClassName → Bool) → Ty → Bool
is_known known Top = true
is_known known Word = true
is_known known Null = true
is_known known (Class c) = known c
is_known known BooleanArray = true
is_known known ByteArray = true
is_known known ShortArray = true
is_known known (ReferenceArray c) = known c

-- each type of a state is known
pub record AreKnown (known : ClassName → Bool) (s : Types) : Type 0 where
  pub locals : list_all (is_known known) s.locals ≡ true
  pub operands : list_all (is_known known) s.operands ≡ true
