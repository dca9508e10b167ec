-- The effects of instructions on the types of locals and operands, as data, and the one rule that applies them (Java
-- Card Virtual Machine Specification, instruction set: the format, the operand stack and the description of each
-- instruction). Only this file states the order of reasons: of several reasons against an instruction the first of
-- BadOperand, BadLocal, StackUnder, WrongType and StackOver is reported.
use Rattle.std.specs.Prelude.{ℕ, ◌+◌, ◌-◌, List, [], ◌∷◌, length, take, drop, reverse, Bool, true, false, ◌&&◌, ◌||◌}
use Rattle.std.specs.Prelude.{not, Option, Some, None, is_some, Result, Ok, Err, nat_lt, if◌then◌else◌, slice_get}
use Rattle.std.specs.Prelude.{slice_set, unwrap_or}
use Rattle.std.specs.Option.{option_map_or}
use Rattle.jc_base.specs.declared.reason.Reason.{Reason}
use Rattle.jc_base.specs.declared.reason.Reason.TheVariants.{BadOperand, BadLocal, StackUnder, WrongType, StackOver}
use Rattle.jc_names.specs.declared.name.ClassName.{ClassName}
use Rattle.jc_types.specs.declared.ty.Ty.{Ty}
use Rattle.jc_types.specs.declared.ty.Ty.TheVariants.{Top, Null, Class}
use Rattle.jc_types.specs.Ty.{class_of_components, class_of_objects, is_below, is_boolean_array, is_byte_array, is_null}
use Rattle.jc_types.specs.Ty.{is_short_array}
use Rattle.jc_types.specs.State.{Types}
use Rattle.jc_effects.specs.declared.row.Demand.{Demand}
use Rattle.jc_effects.specs.declared.row.Demand.TheVariants.{Below, Reference, Bytes, Array}
use Rattle.jc_effects.specs.declared.row.Given.{Given}
use Rattle.jc_effects.specs.declared.row.Given.TheVariants.{Nothing, Exactly, OfLocal, OfOperand, ComponentOf}
use Rattle.jc_effects.specs.declared.row.LocalDemand.{LocalDemand}
use Rattle.jc_effects.specs.declared.row.LocalDemand.TheVariants.{Nowhere, At}

-- the effect of an instruction
pub record Row : Type 0 where
  -- the local that it reads or writes, and the demand on it; or BadLocal
  pub local : LocalDemand
  -- the demands on the operands that it takes, the deepest first; or StackUnder
  pub operands : List Demand
  -- its other conditions; or WrongType, as if the local or an operand doesn't meet its demand
  pub fits : Bool
  -- what it writes to that local
  pub written : Given
  -- what it pushes; or StackOver
  pub pushed : Given

-- ---- demands

-- null, or a reference to an object
abbrev pub is_object_or_null : Ty → Bool
is_object_or_null t = is_null t || is_some (class_of_objects t)

-- null, or an array of booleans or bytes
abbrev pub is_bytes : Ty → Bool
is_bytes t = is_null t || is_boolean_array t || is_byte_array t

-- null, or an array
abbrev pub is_array : Ty → Bool
is_array t = is_bytes t || is_short_array t || is_some (class_of_components t)

-- a type meets a demand, for an order of classes
abbrev pub meets : (ClassName → ClassName → Bool) → Demand → Ty → Bool
meets below (Below wanted) t = is_below below t wanted
meets below Reference t = is_object_or_null t
meets below Bytes t = is_bytes t
meets below Array t = is_array t

abbrev pub all_meet : (ClassName → ClassName → Bool) → List Demand → List Ty → Bool
all_meet below [] [] = true
all_meet below (d ∷ demands) (t ∷ types) = meets below d t && all_meet below demands types
all_meet below [] (t ∷ types) = false
all_meet below (d ∷ demands) [] = false

abbrev pub has_local : LocalDemand → List Ty → Bool
has_local Nowhere locals = true
has_local (At index demand) locals = nat_lt index (length locals)

-- the type of the row's local; Top if the row has no local
abbrev pub local_of : LocalDemand → List Ty → Ty
local_of Nowhere locals = Top
local_of (At index demand) locals = unwrap_or (slice_get locals index) Top

abbrev pub local_meets : (ClassName → ClassName → Bool) → LocalDemand → Ty → Bool
local_meets below Nowhere t = true
local_meets below (At index demand) t = meets below demand t

-- the types that a row takes, the deepest first
abbrev pub taken_by : Row → Types → List Ty
taken_by row s = reverse (take (length row.operands) s.operands)

-- all demands are met
abbrev pub is_met : (ClassName → ClassName → Bool) → Row → Types → Bool
is_met below row s =
    row.fits && local_meets below row.local (local_of row.local s.locals)
    && all_meet below row.operands (taken_by row s)

-- ---- what is given

-- the type of the components of an array of references; of null it is null
abbrev pub component_of : Ty → Ty
component_of t = if is_null t then Null else option_map_or Class (class_of_components t) Top

-- the type that is given, from the type of the local and the types that are taken
abbrev pub given_type : Given → Ty → List Ty → Ty
given_type Nothing local taken = Top
given_type (Exactly t) local taken = t
given_type OfLocal local taken = local
given_type (OfOperand k) local taken = unwrap_or (slice_get taken k) Top
given_type (ComponentOf k) local taken = component_of (unwrap_or (slice_get taken k) Top)

-- how many types are given
abbrev pub count_of : Given → ℕ
count_of Nothing = 0
count_of (Exactly t) = 1
count_of OfLocal = 1
count_of (OfOperand k) = 1
count_of (ComponentOf k) = 1

-- pushes a type, if one is given
abbrev pub put_on : Given → Ty → List Ty → List Ty
put_on given t operands = if nat_lt 0 (count_of given) then t ∷ operands else operands

-- sets the type of the row's local, if one is given
abbrev pub put_in : LocalDemand → Given → Ty → List Ty → List Ty
put_in Nowhere given t locals = locals
put_in (At index demand) given t locals = if nat_lt 0 (count_of given) then slice_set locals index t else locals

-- the state after a row that applies
unfoldable pub after : Row → Types → Types
after row s =
    let local = local_of row.local s.locals in
    record {
      locals = put_in row.local row.written (given_type row.written local (taken_by row s)) s.locals;
      operands = put_on row.pushed (given_type row.pushed local (taken_by row s))
          (drop (length row.operands) s.operands);
    }

-- ---- the rule: a row applied to a state, in a method of at most `most` operands. An instruction without a row has a
-- bad operand

unfoldable pub applied : (ClassName → ClassName → Bool) → ℕ → Option Row → Types → Result Types Reason
applied below most None s = Err BadOperand
applied below most (Some row) s =
    if not (has_local row.local s.locals) then Err BadLocal
    else if nat_lt (length s.operands) (length row.operands) then Err StackUnder
    else if not (is_met below row s) then Err WrongType
    else if nat_lt most (length s.operands - length row.operands + count_of row.pushed) then Err StackOver
    else Ok (after row s)
