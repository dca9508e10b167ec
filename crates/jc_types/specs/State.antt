-- States of a method (Java Card Virtual Machine Specification, verification of CAP files: the types of local variables
-- and of the operand stack at each instruction).
use Rattle.std.specs.Prelude.{◌≡◌, ℕ, ◌+◌, ◌==◌, List, [], ◌∷◌, ◌++◌, length, replicate, reverse, Bool, true, false}
use Rattle.std.specs.Prelude.{◌&&◌}
use Rattle.std.specs.List.{sum_by}
use Rattle.jc_names.specs.declared.name.ClassName.{ClassName}
use Rattle.jc_types.specs.declared.ty.Ty.{Ty}
use Rattle.jc_types.specs.declared.ty.Ty.TheVariants.{Top}
use Rattle.jc_types.specs.Ty.{is_below, join_of, height_of}

-- a state: the types of the locals, and of the operands, the top one first
pub record Types : Type 0 where
  pub locals : List Ty
  pub operands : List Ty

-- the order of lists of one length, element by element, for an order of classes
abbrev pub all_below : (ClassName → ClassName → Bool) → List Ty → List Ty → Bool
all_below below [] [] = true
all_below below (a ∷ lower) (b ∷ upper) = is_below below a b && all_below below lower upper
all_below below [] (b ∷ upper) = false
all_below below (a ∷ lower) [] = false

-- the order of states of one shape, element by element
abbrev pub types_below : (ClassName → ClassName → Bool) → Types → Types → Bool
types_below below a b = all_below below a.locals b.locals && all_below below a.operands b.operands

-- the state at the entry of a method: its arguments, max_locals more locals of type Top, and no operands
abbrev pub entry_types : List Ty → ℕ → Types
entry_types arguments max_locals = record { locals = arguments ++ replicate max_locals Top; operands = [] }

-- the state with these locals and operands, the operands bottom first
abbrev pub stated_types : List Ty → List Ty → Types
stated_types locals operands = record { locals = locals; operands = reverse operands }

-- a state in the code: its types, and how many operands it has room for
pub record StateWithRoom : Type 0 where
  pub types : Types
  pub room : ℕ

-- two states have as many locals, and as many operands
abbrev pub has_shape_of : Types → Types → Bool
has_shape_of s t = length s.locals == length t.locals && length s.operands == length t.operands

-- the join of two lists, element by element, for the least class above two; lists of different lengths are cut to the
-- shorter one
abbrev pub joined_all : (ClassName → ClassName → ClassName) → List Ty → List Ty → List Ty
joined_all common [] [] = []
joined_all common (a ∷ ones) (b ∷ others) = join_of common a b ∷ joined_all common ones others
joined_all common [] (b ∷ others) = []
joined_all common (a ∷ ones) [] = []

-- the join of two states, element by element
abbrev pub joined_types : (ClassName → ClassName → ClassName) → Types → Types → Types
joined_types common s t =
    record { locals = joined_all common s.locals t.locals; operands = joined_all common s.operands t.operands }

-- a state is the least one above two others
pub record IsJoin (below : ClassName → ClassName → Bool) (one other joined : Types) : Type 0 where
  pub first : types_below below one joined ≡ true
  pub second : types_below below other joined ≡ true
  pub least : (u : Types) → types_below below one u ≡ true → types_below below other u ≡ true
      → types_below below joined u ≡ true

-- the height of a state: the sum of the heights of its locals and operands
abbrev pub height_of_types : (ClassName → ℕ) → ℕ → Types → ℕ
height_of_types above most s = sum_by (height_of above most) s.locals + sum_by (height_of above most) s.operands
