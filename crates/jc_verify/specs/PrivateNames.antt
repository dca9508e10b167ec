-- Private. Which classes a certificate has names for. Control flow introduces no classes without names.
use Rattle.std.specs.Prelude.{◌≡◌, ⊤, ℕ, true, List, reverse, Some, Ok, Contains, slice_get}
use Rattle.std.specs.List.{AllByRecursion}
use Rattle.jc_cap_desc.specs.Shape.{Shape}
use Rattle.jc_names.specs.declared.name.ClassName.{ClassName}
use Rattle.jc_classes.specs.Subtype.{is_class_at, is_class_below}
use Rattle.jc_code.specs.declared.instr.Operation.{Operation}
use Rattle.jc_link.specs.Linked.{Linked}
use Rattle.jc_types.specs.State.{IsJoin, StateWithRoom, Types}
use Rattle.jc_check.specs.Method.{CheckedHandler, CheckedMethod, caught_types, entry_of}
use Rattle.jc_types.specs.declared.ty.Ty.{Ty}
use Rattle.jc_types.specs.declared.ty.Ty.TheVariants.{Top, Word, Null, Class, BooleanArray, ByteArray, ShortArray}
use Rattle.jc_types.specs.declared.ty.Ty.TheVariants.{ReferenceArray}
use Rattle.jc_check.specs.Package.{package_rules}
use Rattle.jc_verify.specs.declared.place.Place.{Place}

-- a class of the world has a name; an interface has none
abbrev pub HasName : List Shape → ClassName → Type 0
HasName world class = is_class_at world class ≡ true

-- the same for the class of a type, if it has one
abbrev pub TypeHasName : List Shape → Ty → Type 0
TypeHasName world Top = ⊤
TypeHasName world Word = ⊤
TypeHasName world Null = ⊤
TypeHasName world (Class class) = HasName world class
TypeHasName world BooleanArray = ⊤
TypeHasName world ByteArray = ⊤
TypeHasName world ShortArray = ⊤
TypeHasName world (ReferenceArray class) = HasName world class

-- the same for the classes of all types of a state
pub record HasNames (world : List Shape) (t : Types) : Type 0 where
  pub locals : AllByRecursion (TypeHasName world) t.locals
  pub operands : AllByRecursion (TypeHasName world) (reverse t.operands)

-- the same for what places hold
abbrev pub AreNamed : List Shape → List (Place StateWithRoom) → Type 0
AreNamed world places =
    (n : ℕ) (p : Place StateWithRoom) (s : StateWithRoom) → slice_get places n ≡ Some p → p.held ≡ Some s
    → HasNames world s.types

-- the entry state's classes have names, and effects, handlers and joins introduce no classes without names
pub record KeepsNames (l : Linked) (m : CheckedMethod) : Type 0 where
  pub entry : HasNames l.world (entry_of m)
  pub effect : (operation : Operation) (s t : Types) → HasNames l.world s
      → (package_rules l).effect m.max_stack m.returned operation s ≡ Ok t → HasNames l.world t
  pub caught : (h : CheckedHandler) (class : ClassName) (s : Types) → Contains m.handlers h → h.caught ≡ Some class
      → HasNames l.world s → HasNames l.world (caught_types class s)
  pub join : (s t u : Types) → HasNames l.world s → HasNames l.world t → IsJoin (is_class_below l.world) s t u
      → HasNames l.world u

-- a place holds types whose classes don't all have names
pub record IsUnnamedPlace (world : List Shape) (p : Place StateWithRoom) : Type 0 where
  pub state : StateWithRoom
  pub held : p.held ≡ Some state
  pub unnamed : HasNames world state.types → ⊥

-- one of the places is such a place
pub record HasUnnamed (world : List Shape) (places : List (Place StateWithRoom)) : Type 0 where
  pub number : ℕ
  pub place : Place StateWithRoom
  pub is : slice_get places number ≡ Some place
  pub unnamed : IsUnnamedPlace world place
