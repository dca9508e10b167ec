-- Rows of the code, in which the demands on arguments are their declared types.
use Rattle.std.specs.Prelude.{ℕ, List, [], ◌∷◌, map, Option, Some, None}
use Rattle.jc_base.specs.declared.class_ref.ClassRef.{ClassRef}
use Rattle.jc_base.specs.declared.declared_type.DeclaredType.{DeclaredType}
use Rattle.jc_cap_desc.specs.Shape.{Shape}
use Rattle.jc_names.specs.Names.{home_of}
use Rattle.jc_names.specs.declared.name.ClassName.{ClassName}
use Rattle.jc_link.specs.Found.{type_found}
use Rattle.jc_link.specs.MemberType.{type_class}
use Rattle.jc_types.specs.declared.ty.Ty.TheVariants.{Top}
use Rattle.jc_types.specs.Ty.{type_of_declared}
use Rattle.jc_effects.specs.declared.applying.Row as code
use Rattle.jc_effects.specs.declared.demands.Wanted.{Wanted}
use Rattle.jc_effects.specs.declared.demands.Wanted.TheVariants as Wants
use Rattle.jc_effects.specs.declared.row.Demand.{Demand}
use Rattle.jc_effects.specs.declared.row.Demand.TheVariants.{Below, Reference}
use Rattle.jc_effects.specs.Row.{Row}

-- the demand on an argument: below its declared type
abbrev pub argument : DeclaredType ClassName → Demand
argument declared = Below (type_of_declared declared)

-- the demand on an argument whose type is resolved: below that type, or none if it doesn't resolve
abbrev pub argument_found : Option (DeclaredType ClassName) → Demand
argument_found None = Below Top
argument_found (Some declared) = argument declared

-- the demand on an argument whose type the package at place `home` spells
abbrev pub argument_spelled : List Shape → ℕ → DeclaredType ClassRef → Demand
argument_spelled world home declared = argument_found (type_found (type_class world home) declared)

-- the demands on operands, the deepest first
abbrev pub demands_of : Wanted → List Demand
demands_of Wants.Nothing = []
demands_of (Wants.One a) = a ∷ []
demands_of (Wants.Two a b) = a ∷ b ∷ []
demands_of (Wants.Three a b c) = a ∷ b ∷ c ∷ []
demands_of (Wants.Arguments types) = map argument types.now
demands_of (Wants.ObjectAndArguments object types) = object ∷ map argument types.now
demands_of (Wants.Spelled table interface types) =
    Reference ∷ map (argument_spelled table.now (home_of interface)) types.now

-- the code's row as this record
abbrev pub row_said : code.Row → Row
row_said row =
    record {
      local = row.local;
      operands = demands_of row.operands;
      fits = row.fits;
      written = row.written;
      pushed = row.pushed;
    }
