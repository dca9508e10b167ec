-- What is demanded of arguments whose types are found anew.
use Rattle.std.proofs.Common.{◌≡◌, ℕ, suc, ◌+◌, ◌==◌, List, [], ◌∷◌, length, map, Bool, true, false, Option, Some, None, is_some, if◌then◌else◌, refl, sym, ap, ◌∙◌, eq-eqb, arith}
use Rattle.std.proofs.lemmas.Bool.{ne_eqb}
use Rattle.std.specs.List.{find}
use Rattle.std.specs.Option.{option_and_then, option_map}
use Rattle.jc_base.specs.Signature.{Signature}
use Rattle.jc_base.specs.declared.class_ref.ClassRef.{ClassRef}
use Rattle.jc_base.specs.declared.declared_type.DeclaredType.{DeclaredType}
use Rattle.jc_base.specs.declared.declared_type.ReturnType.{ReturnType}
use Rattle.jc_cap.specs.ClassComponent.{is_class}
use Rattle.jc_cap_desc.specs.Shape.{ClassShape, MethodShape, Shape}
use Rattle.jc_names.specs.Names.{home_of}
use Rattle.jc_classes.specs.World.{class_at}
use Rattle.jc_names.specs.declared.name.ClassName.{ClassName}
use Rattle.jc_link.specs.Found.{type_found, types_found, return_found}
use Rattle.jc_link.specs.MemberType.{type_class, member_type_of}
use Rattle.jc_effects.specs.Coded.{argument, argument_found, argument_spelled}
use Rattle.jc_effects.specs.Objects.{interface_method_type, interface_row, result_given}
use Rattle.jc_effects.specs.Row.{Row}
use Rattle.jc_effects.specs.Words.{takes}
use Rattle.jc_effects.specs.declared.row.Demand.{Demand}
use Rattle.jc_effects.specs.declared.row.Demand.TheVariants.{Reference}

-- the method of an interface with a token
abbrev pub method_in : List Shape → ClassName → ℕ → Option MethodShape
method_in world c token =
    option_and_then (λ k. if is_class k.body then None else find (λ m. m.token == token) k.methods) (class_at world c)

-- the rows of methods with a token, and the type of a method of a class
abbrev rows : ℕ → ClassShape → Option MethodShape
rows token k = find (λ m. m.token == token) k.methods

abbrev of_method : List Shape → ClassName → MethodShape → Option (Signature ClassName)
of_method world c m = member_type_of world (home_of c) m.signature

-- the type of an interface's method is that of the method's row
pub method_type : (world : List Shape) (c : ClassName) (token : ℕ)
    → interface_method_type world c token ≡ option_and_then (λ m. member_type_of world (home_of c) m.signature) (method_in world c token)
method_type world c token = at (class_at world c)
  where
    of_class : (b : Bool) (k : ClassShape)
        → (if b then None else option_and_then (of_method world c) (rows token k))
        ≡ option_and_then (of_method world c) (if b then None else rows token k)
    of_class b k = grind arith

    at : (o : Option ClassShape)
        → option_and_then (λ k. if is_class k.body then None else option_and_then (of_method world c) (rows token k)) o
        ≡ option_and_then (of_method world c) (option_and_then (λ k. if is_class k.body then None else rows token k) o)
    at o = grind (arith, of_class)

-- what is found of types, in front of what is found of others
step : (o : Option (DeclaredType ClassName)) (p : Option (List (DeclaredType ClassName))) (rest : List Demand) (count : ℕ)
    (found : List (DeclaredType ClassName))
    → ((types : List (DeclaredType ClassName)) → p ≡ Some types → (rest ≡ map argument types) × (length types ≡ count))
    → option_and_then (λ t. option_map (λ ts. t ∷ ts) p) o ≡ Some found
    → (argument_found o ∷ rest ≡ map argument found) × (length found ≡ suc count)
step (Some d) (Some types) rest count found so e =
    let h : d ∷ types ≡ found = cc in
    let both = so types refl in
    (ap (λ (l : List Demand). argument d ∷ l) both.0 ∙ ap (map argument) h, sym (ap length h) ∙ ap suc both.1)
step t p rest count found so e = absurd cc

-- where types are found, what is demanded is that arguments lie below them
demanded : (find : ClassRef → Option ClassName) (types : List (DeclaredType ClassRef)) (found : List (DeclaredType ClassName))
    → types_found find types ≡ Some found
    → (map (λ t. argument_found (type_found find t)) types ≡ map argument found) × (length found ≡ length types)
demanded find [] found e = let h : [] ≡ found = cc in (ap (map argument) h, sym (ap length h))
demanded find (t ∷ types) found e = search (arith, map, length, step, demanded find types)

-- the type of a method, by what is found of its parameters and of its result
abbrev pub found : Option (List (DeclaredType ClassName)) → Option (ReturnType ClassName) → Option (Signature ClassName)
found o q = option_and_then (λ parameters. option_map (λ result. record { parameters = parameters; result = result }) q) o

module _ (world : List Shape) (home arguments : ℕ) (s : Signature ClassRef) where
  abbrev spelled : List Demand
  spelled = map (argument_spelled world home) s.parameters

  -- the row of a call with as many words as there are, or none
  abbrev row_if : ReturnType ClassName → Bool → Option Row
  row_if r counts = if counts then Some (takes (Reference ∷ spelled) (result_given r)) else None

  known : (o : Option (List (DeclaredType ClassName))) (q : Option (ReturnType ClassName)) (r : ReturnType ClassName)
      → ((ps : List (DeclaredType ClassName)) → o ≡ Some ps → (spelled ≡ map argument ps) × (length ps ≡ length s.parameters))
      → is_some (found o q) ≡ true → q ≡ Some r
      → option_and_then (interface_row arguments) (found o q) ≡ row_if r (arguments == 1 + length s.parameters)
  known o q r h1 h2 h3 = grind arith

  known_row : (r : ReturnType ClassName) → is_some (member_type_of world home s) ≡ true
      → return_found (type_class world home) s.result ≡ Some r
      → option_and_then (interface_row arguments) (member_type_of world home s) ≡ row_if r (arguments == 1 + length s.parameters)
  known_row r there e = search (arith, known, demanded)

  -- a call with as many words as the method takes
  pub counted_row : (r : ReturnType ClassName) → is_some (member_type_of world home s) ≡ true
      → return_found (type_class world home) s.result ≡ Some r
      → arguments ≡ 1 + length s.parameters
      → option_and_then (interface_row arguments) (member_type_of world home s) ≡ Some (takes (Reference ∷ spelled) (result_given r))
  counted_row r there e n = known_row r there e ∙ ap (row_if r) (eq-eqb arguments (1 + length s.parameters) n)

  -- one with another number
  pub other_row : (r : ReturnType ClassName) → is_some (member_type_of world home s) ≡ true
      → return_found (type_class world home) s.result ≡ Some r
      → (arguments ≡ 1 + length s.parameters → ⊥) → option_and_then (interface_row arguments) (member_type_of world home s) ≡ None
  other_row r there e ne = known_row r there e ∙ ap (row_if r) (ne_eqb arguments (1 + length s.parameters) ne)

  pub unknown_row : is_some (member_type_of world home s) ≡ false
      → option_and_then (interface_row arguments) (member_type_of world home s) ≡ None
  unknown_row h = at (member_type_of world home s) h
    where
      at : (o : Option (Signature ClassName)) → is_some o ≡ false → option_and_then (interface_row arguments) o ≡ None
      at o h1 = grind arith

  pub ungiven_row : is_some (member_type_of world home s) ≡ true → return_found (type_class world home) s.result ≡ None → ⊥
  ungiven_row h e = at (types_found (type_class world home) s.parameters) (return_found (type_class world home) s.result) h e
    where
      at : (o : Option (List (DeclaredType ClassName))) (q : Option (ReturnType ClassName)) → is_some (found o q) ≡ true
          → q ≡ None → ⊥
      at o q h1 h2 = grind arith
