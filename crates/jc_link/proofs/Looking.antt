-- Methods that are looked up once for each class.
use Rattle.std.proofs.Common.{◌≡◌, ◌⊎◌, inl, inr, ℕ, ◌+◌, ◌-◌, ◌<◌, ◌≤◌, Bool, false, List, Option, arith, lt-ltb}
use Rattle.std.proofs.Common.{le-ltb}
use Rattle.std.specs.Option.{option_map_or}
use Rattle.jc_cap_desc.specs.Shape.{Shape}
use Rattle.jc_classes.specs.Methods.{AreMethodsOf, found_at, public_method_of, virtual_method_of}
use Rattle.jc_names.specs.declared.name.ClassName.{ClassName}
use Rattle.jc_names.specs.declared.name.MethodName.{MethodName}
use Rattle.jc_link.specs.Inherited.{is_abstract_at, leaves_at}
use Rattle.jc_link.specs.PrivateMethods.{AreAllMethodsOf, method_in}
use Rattle.std.proofs.lemmas.Bool.{cases_lt}

-- what is left at a public token, whichever package asks
pub left_public : (world : List Shape) (c : ClassName) (token : ℕ) {w : List Shape} {found : Option MethodName} (b : Bool)
    → token < 128 → w ≡ world → found ≡ public_method_of world c token
    → option_map_or (is_abstract_at w) found false ≡ b → leaves_at world c 0 token ≡ b
left_public world c token b less same is e = grind (arith, lt-ltb)

-- what is left at a package-visible token, by all methods of a class
pub left_at : (world : List Shape) (c : ClassName) (asker place : ℕ) (methods : List (Option MethodName))
    {found : Option MethodName} (b : Bool) → AreMethodsOf world c 128 asker methods → place < 128
    → found_at methods place ≡ found → option_map_or (is_abstract_at world) found false ≡ b
    → leaves_at world c asker (128 + place) ≡ b
left_at world c asker place methods b are less is e = grind arith

-- what a class finds at all tokens
pub all_methods : (world : List Shape) (c : ClassName) (asker : ℕ) (public visible : List (Option MethodName))
    → ((a : ℕ) → AreMethodsOf world c 0 a public) → AreMethodsOf world c 128 asker visible
    → AreAllMethodsOf world c asker (record { public = public; visible = visible })
all_methods world c asker public visible are_public are_visible =
    record {
      all = λ token less. by_order token less (cases_lt token 128);
      public = λ token less. grind (arith, are_public 0 token less);
    }
  where
    by_order : (token : ℕ) → token < 256 → (token < 128) ⊎ (128 ≤ token)
        → method_in (record { public = public; visible = visible }) token ≡ virtual_method_of world c token asker
    by_order token less (inl h) = grind (arith, lt-ltb, are_public asker token h)
    by_order token less (inr h) =
        let same : 128 + (token - 128) ≡ token = omega (arith, h) in
        let lies : token - 128 < 128 = omega (arith, less, h) in
        grind (arith, le-ltb, same, are_visible (token - 128) lies)
