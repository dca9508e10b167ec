-- Loops over tokens, up to the first that passes a test.
use Rattle.std.proofs.Common.{◌≡◌, ℕ, zero, suc, ◌+◌, ◌-◌, ◌<◌, ◌≤◌, ◌||◌, ◌&&◌, Bool, true, false, List, None, refl}
use Rattle.std.proofs.Common.{ap, ◌∙◌, arith}
use Rattle.std.proofs.Math.Path.{fun_ext}
use Rattle.std.specs.List.{list_any, range_with_len}
use Rattle.std.specs.Option.{option_map_or}
use Rattle.jc_cap_desc.specs.Shape.{Shape}
use Rattle.jc_classes.specs.Methods.{FindsNothingElse, is_among, virtual_method_of}
use Rattle.jc_classes.specs.declared.extent.Places.{Places}
use Rattle.jc_names.specs.declared.name.ClassName.{ClassName}
use Rattle.jc_link.specs.Inherited.{is_abstract_at, leaves_at, leaves_package_abstract, package_tokens, public_tokens}
use Rattle.jc_link.specs.Inherited.{virtual_tokens}

-- the tokens from one on up to an end
module _ (test : ℕ → Bool) (total : Bool) (token end : ℕ)
    (so_far : list_any test (range_with_len token (end - token)) ≡ total) where
  step : token < end → (b : Bool) → test token ≡ b
      → (b || list_any test (range_with_len (token + 1) (end - (token + 1)))) ≡ total
  step less b e =
      let one : suc (end - (token + 1)) ≡ end - token = omega arith in
      grind arith

  pub passes : token < end → test token ≡ true → true ≡ total
  passes less e = step less true e

  pub fails : token < end → test token ≡ false → list_any test (range_with_len (token + 1) (end - (token + 1))) ≡ total
  fails less e = step less false e

  pub none_passes : end ≤ token → false ≡ total
  none_passes more = grind arith

-- where none of the rest passes
none_in : (test : ℕ → Bool) (n from : ℕ) → ((m : ℕ) → from ≤ m → m < from + n → test m ≡ false)
    → list_any test (range_with_len from n) ≡ false
none_in test zero from none = refl
none_in test (suc n) from none =
    ap (λ x. x || list_any test (range_with_len (from + 1) n)) (none from (omega arith) (omega arith))
    ∙ none_in test n (from + 1) (λ m least less. none m (omega (arith, least)) (omega (arith, less)))

pub rest_fails : (test : ℕ → Bool) (total : Bool) (token end : ℕ)
    → list_any test (range_with_len token (end - token)) ≡ total
    → ((m : ℕ) → token ≤ m → m < end → test m ≡ false) → false ≡ total
rest_fails test total token end so_far none = grind (arith, none_in)

-- a package-visible token behind those that may lead to a method
pub leaves_none : (world : List Shape) (c : ClassName) (asker count : ℕ)
    → ((token : ℕ) → count ≤ token → token < 128 → virtual_method_of world c (128 + token) asker ≡ None)
    → (m : ℕ) → 128 + count ≤ m → m < 256 → leaves_at world c asker m ≡ false
leaves_none world c asker count none m least less =
    let same : m ≡ 128 + (m - 128) = omega (arith, least) in
    grind arith

-- all of them
pub all_virtual : range_with_len 0 (256 - 0) ≡ virtual_tokens
unfolding virtual_tokens
all_virtual = refl

pub all_public : range_with_len 0 (128 - 0) ≡ public_tokens
unfolding public_tokens
all_public = refl

pub all_package : range_with_len 128 (256 - 128) ≡ package_tokens
unfolding package_tokens
all_package = refl

-- a package that finds nothing isn't asked
pub left_within : (world : List Shape) (c : ClassName) (places : Places) (count : ℕ) → FindsNothingElse world c places
    → list_any (λ asker. is_among places asker && leaves_package_abstract world c asker) (range_with_len 0 count)
    ≡ list_any (leaves_package_abstract world c) (range_with_len 0 count)
left_within world c places count nothing =
    ap (λ test. list_any test (range_with_len 0 count)) (fun_ext (λ asker. by_place asker (is_among places asker) refl))
  where
    by_place : (asker : ℕ) (b : Bool) → is_among places asker ≡ b
        → (b && leaves_package_abstract world c asker) ≡ leaves_package_abstract world c asker
    by_place asker true e = refl
    by_place asker false e =
        rest_fails (leaves_at world c asker) _ 128 256 (ap (list_any (leaves_at world c asker)) all_package)
        (λ m least less. ap (λ o. option_map_or (is_abstract_at world) o false) (nothing m asker e least less))
