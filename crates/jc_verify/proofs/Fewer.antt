-- Methods that stand at different offsets within a component are fewer than two bytes count.
use Rattle.std.proofs.Common.{◌≡◌, ◌⊎◌, inl, inr, ℕ, suc, zero, ◌<◌, ◌^◌, ◌==◌, ◌||◌, Bool, true, false, List, []}
use Rattle.std.proofs.Common.{◌∷◌, length, map, Some, get_or, slice_get, refl, arith}
use Rattle.std.specs.List.{IsDistinct, list_any}
use Rattle.std.proofs.lemmas.Bool.{cases_eq, ne_eqb}
use Rattle.std.proofs.lemmas.List.{length-map}
use Rattle.std.proofs.lemmas.Map.Keys.{IsDistinct-from_apart}
use Rattle.std.proofs.lemmas.Map.Steps.{length-le_from_distinct_below}
use Rattle.std.proofs.lemmas.Option.{none-some, same_Some, slice_get-get_or}
use Rattle.jc_cap_desc.specs.Shape.{MethodBody, StandApart}

abbrev offsets : List MethodBody → List ℕ
offsets methods = map (λ b. b.offset) methods

-- what stands at a place among the offsets
at_place : (methods : List MethodBody) (n q : ℕ) → slice_get (offsets methods) n ≡ Some q → (b : MethodBody) × (slice_get methods n ≡ Some b) × (b.offset ≡ q)
at_place [] n q e = absurd (none-some q e)
at_place (b ∷ methods) zero q e = (b, refl, same_Some b.offset q e)
at_place (b ∷ methods) (suc n) q e = at_place methods n q e

distinct : (methods : List MethodBody) → StandApart methods → IsDistinct (λ (a b : ℕ). a == b) (offsets methods)
distinct methods apart = grind (arith, IsDistinct-from_apart, ne_eqb, at_place, get_or, slice_get-get_or)

below : (methods : List MethodBody) → ((n : ℕ) (b : MethodBody) → slice_get methods n ≡ Some b → suc b.offset < 2 ^ 16)
    → (q : ℕ) → list_any (λ x. q == x) (offsets methods) ≡ true → q < 65535
below [] within q e = absurd cc
below (b ∷ methods) within q e = by (cases_eq q b.offset) (below methods (λ n. within (suc n)) q)
  where
    behind : (c : Bool) → c ≡ false → (c || list_any (λ x. q == x) (offsets methods)) ≡ true → list_any (λ x. q == x) (offsets methods) ≡ true
    behind c h1 h2 = grind arith

    by : (q ≡ b.offset) ⊎ (q ≡ b.offset → ⊥) → (list_any (λ x. q == x) (offsets methods) ≡ true → q < 65535) → q < 65535
    by (inl is) rest = let small = within zero b refl in omega (arith, is, small)
    by (inr other) rest = rest (behind (q == b.offset) (ne_eqb q b.offset other) e)

pub fewer : (methods : List MethodBody) → StandApart methods → length methods < 2 ^ 16
fewer methods apart =
    let few = length-le_from_distinct_below (offsets methods) 65535 (distinct methods apart) (below methods apart.within) in
    omega (arith, few, length-map methods (λ (b : MethodBody). b.offset))
