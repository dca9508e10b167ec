-- Accepted worlds come about: the API's packages alone, and package by package behind them.
use Rattle.std.proofs.Common.{◌≡◌, ◌⊎◌, ℕ, zero, suc, ◌<◌, List, [], ◌∷◌, ◌++◌, length, take, Some, refl, sym, ap, ◌∙◌}
use Rattle.std.proofs.Common.{subst, inl, inr, ⊎_elim, arith, slice_get, take_all, length-append}
use Rattle.std.proofs.lemmas.List.{take-append-le}
use Rattle.std.proofs.lemmas.Option.{none-some, same_Some}
use Rattle.jc_api.specs.Bound.{Bound}
use Rattle.jc_api.specs.NoClash.{HasNoClash}
use Rattle.jc_check.specs.Checked.{IsPackageCarried, IsPackageTyped}
use Rattle.jc_link.specs.Built.IsBuilt.{api}
use Rattle.jc_link.specs.Linked.{IsBoundTo, IsWorld, Linked, LinkedBody, World, with_linked}
use Rattle.jc_classes.specs.Limits.{IsSmall}
use Rattle.jc_machine.proofs.SmallWorlds.{api_is_small}
use Rattle.jc_machine.specs.Accepted.{HaveByteTokens, IsAccepted, IsAcceptedPackage, api_alone, linked_as}
use Rattle.jc_machine.specs.Lookup.{body_at, of_package}

no_body : (number : ℕ) (body : LinkedBody) → of_package [] number ≡ Some body → ⊥
no_body number body h1 = grind (arith, none-some)

pub api_is_accepted : (bound : Bound) → HasNoClash bound → IsAccepted (api_alone bound)
api_is_accepted bound apart = record {
  world = record { built = api bound apart; count = refl; known = λ n body e. absurd (none-some body e) };
  small = api_is_small bound;
  packages = λ number body e. absurd (no_body number body e);
}

-- what stands in a list with one more at its end stood there, or is the last
pub placed : {A : Type 0} (xs : List A) (y x : A) (n : ℕ) → slice_get (xs ++ y ∷ []) n ≡ Some x
    → ((slice_get xs n ≡ Some x) × (n < length xs)) ⊎ ((n ≡ length xs) × (y ≡ x))
placed [] y x zero e = inr (refl, same_Some y x e)
placed [] y x (suc n) e = absurd (none-some x e)
placed (z ∷ xs) y x zero e = inl (e, omega arith)
placed (z ∷ xs) y x (suc n) e = grind (arith, placed xs y x n e)

module _ (w : World) (l : Linked) (accepted : IsAccepted w) (bound : IsBoundTo w l) (world : IsWorld (with_linked w l))
    (small : IsSmall l.world) (tokens : HaveByteTokens l.body.kept.pool) (carried : IsPackageCarried l)
    (typed : IsPackageTyped l) where
  -- a package is known as it was linked
  as_linked : (n : ℕ) (body : LinkedBody) (linked : Linked) → linked_as (with_linked w l) (suc n) body ≡ linked
      → HaveByteTokens body.kept.pool → IsPackageCarried linked → IsPackageTyped linked
      → IsAcceptedPackage (with_linked w l) (suc n) body
  as_linked n body linked same tokens carried typed = grind arith

  earlier : (n : ℕ) (body : LinkedBody) → slice_get w.bodies n ≡ Some body → n < length w.bodies
      → IsAcceptedPackage (with_linked w l) (suc n) body
  earlier n body there low =
      let known = accepted.packages (suc n) body there in
      let count = accepted.world.count in
      let first = ap (take (suc (suc (suc n)))) bound.1
      ∙ take-append-le (suc (suc (suc n))) w.shapes (bound.0 ∷ []) (omega (arith, low, count)) in
      as_linked n body (linked_as w (suc n) body) (ap (λ world. record { world = world; body = body }) first)
      known.tokens known.carried known.typed

  last : (n : ℕ) (body : LinkedBody) → n ≡ length w.bodies → l.body ≡ body
      → IsAcceptedPackage (with_linked w l) (suc n) body
  last n body at is =
      let count = world.count in
      let more = length-append w.bodies (l.body ∷ []) in
      let whole = take_all (suc (suc (suc n))) l.world (omega (arith, at, count, more)) in
      as_linked n body l
      (ap (λ world. record { world = world; body = body }) whole
      ∙ ap (λ body. record { world = l.world; body = body }) (sym is))
      (subst (λ (b : LinkedBody). HaveByteTokens b.kept.pool) is tokens) carried typed

  by_number : (number : ℕ) (body : LinkedBody) → body_at (with_linked w l) number ≡ Some body
      → IsAcceptedPackage (with_linked w l) number body
  by_number zero body e = absurd (none-some body e)
  by_number (suc n) body e =
      ⊎_elim (λ h. earlier n body h.0 h.1) (λ h. last n body h.0 h.1) (placed w.bodies l.body body n e)

  pub grown_is_accepted : IsAccepted (with_linked w l)
  grown_is_accepted = record { world = world; small = small; packages = by_number }
