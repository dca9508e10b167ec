-- Joins of types that name known classes, and what methods begin with.
use Rattle.std.proofs.Common.{◌≡◌, ℕ, zero, suc, ◌&&◌, Bool, true, cond, List, [], ◌∷◌, replicate, refl, arith}
use Rattle.std.proofs.lemmas.List.Folds.{list_all-append}
use Rattle.std.specs.List.{list_all}
use Rattle.jc_api.specs.declared.class.ApiClass.TheVariants.{Object}
use Rattle.jc_names.specs.declared.name.ClassName.{ClassName}
use Rattle.jc_names.specs.declared.name.ClassName.TheVariants.{Api}
use Rattle.jc_types.specs.Known.{AreKnown, is_known}
use Rattle.jc_types.specs.State.{Types, entry_types, joined_all, joined_types}
use Rattle.jc_types.specs.Ty.{join_of}
use Rattle.jc_types.specs.declared.ty.Ty.{Ty}
use Rattle.jc_types.specs.declared.ty.Ty.TheVariants.{Top, Word}

both : (a b : Bool) → a ≡ true → b ≡ true → (a && b) ≡ true
both a b h1 h2 = grind arith

each : (a b : Bool) → (a && b) ≡ true → (a ≡ true) × (b ≡ true)
each a b h1 = grind arith

module _ (known : ClassName → Bool) where
  word_or : (b : Bool) → is_known known (cond b Word Top) ≡ true
  word_or b = grind arith

  it_or : (b : Bool) (u : Ty) → is_known known u ≡ true → is_known known (cond b u Top) ≡ true
  it_or b u h1 = grind arith

  module _ (common : ClassName → ClassName → ClassName) (object : known (Api Object) ≡ true) (nearest : (c d : ClassName) → known c ≡ true → known (common c d) ≡ true) where
    join_known : (t u : Ty) → is_known known t ≡ true → is_known known u ≡ true → is_known known (join_of common t u) ≡ true
    join_known t u h1 h2 = grind (arith, word_or, it_or)

    all_joined : (ts us : List Ty) → list_all (is_known known) ts ≡ true → list_all (is_known known) us ≡ true → list_all (is_known known) (joined_all common ts us) ≡ true
    all_joined [] [] h k = refl
    all_joined [] (u ∷ us) h k = refl
    all_joined (t ∷ ts) [] h k = refl
    all_joined (t ∷ ts) (u ∷ us) h k =
        let one = each (is_known known t) (list_all (is_known known) ts) h in
        let other = each (is_known known u) (list_all (is_known known) us) k in
        both (is_known known (join_of common t u)) (list_all (is_known known) (joined_all common ts us)) (join_known t u one.0 other.0) (all_joined ts us one.1 other.1)

    pub joined_known : (s t : Types) → AreKnown known s → AreKnown known t → AreKnown known (joined_types common s t)
    joined_known s t h k = record { locals = all_joined s.locals t.locals h.locals k.locals; operands = all_joined s.operands t.operands h.operands k.operands }

  tops : (n : ℕ) → list_all (is_known known) (replicate n Top) ≡ true
  tops zero = refl
  tops (suc n) = tops n

  pub entry_known : (arguments : List Ty) (n : ℕ) → list_all (is_known known) arguments ≡ true → AreKnown known (entry_types arguments n)
  entry_known arguments n h = grind (arith, list_all-append, replicate, both, tops)
