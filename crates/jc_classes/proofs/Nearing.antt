-- How far above a class another one can stand, by where the superclasses of both come to an end.
use Rattle.std.proofs.Common.{◌≡◌, ℕ, zero, suc, ◌+◌, ◌≤◌, ◌⊎◌, inl, inr, Bool, true, false, List, Some}
use Rattle.std.proofs.Common.{refl, sym, ap, ◌∙◌, arith}
use Rattle.jc_classes.proofs.Standing.{true_false}
use Rattle.jc_cap_desc.specs.Shape.{Shape}
use Rattle.jc_classes.specs.PrivateTables.{IsTabled, Tabled}
use Rattle.jc_classes.specs.Subtype.{comes_to_end, is_at_or_above}
use Rattle.jc_classes.specs.Walk.{most_classes}
use Rattle.jc_classes.specs.World.{superclass_of}
use Rattle.jc_classes.proofs.Below.{name_itself}
use Rattle.jc_classes.proofs.Superclasses.{above_it, above_more, ends_above, enough, found_by, met}
use Rattle.jc_names.specs.Names.{is_same_name}
use Rattle.jc_names.specs.declared.name.ClassName.{ClassName}

-- a class that is met on the way up: so many classes come before it, and its own superclasses end within the rest
record IsMet (world : List Shape) (m : ℕ) (c d : ClassName) : Type 0 where
  before : ℕ
  rest : ℕ
  all : before + rest ≡ m
  ends : comes_to_end world rest d ≡ true
  found : is_at_or_above world (suc before) d c ≡ true

met_within : (world : List Shape) (m k : ℕ) (c d : ClassName) → comes_to_end world m c ≡ true
    → is_at_or_above world k d c ≡ true → IsMet world m c d
met_within world zero k c d e h = absurd (true_false (sym e))
met_within world (suc m) zero c d e h = absurd (true_false (sym h))
met_within world (suc m) (suc k) c d e h =
    by_way (found_by world d c k h) (λ s f r. met_within world m k s d (ends_above world m c s e f) r)
  where
    by_way : (c ≡ d) ⊎ ((s : ClassName) × (superclass_of world c ≡ Some s) × (is_at_or_above world k d s ≡ true))
        → ((s : ClassName) → superclass_of world c ≡ Some s → is_at_or_above world k d s ≡ true → IsMet world m s d)
        → IsMet world (suc m) c d
    by_way (inl is) next = record {
      before = 0;
      rest = suc m;
      all = omega arith;
      ends = ap (comes_to_end world (suc m)) (sym is) ∙ e;
      found = met world d c 0 (ap (is_same_name c) (sym is) ∙ name_itself c);
    }
    by_way (inr r) next =
        let n = next r.0 r.1 r.2 in
        record {
          before = suc n.before;
          rest = n.rest;
          all = omega (arith, n.all);
          ends = n.ends;
          found = above_it world d c (suc n.before) r.0 r.1 n.found;
        }

module _ (world : List Shape) (c d : ClassName) (low high : Tabled) (of : IsTabled world c low)
    (top : IsTabled world d high) where
  -- as many classes as lie between the two, and one more, are enough
  pub between : (n : ℕ) → suc low.depth ≤ n + high.depth
      → is_at_or_above world n d c ≡ is_at_or_above world most_classes d c
  between n far = by_tests (is_at_or_above world n d c) (is_at_or_above world most_classes d c)
      (λ h. above_more world low.depth most_classes d c of.depth (enough world low.depth n d c of.ends h))
      (λ h. let m = met_within world low.depth most_classes c d of.ends h in
      let least = top.least m.rest m.ends in
      above_more world (suc m.before) n d c (omega (arith, m.all, least, far)) m.found)
    where
      by_tests : (a b : Bool) → (a ≡ true → b ≡ true) → (b ≡ true → a ≡ true) → a ≡ b
      by_tests true b f g = sym (f refl)
      by_tests false true f g = g refl
      by_tests false false f g = refl
