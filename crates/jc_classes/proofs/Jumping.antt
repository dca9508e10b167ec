-- Jumps to classes far above.
use Rattle.std.proofs.Common.{◌≡◌, ℕ, zero, suc, ◌+◌, ◌-◌, ◌≤◌, ◌<◌, Bool, true, false, Option, Some, List, refl, sym}
use Rattle.std.proofs.Common.{ap, subst, ◌∙◌, ◌||◌, arith}
use Rattle.std.specs.Option.{option_and_then, option_map_or}
use Rattle.jc_base.proofs.Binding.{the_some}
use Rattle.jc_cap_desc.specs.Shape.{Shape}
use Rattle.jc_classes.proofs.Below.{name_is}
use Rattle.jc_classes.proofs.Nearing.{between}
use Rattle.jc_classes.proofs.Standing.{some_of}
use Rattle.jc_classes.proofs.Superclasses.{ends_above, one_more}
use Rattle.jc_classes.proofs.Tabling.{one_at_least}
use Rattle.jc_classes.specs.Listed.{class_behind}
use Rattle.jc_classes.specs.PrivateTables.{IsTabled, LeadsUp, Tabled}
use Rattle.jc_classes.specs.Subtype.{comes_to_end, is_at_or_above}
use Rattle.jc_classes.specs.Walk.{most_classes}
use Rattle.jc_classes.specs.World.{superclass_of}
use Rattle.jc_classes.specs.declared.tables.Jump.{Jump}
use Rattle.jc_names.specs.Names.{is_same_name}
use Rattle.jc_names.specs.declared.name.ClassName.{ClassName}

-- ---- classes so many superclasses above a class

module _ (world : List Shape) where
  ends_behind : (n m k : ℕ) (c d : ClassName) → n ≡ m + k → class_behind world m c ≡ Some d
      → comes_to_end world n c ≡ true → comes_to_end world k d ≡ true
  ends_behind n zero k c d sum there ends =
      let same : n ≡ k = omega (arith, sum) in
      subst (λ i. comes_to_end world i d ≡ true) same
      (subst (λ x. comes_to_end world n x ≡ true) (the_some c d there) ends)
  ends_behind zero (suc m) k c d sum there ends = absurd (omega (arith, sum))
  ends_behind (suc n) (suc m) k c d sum there ends =
      let s = some_of (class_behind world m) (superclass_of world c) d there in
      ends_behind n m k s.0 d (omega (arith, sum)) s.2 (ends_above world n c s.0 ends s.1)

  least_behind : (m k : ℕ) (c d : ClassName) → class_behind world m c ≡ Some d
      → ((n : ℕ) → comes_to_end world n c ≡ true → m + k ≤ n) → (n : ℕ) → comes_to_end world n d ≡ true → k ≤ n
  least_behind zero k c d there least n ends =
      let l = least n (subst (λ x. comes_to_end world n x ≡ true) (sym (the_some c d there)) ends) in omega (arith, l)
  least_behind (suc m) k c d there least n ends =
      let s = some_of (class_behind world m) (superclass_of world c) d there in
      least_behind m k s.0 d s.2
      (λ i e. let l = least (suc i) (ap (λ (o : Option ClassName). option_map_or (comes_to_end world i) o true) s.1 ∙ e)
      in omega (arith, l))
      n ends

  behind_on : (sum m n : ℕ) (c d e : ClassName) → sum ≡ m + n → class_behind world m c ≡ Some d
      → class_behind world n d ≡ Some e → class_behind world sum c ≡ Some e
  behind_on sum zero n c d e one there next =
      let same : sum ≡ n = omega (arith, one) in
      ap (λ i. class_behind world i c) same ∙ ap (class_behind world n) (the_some c d there) ∙ next
  behind_on zero (suc m) n c d e one there next = absurd (omega (arith, one))
  behind_on (suc sum) (suc m) n c d e one there next =
      let s = some_of (class_behind world m) (superclass_of world c) d there in
      ap (option_and_then (class_behind world sum)) s.1 ∙ behind_on sum m n s.0 d e (omega (arith, one)) s.2 next

-- ---- where jumps lead

pub leads_nowhere : (world : List Shape) (c : ClassName) (depth : ℕ)
    → LeadsUp world c depth (record { to = c; depth = depth })
leads_nowhere world c depth =
    let none : depth - depth ≡ 0 = omega arith in
    record { within = omega arith; there = ap (λ n. class_behind world n c) none }

pub leads_from : (world : List Shape) (c d : ClassName) (depth : ℕ) (jump : Jump) → superclass_of world c ≡ Some d
    → LeadsUp world d depth jump → LeadsUp world c (suc depth) jump
leads_from world c d depth jump up l =
    let within = l.within in
    let one : suc depth - jump.depth ≡ suc (depth - jump.depth) = omega (arith, within) in
    record {
      within = omega (arith, within);
      there = ap (λ n. class_behind world n c) one
          ∙ ap (option_and_then (class_behind world (depth - jump.depth))) up ∙ l.there;
    }

-- a table's jump, and the next one
pub leads_on : (world : List Shape) (c : ClassName) (low high : Tabled) → IsTabled world c low
    → IsTabled world low.jump.to high → LeadsUp world c low.depth high.jump
leads_on world c low high of far =
    let near = of.jump.within in
    let beyond = far.jump.within in
    let rest : low.depth ≡ low.depth - low.jump.depth + low.jump.depth = omega (arith, near) in
    let most = far.least low.jump.depth
    (ends_behind world low.depth (low.depth - low.jump.depth) low.jump.depth c low.jump.to rest of.jump.there
    of.ends) in
    let least = least_behind world (low.depth - low.jump.depth) low.jump.depth c low.jump.to of.jump.there
    (λ n e. let l = of.least n e in omega (arith, l, near)) high.depth far.ends in
    record {
      within = omega (arith, near, beyond, most);
      there = behind_on world (low.depth - high.jump.depth) (low.depth - low.jump.depth) (high.depth - high.jump.depth)
          c low.jump.to high.jump.to (omega (arith, near, beyond, most, least)) of.jump.there far.jump.there;
    }

-- ---- what a walk passes

-- no class is passed that stands less deep than all that are passed
passes : (world : List Shape) (d : ClassName) (high : ℕ) → comes_to_end world high d ≡ true
    → (sum m n k : ℕ) (c j : ClassName) → sum ≡ m + n → class_behind world m c ≡ Some j → high ≤ k
    → ((i : ℕ) → comes_to_end world i c ≡ true → m + k ≤ i)
    → is_at_or_above world sum d c ≡ is_at_or_above world n d j
passes world d high ends sum zero n k c j one there low least =
    let same : sum ≡ n = omega (arith, one) in
    ap (λ i. is_at_or_above world i d c) same ∙ ap (is_at_or_above world n d) (the_some c j there)
passes world d high ends zero (suc m) n k c j one there low least = absurd (omega (arith, one))
passes world d high ends (suc sum) (suc m) n k c j one there low least =
    let s = some_of (class_behind world m) (superclass_of world c) j there in
    by_name (is_same_name c d) refl s.0 s.1
    (passes world d high ends sum m n k s.0 j (omega (arith, one)) s.2 low
    (λ i e. let l = least (suc i) (ap (λ (o : Option ClassName). option_map_or (comes_to_end world i) o true) s.1 ∙ e)
    in omega (arith, l)))
  where
    by_name : (b : Bool) → is_same_name c d ≡ b → (s : ClassName) → superclass_of world c ≡ Some s
        → is_at_or_above world sum d s ≡ is_at_or_above world n d j
        → is_at_or_above world (suc sum) d c ≡ is_at_or_above world n d j
    by_name false other s up rest = one_more world d c sum false (Some s) other up ∙ rest
    by_name true here s up rest =
        let l = least high (ap (comes_to_end world high) (name_is c d here) ∙ ends) in
        absurd (omega (arith, l, low))

module _ (world : List Shape) (c d : ClassName) (low high : Tabled) (of : IsTabled world c low)
    (top : IsTabled world d high) where
  -- a jump that doesn't pass the other class's depth
  pub jumps_right : (jump : Jump) → LeadsUp world c low.depth jump → high.depth ≤ jump.depth
      → is_at_or_above world most_classes d jump.to ≡ is_at_or_above world most_classes d c
  jumps_right jump l deep =
      let within = l.within in
      let few = of.depth in
      let one = one_at_least world d high.depth top.ends in
      let m = low.depth - jump.depth in
      sym (passes world d high.depth top.ends (m + most_classes) m most_classes jump.depth c jump.to refl l.there deep
      (λ i e. let least = of.least i e in omega (arith, least, within)))
      ∙ between world c d low high of top (m + most_classes) (omega (arith, few, one))

  pub steps_right : (s : ClassName) → superclass_of world c ≡ Some s → high.depth < low.depth
      → is_at_or_above world most_classes d s ≡ is_at_or_above world most_classes d c
  steps_right s up deep =
      jumps_right (record { to = s; depth = low.depth - 1 })
      (record {
        within = omega arith;
        there = let one : low.depth - (low.depth - 1) ≡ 1 = omega (arith, deep) in
            ap (λ n. class_behind world n c) one ∙ ap (option_and_then (class_behind world 0)) up;
      })
      (omega (arith, deep))

  -- a class that doesn't stand deeper is the other one, or the other one isn't above it
  pub stands_right : low.depth ≤ high.depth → is_same_name c d ≡ is_at_or_above world most_classes d c
  stands_right deep =
      sym (one_step (is_same_name c d) (superclass_of world c))
      ∙ between world c d low high of top 1 (omega (arith, deep))
    where
      one_step : (b : Bool) (o : Option ClassName) → (b || option_map_or (is_at_or_above world 0 d) o false) ≡ b
      one_step b o = grind arith
