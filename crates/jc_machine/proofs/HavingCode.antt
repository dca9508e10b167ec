-- In a world methods that aren't abstract have code.
use Rattle.std.proofs.Common.{◌≡◌, ℕ, zero, suc, ◌+◌, ◌<◌, ◌==◌, Bool, true, cond, List, [], ◌∷◌, length, Option, Some}
use Rattle.std.proofs.Common.{None}
use Rattle.std.proofs.Common.{refl, sym, ap, ◌∙◌, subst, arith, slice_get}
use Rattle.std.proofs.lemmas.Bool.{eq-eqb, le-ltb}
use Rattle.std.specs.List.{find}
use Rattle.std.specs.Option.{option_and_then, IsSome}
use Rattle.jc_cap_desc.specs.Shape.{MethodBody, Shape}
use Rattle.jc_classes.specs.Members.{DeclaredMethod, declared_in, method_at}
use Rattle.jc_classes.specs.Methods.{method_name}
use Rattle.jc_names.specs.declared.name.MethodName.TheVariants.{Loaded}
use Rattle.jc_link.specs.Linked.{IsWorld, LinkedBody, World}
use Rattle.jc_machine.specs.Accepted.{HaveCode}
use Rattle.jc_machine.specs.Lookup.{of_package}

none_some : {A : Type 0} (y : A) → ◌≡◌ {A = Option A} None (Some y) → ⊥
none_some y h = cc

-- the method with an offset is found where there is one
found : (bodies : List MethodBody) (offset n : ℕ) (b : MethodBody) → slice_get bodies n ≡ Some b → b.offset ≡ offset
    → IsSome (find (λ x. x.offset == offset) bodies)
found [] offset n b at is = absurd (none_some b at)
found (x ∷ bodies) offset zero b at is = by_test (x.offset == offset) here
  where
    same : Some x ≡ Some b
    same = at

    here : x.offset == offset ≡ true
    here = eq-eqb x.offset offset (the_same x b same ∙ is)
      where
        the_same : (x y : MethodBody) → Some x ≡ Some y → x.offset ≡ y.offset
        the_same x y e = cc

    by_test : (t : Bool) → t ≡ true → IsSome (cond t (Some x) (find (λ x. x.offset == offset) bodies))
    by_test t h1 = grind arith
found (x ∷ bodies) offset (suc n) b at is = by_test (x.offset == offset) (found bodies offset n b at is)
  where
    by_test : (t : Bool) → IsSome (find (λ x. x.offset == offset) bodies)
        → IsSome (cond t (Some x) (find (λ x. x.offset == offset) bodies))
    by_test t h1 = grind arith

there : {A : Type 0} (xs : List A) (n : ℕ) → n < length xs → (x : A) × (slice_get xs n ≡ Some x)
there [] n h = absurd (omega (arith, h))
there (x ∷ xs) zero h = (x, refl)
there (x ∷ xs) (suc n) h = there xs n (omega (arith, h))

within : {A : Type 0} (xs : List A) (n : ℕ) (x : A) → slice_get xs n ≡ Some x → n < length xs
within [] n x e = absurd (none_some x e)
within (y ∷ xs) zero x e = omega arith
within (y ∷ xs) (suc n) x e = let h = within xs n x e in omega (arith, h)

pub have_code : (w : World) → IsWorld w → HaveCode w
have_code w is place d header at its concrete = by_number place.number at
  where
    shape_there : (o : Option Shape) (f : Shape → Option DeclaredMethod) → option_and_then f o ≡ Some d
        → (s : Shape) × (o ≡ Some s)
    shape_there o f h1 = grind (arith, none_some)

    by_number : (n : ℕ) → method_at w.shapes (Loaded n place.offset) ≡ Some d
        → IsSome (option_and_then (λ b. find (λ x. x.offset == place.offset) b.kept.methods) (of_package w.bodies n))
    by_number zero at = absurd (none_some d at)
    by_number (suc n) at =
        let shape = shape_there (slice_get w.shapes (suc (suc n))) (declared_in (suc (suc n)) place.offset) at in
        let low = within w.shapes (suc (suc n)) shape.0 shape.1 in
        let count = is.count in
        let body = there w.bodies n (omega (arith, low, count)) in
        let two : 2 + n ≡ suc (suc n) = omega arith in
        let known = is.known n body.0 body.1 in
        let name : method_name (suc (suc n)) place.offset ≡ Loaded (suc n) place.offset
        = named n in
        let its_code = known.coded place.offset d
        (ap (λ h. method_at w.shapes (method_name h place.offset)) two ∙ ap (method_at w.shapes) name ∙ at)
        (record { header = header; there = its; concrete = concrete }) in
        subst (λ o. IsSome (option_and_then (λ (b : LinkedBody). find (λ x. x.offset == place.offset) b.kept.methods)
        o))
        (sym body.1)
        (found (body.0).kept.methods place.offset its_code.place its_code.body its_code.there its_code.offset_is)
      where
        named : (n : ℕ) → method_name (suc (suc n)) place.offset ≡ Loaded (suc n) place.offset
        named n = grind (arith, le-ltb)
