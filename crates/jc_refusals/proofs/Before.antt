-- Which of several refusals is told.
use Rattle.std.proofs.Common.{◌≡◌, ◌⊎◌, ◌<◌, ◌≤◌, ◌==◌, ◌&&◌, ◌||◌, Bool, true, false, cond, inl, inr}
use Rattle.std.proofs.Common.{Option, Some, None, arith, refl, subst, nat_lt}
use Rattle.std.proofs.lemmas.Bool.{eqb-false, eqb-true, ltb-false, ltb-true}
use Rattle.jc_base.specs.Fault.{is_told_before, least_of, number_of, place_of}
use Rattle.jc_base.specs.declared.fault.LoadFault.{LoadFault}
use Rattle.jc_cap_desc.specs.Package.{told}

-- a refusal is told if both apply: it has the smaller number, or the same one and no greater place
pub record Before (f g : LoadFault) : Type 0 where
  pub number : number_of f ≤ number_of g
  pub place : number_of g ≡ number_of f → place_of f ≤ place_of g

pub before_same : (f g : LoadFault) → f ≡ g → Before f g
before_same f g e = subst (Before f) e (record { number = omega arith; place = λ same. omega arith })

pub before_less : (f g : LoadFault) → number_of f < number_of g → Before f g
before_less f g less = record {
  number = omega (arith, less);
  place = λ same. absurd (omega (arith, less, same));
}

pub before_both : (f g h : LoadFault) → Before f g → Before g h → Before f h
before_both f g h a b =
    let one = a.number in
    let two = b.number in
    record {
      number = omega (arith, one, two);
      place = λ same. (
          let first = a.place (omega (arith, one, two, same)) in
          let next = b.place (omega (arith, one, two, same)) in
          omega (arith, first, next));
    }

-- ---- the one of two

pub record BeforeBoth (f a b : LoadFault) : Type 0 where
  pub left : Before f a
  pub right : Before f b

chosen : (a b : LoadFault) (less same lower : Bool) → nat_lt (number_of b) (number_of a) ≡ less
    → (number_of b == number_of a) ≡ same → nat_lt (place_of b) (place_of a) ≡ lower
    → BeforeBoth (cond (less || (same && lower)) b a) a b
chosen a b true same lower e f g =
    let is = ltb-true (number_of b) (number_of a) e in
    record { left = before_less b a is; right = before_same b b refl }
chosen a b false true true e f g =
    let is = eqb-true (number_of b) (number_of a) f in
    let low = ltb-true (place_of b) (place_of a) g in
    record {
      left = record { number = omega (arith, is); place = λ same. omega (arith, low) };
      right = before_same b b refl;
    }
chosen a b false true false e f g =
    let is = eqb-true (number_of b) (number_of a) f in
    let low = ltb-false (place_of b) (place_of a) g in
    record {
      left = before_same a a refl;
      right = record { number = omega (arith, is); place = λ same. omega (arith, low) };
    }
chosen a b false false lower e f g =
    let is = ltb-false (number_of b) (number_of a) e in
    record {
      left = before_same a a refl;
      right = record {
        number = omega (arith, is);
        place = λ same. absurd (eqb-false (number_of b) (number_of a) f same);
      };
    }

least_before : (a b : LoadFault) → BeforeBoth (least_of a b) a b
least_before a b = chosen a b _ _ _ refl refl refl

-- ---- refusals that are told or not

-- what is told of two is one of them
pub told_from : (f : LoadFault) (a b : Option LoadFault) → told a b ≡ Some f → (a ≡ Some f) ⊎ (b ≡ Some f)
told_from f None b e = inr e
told_from f (Some x) None e = inl e
told_from f (Some x) (Some y) e = part (is_told_before y x) e
  where
    part : (first : Bool) → Some (cond first y x) ≡ Some f → (Some x ≡ Some f) ⊎ (Some y ≡ Some f)
    part true e = inr e
    part false e = inl e

pub none_left : (a b : Option LoadFault) → told a b ≡ None → a ≡ None
none_left None b e = refl
none_left (Some x) None e = e
none_left (Some x) (Some y) e = absurd cc

pub none_right : (a b : Option LoadFault) → told a b ≡ None → b ≡ None
none_right None b e = e
none_right (Some x) None e = refl
none_right (Some x) (Some y) e = absurd cc

-- ---- from what is told of one to what is told of several

-- something is told, before another refusal or as that
pub record ToldFor (g : LoadFault) (found : Option LoadFault) : Type 0 where
  pub fault : LoadFault
  pub is : found ≡ Some fault
  pub before : Before fault g

pub told_itself : (g : LoadFault) (found : Option LoadFault) → found ≡ Some g → ToldFor g found
told_itself g found e = record { fault = g; is = e; before = before_same g g refl }

pub told_left : (g : LoadFault) (a b : Option LoadFault) → ToldFor g a → ToldFor g (told a b)
told_left g None b h = let no = h.is in absurd cc
told_left g (Some x) None h = h
told_left g (Some x) (Some y) h =
    let e = h.is in
    let same : h.fault ≡ x = cc in
    let both = least_before x y in
    record {
      fault = least_of x y;
      is = refl;
      before = before_both (least_of x y) x g both.left (subst (λ (f : LoadFault). Before f g) same h.before);
    }

pub told_right : (g : LoadFault) (a b : Option LoadFault) → ToldFor g b → ToldFor g (told a b)
told_right g None b h = h
told_right g (Some x) None h = let no = h.is in absurd cc
told_right g (Some x) (Some y) h =
    let e = h.is in
    let same : h.fault ≡ y = cc in
    let both = least_before x y in
    record {
      fault = least_of x y;
      is = refl;
      before = before_both (least_of x y) y g both.right (subst (λ (f : LoadFault). Before f g) same h.before);
    }
