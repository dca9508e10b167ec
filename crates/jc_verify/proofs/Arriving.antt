-- What is held once a state has flowed in at a place.
use Rattle.std.proofs.Common.{◌≡◌, ◌⊎◌, inl, inr, ℕ, zero, suc, ◌<◌, ◌≤◌, Bool, true, ◌&&◌, List, [], ◌∷◌, length, Option, Some, slice_get, slice_set, refl, sym, ap, subst, ◌∙◌, arith}
use Rattle.std.specs.Option.{option_and_then, option_map}
use Rattle.std.proofs.Math.Nat.{mul-le-mul_right}
use Rattle.std.proofs.lemmas.Bool.{cases_eq}
use Rattle.std.proofs.lemmas.Option.{none-some, same_Some, slice_get_within}
use Rattle.jc_check.specs.Method.{CheckedMethod}
use Rattle.jc_check.specs.Package.{package_rules}
use Rattle.jc_check.specs.Typing.{HasShape, Leads}
use Rattle.jc_classes.specs.Subtype.{classes_above, is_class_below}
use Rattle.jc_classes.specs.Walk.{most_classes}
use Rattle.jc_names.specs.declared.name.ClassName.{ClassName}
use Rattle.jc_link.specs.Linked.{Linked}
use Rattle.jc_types.specs.State.{StateWithRoom, Types, all_below, height_of_types, types_below}
use Rattle.jc_types.specs.Ty.{is_below}
use Rattle.jc_types.specs.declared.ty.Ty.{Ty}
use Rattle.jc_verify.specs.PrivateFlow.{AreShaped, Grown, HasLaws, HasRoom, IsNumbered, Places, Risen, below_in, held_at, height_in, most_height, number_at, types_held}
use Rattle.jc_verify.specs.PrivatePlaces.{HoldsAbove, IsStep}
use Rattle.jc_verify.specs.declared.place.Place.{Place}
use Rattle.jc_verify.proofs.Growing.{leads_on}

-- ---- lists with one element in place of another

pub set_same : {A : Type 0} (xs : List A) (n : ℕ) (x : A) → n < length xs → slice_get (slice_set xs n x) n ≡ Some x
set_same [] n x h = absurd (omega (arith, h))
set_same (y ∷ ys) zero x h = refl
set_same (y ∷ ys) (suc n) x h = set_same ys n x (omega (arith, h))

pub set_other : {A : Type 0} (xs : List A) (n k : ℕ) (x : A) → (k ≡ n → ⊥) → slice_get (slice_set xs n x) k ≡ slice_get xs k
set_other (y ∷ ys) zero zero x other = absurd (other refl)
set_other (y ∷ ys) (suc n) (suc k) x other = set_other ys n k x (λ e. other (ap suc e))
set_other t n k x other = refl

pub set_length : {A : Type 0} (xs : List A) (n : ℕ) (x : A) → length (slice_set xs n x) ≡ length xs
set_length (y ∷ ys) (suc n) x = ap suc (set_length ys n x)
set_length t n x = refl

-- a pc that has a number is within the table
pub number_within : (numbers : List (Option ℕ)) (pc n : ℕ) → number_at numbers pc ≡ Some n → pc < length numbers
number_within [] pc n e = absurd (none-some n e)
number_within (x ∷ numbers) zero n e = omega arith
number_within (x ∷ numbers) (suc pc) n e = let k = number_within numbers pc n e in omega (arith, k)

-- ---- shapes

all_below_length : (below : ClassName → ClassName → Bool) (xs ys : List Ty) → all_below below xs ys ≡ true → length xs ≡ length ys
all_below_length below [] [] h = refl
all_below_length below (a ∷ xs) (b ∷ ys) h = ap suc (all_below_length below xs ys (second (is_below below a b) _ h))
  where
    second : (p q : Bool) → p && q ≡ true → q ≡ true
    second p q h1 = grind arith
all_below_length below t u h = absurd cc

-- types below others are as many
pub below_lengths : (below : ClassName → ClassName → Bool) (s t : Types) → types_below below s t ≡ true → (length s.locals ≡ length t.locals) × (length s.operands ≡ length t.operands)
below_lengths below s t h = let parts = both (all_below below s.locals t.locals) (all_below below s.operands t.operands) h in (all_below_length below s.locals t.locals parts.0, all_below_length below s.operands t.operands parts.1)
  where
    both : (p q : Bool) → p && q ≡ true → (p ≡ true) × (q ≡ true)
    both p q h1 = grind arith

pub shape_above : (below : ClassName → ClassName → Bool) (m : CheckedMethod) (s t : Types) → types_below below s t ≡ true → HasShape m s → HasShape m t
shape_above below m s t h shape =
    let parts = both (all_below below s.locals t.locals) (all_below below s.operands t.operands) h in
    let locals = all_below_length below s.locals t.locals parts.0 in
    let operands = all_below_length below s.operands t.operands parts.1 in
    record { locals = omega (arith, locals, shape.locals); operands = omega (arith, operands, shape.operands) }
  where
    both : (p q : Bool) → p && q ≡ true → (p ≡ true) × (q ≡ true)
    both p q h1 = grind arith

-- a state to work on is in the shape of its method
pub in_room : (m : CheckedMethod) (s : StateWithRoom) → HasRoom m s → length s.types.operands ≤ s.room → HasShape m s.types
in_room m s room h = record { locals = room.locals; operands = omega (arith, room.room, h) }

pub low_enough : (l : Linked) → HasLaws l → (m : CheckedMethod) (t : Types) → HasShape m t → height_of_types (classes_above l.world) most_classes t ≤ most_height m
low_enough l laws m t shape = grind (arith, mul-le-mul_right)

-- ---- a place that took in a state

module _ (l : Linked) (laws : HasLaws l) (m : CheckedMethod) (numbers : List (Option ℕ)) where
  pub at_number : (places : Places) (pc n : ℕ) (p : Place StateWithRoom) → number_at numbers pc ≡ Some n → slice_get places n ≡ Some p → held_at numbers places pc ≡ types_held p
  at_number places pc n p e f = ap (λ o. option_and_then types_held (option_and_then (slice_get places) o)) e ∙ ap (option_and_then types_held) f

  -- where what is held comes from
  pub record IsHeldBy (places : Places) (pc : ℕ) (t : Types) : Type 0 where
    pub number : ℕ
    pub place : Place StateWithRoom
    pub state : StateWithRoom
    pub numbered : number_at numbers pc ≡ Some number
    pub stands : slice_get places number ≡ Some place
    pub held : place.held ≡ Some state
    pub types : state.types ≡ t

  pub held_by : (places : Places) (pc : ℕ) (t : Types) → held_at numbers places pc ≡ Some t → IsHeldBy places pc t
  held_by places pc t h = by_number (number_at numbers pc) refl h
    where
      by_held : (n : ℕ) (p : Place StateWithRoom) (o : Option StateWithRoom) → number_at numbers pc ≡ Some n → slice_get places n ≡ Some p → p.held ≡ o → option_map (λ s. s.types) o ≡ Some t → IsHeldBy places pc t
      by_held n p o h1 h2 h3 h4 = grind (arith, none-some, same_Some)

      by_place : (n : ℕ) (o : Option (Place StateWithRoom)) → number_at numbers pc ≡ Some n → slice_get places n ≡ o → option_and_then types_held o ≡ Some t → IsHeldBy places pc t
      by_place n o h1 h2 h3 = grind (arith, none-some, by_held)

      by_number : (o : Option ℕ) → number_at numbers pc ≡ o → option_and_then types_held (option_and_then (slice_get places) o) ≡ Some t → IsHeldBy places pc t
      by_number o h1 h2 = grind (arith, none-some, by_place)

  module _ (places : Places) (number : ℕ) (p q : Place StateWithRoom) (value : StateWithRoom) (at : slice_get places number ≡ Some p)
      (step : IsStep (below_in l.world) (height_in l.world) (most_height m) p q) (holds : HoldsAbove (below_in l.world) q value) (shape : HasShape m value.types) where
    abbrev pub new : Places
    new = slice_set places number q

    here : slice_get new number ≡ Some q
    here = set_same places number q (slice_get_within places number p at)

    same_pc : q.pc ≡ p.pc
    same_pc = by_step step
      where
        by_step : IsStep (below_in l.world) (height_in l.world) (most_height m) p q → q.pc ≡ p.pc
        by_step h1 = grind arith

    each_step : (n : ℕ) (x y : Place StateWithRoom) → slice_get places n ≡ Some x → slice_get new n ≡ Some y → IsStep (below_in l.world) (height_in l.world) (most_height m) x y
    each_step n x y e f = by_number (cases_eq n number)
      where
        by_number : (n ≡ number) ⊎ (n ≡ number → ⊥) → IsStep (below_in l.world) (height_in l.world) (most_height m) x y
        by_number h1 = grind (arith, same_Some, here, set_other)

    leads_here : (pc : ℕ) → number_at numbers pc ≡ Some number → Leads (package_rules l) (held_at numbers new) value.types pc
    leads_here pc e = grind (arith, at_number, here)

    rises : (pc : ℕ) (t : Types) → held_at numbers places pc ≡ Some t → Leads (package_rules l) (held_at numbers new) t pc
    rises pc t e = by_number (cases_eq by.number number)
      where
        by : IsHeldBy places pc t
        by = held_by places pc t e

        by_step : by.number ≡ number → IsStep (below_in l.world) (height_in l.world) (most_height m) p q → Leads (package_rules l) (held_at numbers new) t pc
        by_step is (inl same) = record {
          state = t;
          typed =
              let to_p : by.place ≡ p = same_Some by.place p (sym by.stands ∙ ap (slice_get places) is ∙ at) in
              at_number new pc number q (by.numbered ∙ ap Some is) here ∙ ap types_held (same ∙ sym to_p) ∙ ap (option_map (λ (s : StateWithRoom). s.types)) by.held ∙ ap Some by.types;
          below = laws.itself t;
        }
        by_step is (inr raised) =
            let to_p : by.place ≡ p = same_Some by.place p (sym by.stands ∙ ap (slice_get places) is ∙ at) in
            let y = raised.above by.state (ap (λ (x : Place StateWithRoom). x.held) (sym to_p) ∙ by.held) in
            record {
              state = y.value.types;
              typed = at_number new pc number q (by.numbered ∙ ap Some is) here ∙ ap (option_map (λ (s : StateWithRoom). s.types)) y.held;
              below = subst (λ (x : Types). types_below (is_class_below l.world) x y.value.types ≡ true) by.types y.above;
            }

        by_number : (by.number ≡ number) ⊎ (by.number ≡ number → ⊥) → Leads (package_rules l) (held_at numbers new) t pc
        by_number (inl is) = by_step is step
        by_number (inr other) = record {
          state = t;
          typed = at_number new pc by.number by.place by.numbered (set_other places number by.number q other ∙ by.stands) ∙ ap (option_map (λ (s : StateWithRoom). s.types)) by.held ∙ ap Some by.types;
          below = laws.itself t;
        }

    known : IsNumbered numbers places → (n : ℕ) (r : Place StateWithRoom) → slice_get new n ≡ Some r → number_at numbers r.pc ≡ Some n
    known h n r f = by_number (cases_eq n number)
      where
        by_number : (n ≡ number) ⊎ (n ≡ number → ⊥) → number_at numbers r.pc ≡ Some n
        by_number (inl is) =
            let to_r : q ≡ r = same_Some q r (sym here ∙ ap (slice_get new) (sym is) ∙ f) in
            ap (λ (x : Place StateWithRoom). number_at numbers x.pc) (sym to_r) ∙ ap (number_at numbers) same_pc ∙ h.known number p at ∙ ap Some (sym is)
        by_number (inr other) = h.known n r (sym (set_other places number n q other) ∙ f)

    found : IsNumbered numbers places → (pc n : ℕ) (r : Place StateWithRoom) → number_at numbers pc ≡ Some n → slice_get new n ≡ Some r → r.pc ≡ pc
    found h pc n r e f = by_number (cases_eq n number)
      where
        by_number : (n ≡ number) ⊎ (n ≡ number → ⊥) → r.pc ≡ pc
        by_number (inl is) =
            let to_r : q ≡ r = same_Some q r (sym here ∙ ap (slice_get new) (sym is) ∙ f) in
            ap (λ (x : Place StateWithRoom). x.pc) (sym to_r) ∙ same_pc ∙ h.found pc number p (e ∙ ap Some is) at
        by_number (inr other) = h.found pc n r e (sym (set_other places number n q other) ∙ f)

    shaped : AreShaped m places → AreShaped m new
    shaped h n r s f e = by_number (cases_eq n number)
      where
        by_number : (n ≡ number) ⊎ (n ≡ number → ⊥) → HasShape m s.types
        by_number h1 = grind (arith, same_Some, here, shape_above, set_other)

    pub arrived : Grown l m numbers places new
    arrived = grind (arith, rises, set_length, known, found, shaped, each_step)

    pub leads_in : (final : Places) → Risen l m numbers new final → (pc : ℕ) → number_at numbers pc ≡ Some number → Leads (package_rules l) (held_at numbers final) value.types pc
    leads_in final g pc e = leads_on l laws m numbers new final g value.types pc (leads_here pc e)
