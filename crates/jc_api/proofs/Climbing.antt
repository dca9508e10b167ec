-- A chain of superclasses, as it is climbed.
use Rattle.std.proofs.Common.{◌≡◌, ℕ, zero, suc, ◌+◌, ◌-◌, ◌<◌, ◌||◌, Bool, true, false, Option, Some, None, refl, ap, ◌∙◌, arith}
use Rattle.std.specs.List.{list_any}
use Rattle.jc_api.specs.declared.class.ApiClass.{ApiClass}
use Rattle.jc_api.specs.Class.{last_class, superclass_of}
use Rattle.jc_api.specs.Token.{chain, is_same_class, is_at_or_above}

-- what is left of the chain decides
unfoldable pub is_found : ApiClass → ℕ → Option ApiClass → Bool
is_found above left next = list_any (is_same_class above) (chain left next)

pub found_first : (above class : ApiClass) → is_at_or_above above class ≡ is_found above last_class (Some class)
unfolding is_at_or_above is_found
found_first above class = refl

pub found_none : (above : ApiClass) (left : ℕ) → is_found above left None ≡ false
unfolding is_found chain
found_none above zero = refl
found_none above (suc n) = refl

pub found_end : (above : ApiClass) (next : Option ApiClass) → is_found above 0 next ≡ false
unfolding is_found chain
found_end above next = refl

found_step : (above here : ApiClass) (left : ℕ) → is_found above (suc left) (Some here) ≡ (is_same_class above here || is_found above left (superclass_of here))
unfolding is_found chain
found_step above here left = refl

pub found_here : (above here : ApiClass) (counter : ℕ) → counter < last_class → is_same_class above here ≡ true → is_found above (last_class - counter) (Some here) ≡ true
found_here above here counter below same =
    let left : last_class - counter ≡ suc (last_class - 1 - counter) = omega arith in
    ap (λ n. is_found above n (Some here)) left ∙ found_step above here (last_class - 1 - counter) ∙ ap (λ b. b || is_found above (last_class - 1 - counter) (superclass_of here)) same

pub found_on : (above here : ApiClass) (counter : ℕ) → counter < last_class → is_same_class above here ≡ false → is_found above (last_class - counter) (Some here) ≡ is_found above (last_class - (counter + 1)) (superclass_of here)
found_on above here counter below other =
    let left : last_class - counter ≡ suc (last_class - 1 - counter) = omega arith in
    let less : last_class - 1 - counter ≡ last_class - (counter + 1) = omega arith in
    ap (λ n. is_found above n (Some here)) left ∙ found_step above here (last_class - 1 - counter) ∙ ap (λ b. b || is_found above (last_class - 1 - counter) (superclass_of here)) other ∙ ap (λ n. is_found above n (superclass_of here)) less
