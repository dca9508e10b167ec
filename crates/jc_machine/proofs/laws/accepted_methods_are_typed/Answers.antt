use Rattle.std.proofs.Common.{◌≡◌, ℕ, zero, suc, ◌==◌, Bool, true, false, cond, List, [], ◌∷◌, Some, sym, ap, ◌∙◌}
use Rattle.std.proofs.Common.{slice_get}
use Rattle.std.proofs.lemmas.Option.{none-some}
use Rattle.std.specs.List.{find}
use Rattle.std.specs.Option.{option_and_then}
use Rattle.jc_cap_desc.specs.Shape.{MethodBody}
use Rattle.jc_link.specs.Linked.{LinkedBody}
use Rattle.jc_machine.proofs.laws.accepted_methods_are_typed.Goals as goal

-- what is found stands somewhere in the list
place_of : {A : Type 0} (test : A → Bool) (xs : List A) (x : A) → find test xs ≡ Some x
    → (n : ℕ) × (slice_get xs n ≡ Some x)
place_of test [] x e = absurd (none-some x e)
place_of {A = A} test (y ∷ ys) x e = by_test (test y) (place_of test ys x) e
  where
    by_test : (b : Bool) → (find test ys ≡ Some x → (n : ℕ) × (slice_get ys n ≡ Some x))
        → cond b (Some y) (find test ys) ≡ Some x → (n : ℕ) × (slice_get (y ∷ ys) n ≡ Some x)
    by_test true later g = (zero, g)
    by_test false later g = let k = later g in (suc k.0, k.1)

pub returns : goal.returns
returns c = λ w accepted place body code loaded there.
    let stands = λ (x : MethodBody). x.offset == place.offset in
    let found = sym (ap (option_and_then (λ (b : LinkedBody). find stands b.kept.methods)) loaded) ∙ there in
    let k = place_of stands body.kept.methods code found in
    (accepted.packages place.number body loaded).typed.each k.0 code k.1
