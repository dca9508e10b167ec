-- The nearest class above a class, of those that are known.
use Rattle.std.proofs.Common.{◌≡◌, ◌≢◌, ℕ, ◌<◌, Bool, true, List, Some, None, subst, arith}
use Rattle.std.proofs.lemmas.Option.{same_Some}
use Rattle.jc_cap_desc.specs.Shape.{Shape}
use Rattle.jc_classes.specs.Methods.{FindsAbove}
use Rattle.jc_classes.specs.World.{superclass_of}
use Rattle.jc_names.specs.Names.{home_of}
use Rattle.jc_names.specs.declared.name.ClassName.{ClassName}
use Rattle.jc_program.specs.Classes.{class_number}
use Rattle.jc_program.specs.PrivateNearest.{FindsAs, FindsAsNumber, IsNearest}
use Rattle.jc_program.proofs.Same.{named}

-- one class on the way up
pub one_up : (world : List Shape) (c at above : ClassName) (asker : ℕ) → superclass_of world at ≡ Some above
    → FindsAs world c at asker → FindsAbove world at asker → FindsAs world c above asker
one_up world c at above asker up so_far passes token least = grind arith

at_top : (world : List Shape) (names : List ClassName) (c at : ClassName) (asker : ℕ) → superclass_of world at ≡ None
    → FindsAs world c at asker → FindsAbove world at asker → FindsAsNumber world names c None asker
at_top world names c at asker up so_far passes token least = grind arith

module _ (world : List Shape) (names : List ClassName) (count : ℕ) (c at : ClassName) (before shares : Bool)
    (still : shares ≡ true → before ≡ true)
    (others : (asker : ℕ) → home_of c ≢ asker → FindsAs world c at asker)
    (all : before ≡ true → (asker : ℕ) → FindsAs world c at asker)
    (passes : (asker : ℕ) → home_of c ≢ asker → FindsAbove world at asker)
    (passes_all : shares ≡ true → (asker : ℕ) → FindsAbove world at asker) where
  pub nearest_none : superclass_of world at ≡ None
      → IsNearest world names count c (record { number = None; shares = shares })
  nearest_none up = grind (arith, at_top)

  pub nearest_known : (above : ClassName) (number : ℕ) → superclass_of world at ≡ Some above
      → class_number names above ≡ Some number → number < count
      → IsNearest world names count c (record { number = Some number; shares = shares })
  nearest_known above number up is less = record {
    within = λ n e. subst (λ m. m < count) (same_Some number n e) less;
    others = λ asker other. (
      above,
      named names above number is,
      one_up world c at above asker up (others asker other) (passes asker other),
    );
    all = λ shared asker. (
      above,
      named names above number is,
      one_up world c at above asker up (all (still shared) asker) (passes_all shared asker),
    );
  }
