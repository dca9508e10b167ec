-- Classes and their superclasses.
use Rattle.std.proofs.Common.{◌≡◌, true, List, Option, Some, is_some, refl, sym, ap, subst, ◌∙◌, arith}
use Rattle.std.proofs.lemmas.Option.{cond_some, option_and_then_some}
use Rattle.jc_cap_desc.specs.Shape.{ClassShape, Shape}
use Rattle.jc_classes.specs.Walk.{most_classes}
use Rattle.jc_classes.specs.World.{class_at, class_named, class_spelled, if_there, superclass_of}
use Rattle.jc_names.specs.Names.{home_of}
use Rattle.jc_names.specs.declared.name.ClassName.{ClassName}
use Rattle.jc_program.specs.Classes.{HasNumber, HaveWordOffsets, class_names}
use Rattle.jc_program.proofs.Counting.{numbered}
use Rattle.jc_program.proofs.Wording.{word_offset}

pub most_is : most_classes ≡ 17_085
unfolding most_classes
most_is = refl

-- a superclass is there
above_there : (world : List Shape) (c d : ClassName) → superclass_of world c ≡ Some d
    → (k : ClassShape) × (class_at world d ≡ Some k)
above_there world c d e =
    option_and_then_some (class_named world (home_of c)) _ d e (λ ref at named.
    option_and_then_some (if_there world) (class_spelled world (home_of c) ref) d named (λ b spelled there.
    let r = cond_some (is_some (class_at world b)) b d there in
    by_class (class_at world d) refl (sym (ap (λ x. is_some (class_at world x)) r.1) ∙ r.0)))
  where
    by_class : (o : Option ClassShape) → class_at world d ≡ o → is_some o ≡ true
        → (k : ClassShape) × (class_at world d ≡ Some k)
    by_class o h1 h2 = grind arith

-- and has a number
pub above_number : (world : List Shape) (names : List ClassName) → names ≡ class_names world → HaveWordOffsets world
    → (c d : ClassName) → superclass_of world c ≡ Some d → HasNumber names d
above_number world names are words c d e =
    let k = above_there world c d e in
    subst (λ (ns : List ClassName). HasNumber ns d) (sym are)
    ((numbered world).numbers d k.0 (word_offset world d k.0 words k.1) k.1)
