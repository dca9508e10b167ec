-- Private. A class without faults in its world, except that Object has no superclass.
use Rattle.std.specs.Prelude.{◌≡◌, ◌⊎◌, ℕ, false, List, Some, None, slice_get}
use Rattle.jc_cap_desc.specs.Shape.{ClassShape, Shape}
use Rattle.jc_api.specs.declared.class.ApiClass.TheVariants.{Object}
use Rattle.jc_classes.specs.Members.{name_of}
use Rattle.jc_names.specs.Names.{home_of}
use Rattle.jc_classes.specs.World.{class_at, superclass_of}
use Rattle.jc_names.specs.declared.name.ClassName.{ClassName}
use Rattle.jc_names.specs.declared.name.ClassName.TheVariants.{Api}
use Rattle.jc_link.specs.Classes.{lacks_superclass, leads_round, lists_no_interface, has_unknown_type}
use Rattle.jc_link.specs.Classes.{has_field_past_size, has_bad_entry, has_other_nargs}
use Rattle.jc_link.specs.Inherited.{loses_method, overrides_with_another_type, is_unfinished}

-- Object, which has no superclass
pub record IsRoot (world : List Shape) (c : ClassName) : Type 0 where
  pub object : c ≡ Api Object
  pub nothing : superclass_of world c ≡ None

pub record IsFit (world : List Shape) (c : ClassName) (k : ClassShape) : Type 0 where
  pub superclass : IsRoot world c ⊎ (lacks_superclass world c k ≡ false)
  pub round : leads_round world c ≡ false
  pub interfaces : lists_no_interface world (home_of c) k ≡ false
  pub types : has_unknown_type world (home_of c) k ≡ false
  pub sizes : has_field_past_size k ≡ false
  pub entries : has_bad_entry world (home_of c) c k ≡ false
  pub words : has_other_nargs k ≡ false
  pub keeps : loses_method world (home_of c) c ≡ false
  pub types_kept : overrides_with_another_type world (home_of c) c ≡ false
  pub finished : is_unfinished world c k ≡ false

-- each class with a name in a world is
abbrev pub AreFit : List Shape → Type 0
AreFit world = (c : ClassName) (k : ClassShape) → class_at world c ≡ Some k → IsFit world c k

-- and each class of a package, which has a name: two may have one name
pub record IsFitThere (world : List Shape) (home : ℕ) (k : ClassShape) : Type 0 where
  pub class : ClassName
  pub named : name_of home k ≡ Some class
  pub fit : IsFit world class k

abbrev pub AreAllFit : List Shape → Type 0
AreAllFit world =
    (home n : ℕ) (shape : Shape) (k : ClassShape) → slice_get world home ≡ Some shape
    → slice_get shape.classes n ≡ Some k → IsFitThere world home k
