-- What records list.
use Rattle.std.proofs.Common.{◌≡◌, Bool, false, ◌||◌, List, [], ◌∷◌, map, refl, ap, arith}
use Rattle.std.specs.List.{list_any}
use Rattle.jc_base.specs.declared.class_ref.ClassRef.{ClassRef}
use Rattle.jc_cap.specs.declared.record.RecordBody.{RecordBody}
use Rattle.jc_classes.specs.Record.{superinterfaces, interface_rows}
use Rattle.jc_classes.specs.World.{listed_refs}

pub list_any_map : {A B : Type 0} (p : B → Bool) (f : A → B) (xs : List A) → list_any p (map f xs) ≡ list_any (λ x. p (f x)) xs
list_any_map p f [] = refl
list_any_map p f (x ∷ xs) = ap (λ b. p (f x) || b) (list_any_map p f xs)

pub or_none : (b : Bool) → b ≡ (b || false)
or_none b = grind arith

pub listed_either_way : (p : ClassRef → Bool) (body : RecordBody) → list_any p (listed_refs body) ≡ (list_any (λ i. p i.interface) (superinterfaces body) || list_any (λ i. p i.interface) (interface_rows body))
listed_either_way p body = grind (arith, list_any_map, or_none)
