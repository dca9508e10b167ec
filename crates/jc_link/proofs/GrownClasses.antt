-- A package behind the others changes nothing of what is wrong with those before it, nor with their classes by themselves.
use Rattle.std.proofs.Common.{◌≡◌, ℕ, zero, suc, ◌==◌, ◌<◌, false, not, ◌&&◌, ◌||◌, List, length, Option, refl, ap, ◌∙◌, arith}
use Rattle.std.specs.Option.{option_and_then, option_map_or}
use Rattle.jc_base.specs.Signature.{Signature}
use Rattle.jc_base.specs.declared.class_ref.ClassRef.{ClassRef}
use Rattle.jc_cap_desc.specs.Shape.{Body, ClassShape, Shape}
use Rattle.jc_cap.specs.declared.entry.PoolEntry.{PoolEntry}
use Rattle.jc_classes.specs.Growth.{grown, IsWithin, KeepsLookups}
use Rattle.jc_classes.specs.Members.{DeclaredMethod, method_at}
use Rattle.jc_classes.specs.Methods.{declared_above, method_name}
use Rattle.jc_names.specs.Names.{is_same_name}
use Rattle.jc_classes.specs.Subtype.{is_at_or_above}
use Rattle.jc_classes.specs.Walk.{most_classes}
use Rattle.jc_classes.specs.World.{superclass_of}
use Rattle.jc_names.specs.declared.name.ClassName.{ClassName}
use Rattle.jc_link.proofs.GrownParts.{then_same, or_same, any_same, find_same, position_same, either_same}
use Rattle.jc_link.proofs.GrownWithin.{named_within, superclass_within, method_name_within}
use Rattle.jc_link.proofs.GrownNames.{is_class_stays, is_interface_stays, member_type_stays, field_type_stays, method_stays, import_stays, names_stay, named_there, named_type_stays}
use Rattle.jc_link.specs.Classes.{lacks_superclass, leads_round, lists_no_interface, has_unknown_type, is_inherited, is_bad_entry, has_bad_entry}
use Rattle.jc_link.specs.Growth.{HasApi}
use Rattle.jc_link.specs.Imports.{first_unmet}
use Rattle.jc_link.specs.Named.{named_by}
use Rattle.jc_link.specs.Pool.{first_unresolved, is_mistyped, first_mistyped}
use Rattle.jc_link.specs.Target.{named_type_of}
use Rattle.jc_link.specs.WellFormed.{is_bad_alone}

module _ (world : List Shape) (more : Shape) (keeps : KeepsLookups world more) where
  -- ---- imports and entries

  pub unmet_stays : (home : ℕ) (shape : Shape) → home < length world → first_unmet (grown world more) home shape ≡ first_unmet world home shape
  unmet_stays home shape h = grind (arith, find_same, not, import_stays)

  pub unresolved_stays : (home : ℕ) (pool : List PoolEntry) → HasApi world → home < length world → first_unresolved (grown world more) home pool ≡ first_unresolved world home pool
  unresolved_stays home pool api h = grind (arith, position_same, not, names_stay)

  entry_type_stays : (home : ℕ) (entry : PoolEntry) → HasApi world → home < length world
      → option_and_then (named_type_of (grown world more)) (named_by (grown world more) home entry) ≡ option_and_then (named_type_of world) (named_by world home entry)
  entry_type_stays home entry api h = grind (arith, names_stay, then_same, named_type_stays, named_there)

  mistyped_entry_stays : (home : ℕ) (entry : PoolEntry) (stated : Option (Signature ClassRef)) → HasApi world → home < length world → is_mistyped (grown world more) home entry stated ≡ is_mistyped world home entry stated
  mistyped_entry_stays home entry stated h1 h2 = grind (arith, not, member_type_stays, entry_type_stays)

  pub mistyped_stays : (home : ℕ) (body : Body) → HasApi world → home < length world → first_mistyped (grown world more) home body ≡ first_mistyped world home body
  mistyped_stays home body api h = grind (arith, find_same, or_same, mistyped_entry_stays)

  -- ---- classes by themselves

  pub superclass_stays : (c : ClassName) (k : ClassShape) → IsWithin world c → lacks_superclass (grown world more) c k ≡ lacks_superclass world c k
  superclass_stays c k h = grind (arith, not, or_same, is_class_stays, superclass_within)

  at_or_above_stays : (n : ℕ) (d c : ClassName) → IsWithin world c → is_at_or_above (grown world more) n d c ≡ is_at_or_above world n d c
  at_or_above_stays zero d c h = refl
  at_or_above_stays (suc n) d c h =
      ap (λ b. is_same_name c d || b)
      (ap (λ (o : Option ClassName). option_map_or (is_at_or_above (grown world more) n d) o false) (keeps.superclasses c h)
      ∙ or_same (is_at_or_above (grown world more) n d) (is_at_or_above world n d) false (superclass_of world c) (λ s e. at_or_above_stays n d s (superclass_within world c s h e)))

  pub round_stays : (c : ClassName) → IsWithin world c → leads_round (grown world more) c ≡ leads_round world c
  round_stays c h = grind (arith, or_same, at_or_above_stays, superclass_within)

  pub interfaces_stay : (home : ℕ) (k : ClassShape) → home < length world → lists_no_interface (grown world more) home k ≡ lists_no_interface world home k
  interfaces_stay home k h = grind (arith, any_same, not, or_same, is_interface_stays, named_within)

  pub unknown_type_stays : (home : ℕ) (k : ClassShape) → home < length world → has_unknown_type (grown world more) home k ≡ has_unknown_type world home k
  unknown_type_stays home k h = grind (arith, either_same, any_same, not, field_type_stays, member_type_stays)

  inherited_stays : (c : ClassName) (d : DeclaredMethod) → IsWithin world c → is_inherited (grown world more) c d ≡ is_inherited world c d
  inherited_stays c d h = ap (λ b. not d.method.is_static && b) (at_or_above_stays most_classes d.class c h)

  bad_entry_stays : (home : ℕ) (c : ClassName) (entry : ℕ) → HasApi world → home < length world → IsWithin world c → is_bad_entry (grown world more) home c entry ≡ is_bad_entry world home c entry
  bad_entry_stays home c entry api h w =
      ap (λ b. not (entry == declared_above) && not b)
      (ap (λ (o : Option DeclaredMethod). option_map_or (is_inherited (grown world more) c) o false) (method_stays world more keeps (method_name home entry) (method_name_within world home entry api h))
      ∙ or_same (is_inherited (grown world more) c) (is_inherited world c) false (method_at world (method_name home entry)) (λ d e. inherited_stays c d w))

  pub bad_entries_stay : (home : ℕ) (c : ClassName) (k : ClassShape) → HasApi world → home < length world → IsWithin world c → has_bad_entry (grown world more) home c k ≡ has_bad_entry world home c k
  bad_entries_stay home c k api h w = grind (arith, either_same, any_same, bad_entry_stays)

  pub bad_alone_stays : (home : ℕ) (c : ClassName) (k : ClassShape) → HasApi world → home < length world → IsWithin world c → is_bad_alone (grown world more) home c k ≡ is_bad_alone world home c k
  bad_alone_stays home c k api h w =
      grind (arith, superclass_stays, round_stays, interfaces_stay, unknown_type_stays, bad_entries_stay)
