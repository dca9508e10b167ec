-- A method that may begin with values takes as many as its header says.
use Rattle.std.proofs.Common.{◌≡◌, suc, ◌+◌, ◌==◌, List, [], ◌∷◌, length, Bool, true, false, cond, not, Option, Some}
use Rattle.std.proofs.Common.{refl, sym, ap, ◌∙◌, arith}
use Rattle.std.proofs.lemmas.Bool.{eq-eqb}
use Rattle.std.specs.Option.{option_map, option_map_or}
use Rattle.jc_base.specs.Signature.{Signature}
use Rattle.jc_base.specs.declared.declared_type.DeclaredType.{DeclaredType}
use Rattle.jc_cap_desc.specs.Shape.{Shape}
use Rattle.jc_cap.specs.declared.method_header.MethodHeader.{MethodHeader}
use Rattle.jc_classes.specs.Members.{DeclaredMethod, method_at}
use Rattle.jc_link.specs.Classes.{argument_count}
use Rattle.jc_link.specs.Found.{type_found, types_found}
use Rattle.jc_link.specs.MemberType.{declared_type_of}
use Rattle.jc_link.specs.Sound.{HaveMethods}
use Rattle.jc_machine.specs.Calls.{takes}
use Rattle.jc_machine.specs.Lookup.{are_of_instance, are_of_types, is_of_type, may_begin_with}
use Rattle.jc_names.specs.declared.name.ClassName.{ClassName}
use Rattle.jc_names.specs.declared.name.MethodName.{MethodName}
use Rattle.jc_store.specs.Heap.{Heap}
use Rattle.jc_words.specs.Values.{TaggedValue}
use Rattle.jc_safety.proofs.Callees.{and_then, mapped_from, not_so}
use Rattle.jc_safety.proofs.Lists.{and_true, both}

-- ---- types that are found are as many as those that are spelled

types_count : {C D : Type 0} (find : C → Option D) (ts : List (DeclaredType C)) (us : List (DeclaredType D))
    → types_found find ts ≡ Some us → length us ≡ length ts
types_count find [] us e = cc
types_count find (t ∷ ts) us e =
    let a = and_then (λ u. option_map (λ us. u ∷ us) (types_found find ts)) (type_found find t) us e in
    let b = mapped_from (λ us. a.0 ∷ us) (types_found find ts) us a.2 in
    ap (λ us. length us) (sym b.2) ∙ ap suc (types_count find ts b.0 b.1)

parameters_count : (world : List Shape) (d : DeclaredMethod) (x : Signature ClassName)
    → declared_type_of world d ≡ Some x → length x.parameters ≡ length d.method.signature.parameters
parameters_count world d x e = grind (arith, and_then, mapped_from, types_count)

-- ---- values are as many as their types

module _ (world : List Shape) (heap : Heap TaggedValue) where
  values_count : (ts : List (DeclaredType ClassName)) (vs : List TaggedValue) → are_of_types world heap ts vs ≡ true
      → length vs ≡ length ts
  values_count [] [] e = refl
  values_count [] (v ∷ vs) e = absurd cc
  values_count (t ∷ ts) [] e = absurd cc
  values_count (t ∷ ts) (v ∷ vs) e =
      ap suc (values_count ts vs (both (is_of_type world heap t v) (are_of_types world heap ts vs) e).1)

  instance_count : (c : ClassName) (ts : List (DeclaredType ClassName)) (vs : List TaggedValue)
      → are_of_instance world heap c ts vs ≡ true → length vs ≡ length ts + 1
  instance_count c ts vs h1 = grind (arith, values_count, both)

  begins_count : (d : DeclaredMethod) (vs : List TaggedValue) → may_begin_with world heap d vs ≡ true
      → length vs ≡ argument_count d.method
  begins_count d vs e = by_type (declared_type_of world d) refl e
    where
      by_static : (x : Signature ClassName) → length x.parameters ≡ length d.method.signature.parameters
          → (static : Bool)
          → cond static (are_of_types world heap x.parameters vs) (are_of_instance world heap d.class x.parameters vs)
          ≡ true
          → length vs ≡ cond static (length d.method.signature.parameters) (length d.method.signature.parameters + 1)
      by_static x h1 static h2 = grind (arith, values_count, instance_count)

      by_type : (o : Option (Signature ClassName)) → declared_type_of world d ≡ o
          → option_map_or (λ (x : Signature ClassName). cond d.method.is_static
          (are_of_types world heap x.parameters vs) (are_of_instance world heap d.class x.parameters vs)) o false ≡ true
          → length vs ≡ argument_count d.method
      by_type o h1 h2 = grind (arith, by_static, parameters_count)

  pub takes_them : HaveMethods world → (name : MethodName) (d : DeclaredMethod) (header : MethodHeader)
      → (vs : List TaggedValue) → method_at world name ≡ Some d → d.method.header ≡ Some header
      → header.is_abstract ≡ false → may_begin_with world heap d vs ≡ true → takes header vs ≡ true
  takes_them have name d header vs there headed concrete begins =
      and_true (not header.is_abstract) (length vs == header.nargs) (not_so header.is_abstract concrete)
      (eq-eqb (length vs) header.nargs (begins_count d vs begins ∙ sym (have.words name d header there headed)))

-- what takes values isn't abstract
pub isnt_abstract : (header : MethodHeader) (vs : List TaggedValue) → takes header vs ≡ true
    → not header.is_abstract ≡ true
isnt_abstract header vs e = (both (not header.is_abstract) (length vs == header.nargs) e).0
