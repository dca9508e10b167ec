-- What a new object holds at first is typed.
use Rattle.std.proofs.Common.{◌≡◌, ℕ, ◌<◌, List, [], ◌∷◌, length, map, replicate, Option}
use Rattle.std.proofs.Common.{true, not, nat_lt, pos, refl, arith}
use Rattle.std.proofs.lemmas.Bool.{ltb-true}
use Rattle.std.proofs.lemmas.List.{length-replicate}
use Rattle.std.specs.Option.{option_map_or}
use Rattle.std.specs.Prelude.{int_lt}
use Rattle.jc_base.specs.declared.declared_type.DeclaredType.{DeclaredType}
use Rattle.jc_cap_desc.specs.Shape.{Shape}
use Rattle.jc_names.specs.declared.name.ClassName.{ClassName}
use Rattle.jc_store.specs.Heap.{Heap}
use Rattle.jc_store.specs.declared.kind.ObjectType.TheVariants.{BooleanArray, ByteArray, Instance, ReferenceArray, ShortArray}
use Rattle.jc_machine.specs.Reading.{Pointwise}
use Rattle.jc_machine.specs.Lookup.{fields_of, is_byte, is_instance, is_word, leads_to}
use Rattle.jc_machine.specs.Objects.{cells_of, initial}
use Rattle.jc_machine.specs.Typed.{CellsTyped, is_cell}
use Rattle.jc_words.specs.Shorts.{short}
use Rattle.jc_words.specs.Values.{Null, TaggedValue, Word}
use Rattle.jc_safety.proofs.Lists.{each_replicated}

module _ (world : List Shape) (heap : Heap TaggedValue) where
  initial_fits : (field : Option (DeclaredType ClassName))
      → is_cell world heap field (option_map_or initial field (Word 0)) ≡ true
  initial_fits field = grind arith

  all_fit : (fields : List (Option (DeclaredType ClassName)))
      → Pointwise (λ v field. is_cell world heap field v ≡ true)
      (map (λ field. option_map_or initial field (Word 0)) fields) fields
  all_fit [] = tt
  all_fit (field ∷ fields) = (initial_fits field, all_fit fields)

  -- the fields of an instance
  pub instance_made : (c : ClassName) → CellsTyped world heap (cells_of world c) (Instance c)
  instance_made c = all_fit (fields_of world c)

  -- the components of an array
  pub booleans_made : (n : ℕ) → CellsTyped world heap (replicate n (Word 0)) BooleanArray
  booleans_made n = each_replicated (λ v. is_byte v ≡ true) n (Word 0) refl

  pub bytes_made : (n : ℕ) → CellsTyped world heap (replicate n (Word 0)) ByteArray
  bytes_made n = each_replicated (λ v. is_byte v ≡ true) n (Word 0) refl

  pub shorts_made : (n : ℕ) → CellsTyped world heap (replicate n (Word 0)) ShortArray
  shorts_made n = each_replicated (λ v. is_word v ≡ true) n (Word 0) refl

  pub references_made : (c : ClassName) (n : ℕ) → CellsTyped world heap (replicate n Null) (ReferenceArray c)
  references_made c n = each_replicated (λ v. leads_to heap (is_instance world c) v ≡ true) n Null refl

-- a count that isn't negative is that of an array
pub count_fits : (n : ℕ) (v : TaggedValue) → nat_lt n 65536 ≡ true → not (int_lt (short n) (pos 0)) ≡ true
    → length (replicate n v) < 65536
count_fits n v small e = grind (arith, length-replicate, ltb-true)
