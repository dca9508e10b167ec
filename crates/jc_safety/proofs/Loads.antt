-- What is held under the tag of its type is loaded, as an operand of a type.
use Rattle.std.proofs.Common.{◌≡◌, List, Bool, true, Some, refl, ap, arith}
use Rattle.std.proofs.lemmas.Bool.{lt-ltb}
use Rattle.std.proofs.lemmas.Int.{ints}
use Rattle.jc_cap_desc.specs.Shape.{Shape}
use Rattle.jc_code.specs.declared.object.Form.{Form}
use Rattle.jc_code.specs.declared.object.Form.TheVariants as Forms
use Rattle.jc_machine.specs.Arrays.{loaded_as, loads}
use Rattle.jc_machine.specs.Going.{StepContext, gives}
use Rattle.jc_machine.specs.Lookup.{leads_to}
use Rattle.jc_machine.specs.Machine.{Surroundings}
use Rattle.jc_machine.specs.Typed.{IsOperand, has_type}
use Rattle.jc_store.specs.Heap.{Heap}
use Rattle.jc_store.specs.declared.kind.ObjectType.{ObjectType}
use Rattle.jc_types.specs.declared.ty.Ty.{Ty}
use Rattle.jc_types.specs.declared.ty.Ty.TheVariants as types
use Rattle.jc_words.specs.Shorts.{signed_byte}
use Rattle.jc_words.specs.Values.{TaggedValue, Word}
use Rattle.jc_safety.proofs.Safe.{IsSafe, safe_some}
use Rattle.jc_safety.proofs.Writing.{IsNumber}

pub record IsLoaded (world : List Shape) (heap : Heap TaggedValue) (form : Form) (held : TaggedValue) (u : Ty)
    : Type 0 where
  pub value : TaggedValue
  pub is : loaded_as form held ≡ Some value
  pub operand : IsOperand world heap value u

module _ (world : List Shape) (heap : Heap TaggedValue) where
  pub byte_loaded : (v : TaggedValue) → IsNumber 256 v → IsLoaded world heap Forms.Byte v types.Word
  byte_loaded v k = record {
    value = Word (signed_byte k.number);
    is = ap (loaded_as Forms.Byte) k.is;
    operand = record { type = lt-ltb (signed_byte k.number) 65536 (omega (arith, ints)); written = refl };
  }

  pub short_loaded : (v : TaggedValue) → IsNumber 65536 v → IsLoaded world heap Forms.Short v types.Word
  short_loaded v k = record {
    value = Word k.number;
    is = ap (loaded_as Forms.Short) k.is;
    operand = record { type = lt-ltb k.number 65536 k.small; written = refl };
  }

  pub reference_loaded : (test : ObjectType → Bool) (u : Ty) (v : TaggedValue) → leads_to heap test v ≡ true
      → has_type world heap v u ≡ true → IsLoaded world heap Forms.Reference v u
  reference_loaded test u v h1 h2 = grind arith

-- it is pushed then
pub safe_loads : {C : Type 0} (s : Surroundings C) (h : StepContext C) (form : Form) (held : TaggedValue)
    (us : List TaggedValue) (world : List Shape) (heap : Heap TaggedValue) (u : Ty)
    → (l : IsLoaded world heap form held u) → IsSafe s (gives h l.value us) → IsSafe s (loads h form held us)
safe_loads s h form held us world heap u l safe = grind (arith, safe_some)
