-- Whether an object is an ISOException, by numbers of classes and by names.
use Rattle.std.proofs.Common.{◌≡◌, ℕ, zero, suc, List, [], ◌∷◌, true, false, not, Option, Some, None, arith}
use Rattle.std.proofs.Common.{slice_get, sym, ap, ◌∙◌, subst}
use Rattle.std.specs.Option.{option_map_or}
use Rattle.jc_api.specs.declared.class.ApiClass.{ApiClass}
use Rattle.jc_api.specs.declared.class.ApiClass.TheVariants.{IsoException}
use Rattle.jc_cap.specs.ClassComponent.{is_class}
use Rattle.jc_cap_desc.specs.Shape.{ClassShape, Shape}
use Rattle.jc_classes.specs.Limits.{IsSmall}
use Rattle.jc_classes.specs.Subtype.{is_class_below, is_interface_at, is_subtype}
use Rattle.jc_link.specs.ApiClasses.{StandsThere}
use Rattle.jc_link.specs.Built.{IsBuilt}
use Rattle.jc_link.specs.Linked.{World}
use Rattle.jc_program.specs.Classes.{class_number}
use Rattle.jc_program.specs.Program.{AnswersFor, IsProgramOf}
use Rattle.jc_program.specs.Supertypes.{is_listed}
use Rattle.jc_program.specs.declared.program.Program.{Program}
use Rattle.jc_machine.specs.Lookup.{class_of, is_of_class}
use Rattle.jc_machine.specs.Reading.{HeapReads, ReadsObject}
use Rattle.jc_names.specs.declared.name.ClassName.{ClassName}
use Rattle.jc_names.specs.declared.name.ClassName.TheVariants.{Api}
use Rattle.jc_store.specs.Heap.{Heap, Object, object_at}
use Rattle.jc_store.specs.Store.{class_number_at}
use Rattle.jc_store.specs.declared.kind.ObjectKind.{ObjectKind}
use Rattle.jc_words.specs.Values.{TaggedValue}
use Rattle.jc_card.specs.Card.{CardState}
use Rattle.jc_card.specs.Reads.{CardWords, Holds}

-- what stands across
pub record Across (os : Heap ℕ) (number : ℕ) (p : Object TaggedValue) : Type 0 where
  pub object : Object ℕ
  pub there : object_at os number ≡ Some object
  pub reads : ReadsObject object p

across_at : (os : Heap ℕ) (ps : Heap TaggedValue) → HeapReads os ps → (n : ℕ) (p : Object TaggedValue)
    → slice_get ps n ≡ Some p → (o : Object ℕ) × (slice_get os n ≡ Some o) × ReadsObject o p
across_at [] [] r n p e = absurd cc
across_at [] (q ∷ ps) r n p e = absurd r
across_at (o ∷ os) [] r n p e = absurd r
across_at (o ∷ os) (q ∷ ps) r zero p e = grind arith
across_at (o ∷ os) (q ∷ ps) r (suc n) p e = across_at os ps r.1 n p e

pub across : (os : Heap ℕ) (ps : Heap TaggedValue) → HeapReads os ps → (number : ℕ) (p : Object TaggedValue)
    → object_at ps number ≡ Some p → Across os number p
across os ps h1 number p h2 = grind (arith, across_at)

no_interface : (o : Option ClassShape) (k : ClassShape) → o ≡ Some k → is_class k.body ≡ true
    → option_map_or (λ (x : ClassShape). not (is_class x.body)) o false ≡ false
no_interface o k e f =
    ap (λ (x : Option ClassShape). option_map_or (λ (y : ClassShape). not (is_class y.body)) x false) e ∙ ap not f

the_number : (a b : ℕ) → Some a ≡ Some b → a ≡ b
the_number a b e = cc

no_number : {P : Type 0} (n : ℕ) → None ≡ Some n → P
no_number n e = absurd cc

-- the laws of the tables
pub record TableLaws : Type 0 where
  pub answers : (w : World) (p : Program) → IsProgramOf w p → AnswersFor w p
  pub named : (names : List ClassName) (c : ClassName) (n : ℕ) → class_number names c ≡ Some n
      → slice_get names n ≡ Some c
  pub below : (world : List Shape) → IsSmall world → IsBuilt world → (c d : ClassName)
      → is_interface_at world d ≡ false → is_class_below world c d ≡ is_subtype world c d
  pub stands : (world : List Shape) → IsBuilt world → (c : ApiClass) → StandsThere world c

module _ (laws : TableLaws) (k : CardWords) (c : CardState) (h : Holds k c) (object : ℕ) (thrown : Object TaggedValue)
    (found : object_at c.heap object ≡ Some thrown) (class : ℕ)
    (class_is : class_number_at k.machine.store.classes object ≡ Some class) where
  program_of : IsProgramOf c.world k.program
  program_of = subst (λ (w : World). IsProgramOf w k.program) h.world h.program

  built : IsBuilt c.world.shapes
  built = h.typed.accepted.world.built

  iso : StandsThere c.world.shapes IsoException
  iso = laws.stands c.world.shapes built IsoException

  x : Across k.machine.store.objects object thrown
  x = across k.machine.store.objects c.heap h.beside.heap object thrown found

  named_class : slice_get k.program.classes class ≡ Some (class_of thrown.kind.object_type)
  named_class =
      let n = h.beside.numbered object x.object x.there in
      ap (slice_get k.program.classes) (the_number class n.named.number (sym class_is ∙ n.kept))
      ∙ n.named.there ∙ ap (λ (kind : ObjectKind). Some (class_of kind.object_type)) (x.reads).kind

  pub listed_is : (number : ℕ) → class_number k.program.classes (Api IsoException) ≡ Some number
      → is_listed k.program.supertypes class number
      ≡ is_of_class c.world.shapes (Api IsoException) thrown.kind.object_type
  listed_is number e = grind (arith, program_of, named_class, built, no_interface, iso)

  pub has_number : {P : Type 0} → None ≡ class_number k.program.classes (Api IsoException) → P
  has_number none =
      let n = (laws.answers c.world k.program program_of).numbers (Api IsoException) iso.shape iso.there in
      no_number n.number (none ∙ n.found)
