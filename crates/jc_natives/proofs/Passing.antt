-- What the tests of a member show: the components that it uses are there.
use Rattle.std.proofs.Common.{◌≡◌, ℕ, ◌==◌, ◌&&◌, ◌||◌, Bool, true, List, Option, None, Some, refl, sym, ap, ◌∙◌, arith}
use Rattle.std.proofs.lemmas.Bool.{eqb-true, leb-true}
use Rattle.std.proofs.lemmas.Option.{none-some}
use Rattle.jc_machine.specs.Machine.{Touch}
use Rattle.jc_machine.specs.Runtime.{null_pointer_exception}
use Rattle.jc_natives.specs.Cells.{is_within}
use Rattle.jc_natives.specs.PrivateCells.{argument, size_of}
use Rattle.jc_natives.specs.PrivateRows.{on_array, on_arrays}
use Rattle.jc_natives.specs.PrivateSeen.{NativeInput}
use Rattle.jc_natives.specs.PrivateTests.{Tested, followed, goes_on, is_in_range, length_of, on_object}
use Rattle.jc_natives.specs.PrivateTests.{ranged, tested, used}
use Rattle.jc_natives.specs.declared.row.Length.{Length}
use Rattle.jc_natives.specs.declared.row.Range.{Range}
use Rattle.jc_natives.specs.declared.row.Test.TheVariants.{Object as AnObject}
use Rattle.jc_natives.specs.declared.row.Use.{Use}
use Rattle.jc_store.specs.Blocks.{HasCells}
use Rattle.jc_store.specs.Heap.{Heap, Object, object_at}
use Rattle.jc_store.specs.Store.{IsThere, Store}

both : (a b : Bool) → (a && b) ≡ true → (a ≡ true) × (b ≡ true)
both a b h1 = grind arith

-- tests that pass one behind the other pass each
first_passes : (touches : List Touch) (o : Option ℕ) (later : Tested) → (goes_on touches o later).thrown ≡ None
    → (o ≡ None) × (later.thrown ≡ None)
first_passes touches o later h1 = grind (arith, none-some)

both_pass : (first later : Tested) → (followed first later).thrown ≡ None
    → (first.thrown ≡ None) × (later.thrown ≡ None)
both_pass first later e = first_passes first.touches first.thrown later e

module _ (s : NativeInput) (store : Store) (same : s.objects ≡ store.objects) where
  -- an object that may be used is there
  there : (way : Use) (number : ℕ) → (used s way number).thrown ≡ None → IsThere store number
  there way number passed = by_object (object_at s.objects number) refl passed
    where
      by_object : (o : Option (Object ℕ)) → object_at s.objects number ≡ o → (on_object s way number o).thrown ≡ None
          → IsThere store number
      by_object None is e = absurd (none-some null_pointer_exception (sym e))
      by_object (Some object) is e =
          record { object = object; is = ap (λ (h : Heap ℕ). object_at h number) (sym same) ∙ is }

  in_range : (arguments : List ℕ) (r : Range) → (ranged s arguments (Some r)).thrown ≡ None
      → is_in_range s arguments r ≡ true
  in_range arguments r e = grind (arith, none-some)

  -- a range that lies within its array
  has_cells : (number from count : ℕ) → IsThere store number
      → (number == 0 || is_within (size_of s.objects number) from count) ≡ true → HasCells store number from count
  has_cells number from count t e = grind (arith, eqb-true, none-some, both, leb-true)

  -- the range in the array of a member of one array
  pub one_part : (arguments : List ℕ) (way : Use) (size : Length)
      → (tested s arguments (on_array (AnObject 0 way) size)).thrown ≡ None
      → HasCells store (argument arguments 0) (argument arguments 1) (length_of s arguments size)
  one_part arguments way size e = grind (arith, both_pass, has_cells, there, in_range)

  -- those in the arrays of a member of two arrays
  pub two_parts : (arguments : List ℕ) (source target : Use)
      → (tested s arguments (on_arrays (AnObject 0 source) (AnObject 2 target))).thrown ≡ None
      → HasCells store (argument arguments 0) (argument arguments 1) (argument arguments 4)
      × HasCells store (argument arguments 2) (argument arguments 3) (argument arguments 4)
  two_parts arguments source target e = grind (arith, both_pass, has_cells, there, in_range)

-- the same by other names of the numbers
pub named : (store : Store) {number from count : ℕ} (its_number its_from its_count : ℕ) → its_number ≡ number
    → its_from ≡ from → its_count ≡ count → HasCells store number from count
    → HasCells store its_number its_from its_count
named store its_number its_from its_count a b c h = grind arith
