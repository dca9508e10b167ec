-- Rows of supertypes that stand for one package more.
use Rattle.std.proofs.Common.{◌≡◌, ◌⊎◌, inl, inr, ℕ, ◌<◌, ◌≤◌, ◌∷◌, [], Bool, true, false, List, length}
use Rattle.std.proofs.Common.{Option, Some, None, is_some, slice_get, refl, sym, ap, subst, ◌∙◌, arith, length-append}
use Rattle.std.proofs.Math.Seq.{take-append_seam}
use Rattle.std.proofs.lemmas.Bool.{cases_lt}
use Rattle.jc_cap_desc.specs.Shape.{ClassShape, Shape}
use Rattle.jc_classes.specs.Growth.{IsWithin, KeepsAllLookups, LiesWithin, StandWithin, grown}
use Rattle.jc_classes.specs.Subtype.{IsSubtype, is_subtype}
use Rattle.jc_classes.specs.World.{class_at}
use Rattle.jc_names.specs.Names.{home_of}
use Rattle.jc_names.specs.declared.name.ClassName.{ClassName}
use Rattle.jc_program.specs.Classes.{class_names}
use Rattle.jc_link.specs.Linked.{World}
use Rattle.jc_program.specs.Program.{IsGrownFrom}
use Rattle.jc_program.specs.declared.program.Program.{Program}
use Rattle.jc_program.specs.PrivateSupertypes.{AreRight, AreRowsBefore, AreWithin}
use Rattle.jc_program.specs.Supertypes.{AreSupertypes, is_listed}
use Rattle.jc_program.proofs.Counting.{get_front, is_there, keeps_numbers, new_at_home}
use Rattle.jc_program.proofs.Rowing.{empty_row}
use Rattle.jc_program.proofs.Same.{true_false}

-- ---- no rows

pub none_right : (world : List Shape) (names : List ClassName) → AreRight world names []
none_right world names n m c d less here there = absurd (omega (arith, less))

pub none_within : (count : ℕ) → AreWithin count []
none_within count k m e = true_false (sym e ∙ empty_row m)

-- ---- the rows of a world with a package more

as_many : (before : List Shape) (more : Shape) → length (class_names before) ≤ length (class_names (grown before more))
as_many before more = grind (arith, length, keeps_numbers, length-append)

module _ (before : List Shape) (more : Shape) (rows : List (List ℕ))
    (count : length rows ≡ length (class_names before))
    (right : AreSupertypes before (class_names before) rows) (within : AreWithin (length rows) rows)
    (keeps : KeepsAllLookups before (grown before more)) (stand : StandWithin before)
    (found : (c d : ClassName) → is_subtype before c d ≡ true → IsSubtype before c d) where
  names_before : (n : ℕ) → n < length (class_names before)
      → slice_get (class_names (grown before more)) n ≡ slice_get (class_names before) n
  names_before n less = grind (arith, slice_get, keeps_numbers, get_front, length)

  named_within : (n : ℕ) (c : ClassName) → slice_get (class_names before) n ≡ Some c → IsWithin before c
  named_within n c at = by_class (class_at before c) refl (is_there before n c at)
    where
      by_class : (o : Option ClassShape) → class_at before c ≡ o → is_some o ≡ true → IsWithin before c
      by_class o h1 h2 = grind (arith, None, true_false, Some)

  not_listed : (n m : ℕ) → length rows ≤ m → (b : Bool) → is_listed rows n m ≡ b → b ≡ false
  not_listed n m h1 b h2 = grind arith

  not_below : (m : ℕ) (c d : ClassName) → IsWithin before c → home_of d ≡ length before → (b : Bool)
      → is_subtype before c d ≡ b → b ≡ false
  not_below m c d h1 h2 b h3 = grind arith

  right_still : AreRight (grown before more) (class_names (grown before more)) rows
  right_still n m c d less here there = by_order (cases_lt m (length (class_names before)))
    where
      at_n : slice_get (class_names before) n ≡ Some c
      at_n = sym (names_before n (omega (arith, less, count))) ∙ here

      by_order : (m < length (class_names before)) ⊎ (length (class_names before) ≤ m)
          → is_listed rows n m ≡ is_subtype (grown before more) c d
      by_order (inl old) =
          right n m c d at_n (sym (names_before m old) ∙ there)
          ∙ sym (keeps.found_subtypes c d (named_within n c at_n))
      by_order (inr new) =
          not_listed n m (omega (arith, new, count)) (is_listed rows n m) refl
          ∙ sym (not_below m c d (named_within n c at_n) (new_at_home before more m d new there)
          (is_subtype before c d) refl)
          ∙ sym (keeps.found_subtypes c d (named_within n c at_n))

pub lies_behind : (before : List Shape) (more : Shape) → LiesWithin before (grown before more)
lies_behind before more = take-append_seam before (more ∷ [])

pub still_right : (world : List Shape) (names : List ClassName) (rows : List (List ℕ))
    → ((before after : List Shape) → LiesWithin before after → KeepsAllLookups before after)
    → ((world : List Shape) → StandWithin world)
    → ((world : List Shape) (c d : ClassName) → is_subtype world c d ≡ true → IsSubtype world c d)
    → AreRowsBefore world names rows → AreRight world names rows
still_right world names rows keeps stand found r =
    subst (λ ns. AreRight world ns rows) (sym r.names_are)
    (subst (λ w. AreRight w (class_names w) rows) (sym r.world_is)
    (right_still r.before r.more rows r.count r.right r.within
    (keeps r.before (grown r.before r.more) (lies_behind r.before r.more)) (stand r.before) (found r.before)))

pub still_few : (world : List Shape) (names : List ClassName) (rows : List (List ℕ)) → AreRowsBefore world names rows
    → length rows ≤ length names
still_few world names rows r =
    let l = as_many r.before r.more in
    let n = r.count in
    subst (λ (ns : List ClassName). length rows ≤ length ns) (sym (r.names_are ∙ ap class_names r.world_is))
    (omega (arith, l, n))

pub still_within : (world : List Shape) (names : List ClassName) (rows : List (List ℕ)) → AreRowsBefore world names rows
    → AreWithin (length names) rows
still_within world names rows r k m e =
    let l = r.within k m e in let f = still_few world names rows r in omega (arith, l, f)

pub rows_before : (p : Program) (w : World) (names : List ClassName) → IsGrownFrom p w → names ≡ class_names w.shapes
    → AreRowsBefore w.shapes names p.supertypes
rows_before p w names r names_are = grind (arith, length)
