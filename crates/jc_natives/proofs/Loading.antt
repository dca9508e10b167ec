-- What the runtime keeps fits in a world with a package more, and with more objects.
use Rattle.std.proofs.Common.{◌≡◌, ℕ, zero, suc, ◌&&◌, true, false, List, [], ◌∷◌, ◌++◌, length, take, slice_get}
use Rattle.std.proofs.Common.{Option, Some, refl, ap, ◌∙◌, arith, take_all}
use Rattle.std.proofs.lemmas.List.{take-append-le}
use Rattle.std.specs.List.{list_all}
use Rattle.std.specs.Option.{option_map_or}
use Rattle.jc_cap_desc.specs.Shape.{Shape}
use Rattle.jc_classes.specs.Growth.{KeepsAllLookups, LiesWithin}
use Rattle.jc_link.specs.Linked.{IsBoundTo, Linked, World, with_linked}
use Rattle.jc_machine.specs.Natives.{KeepsObjects}
use Rattle.jc_natives.proofs.Bare.{both}
use Rattle.jc_natives.proofs.Keeping.{both_are, kept_fits_still}
use Rattle.jc_natives.specs.Kept.{Kept, has_numbers}
use Rattle.jc_natives.specs.Meaning.{fits_command, fits_installing, fits_instance, fits_kept, has_applet}
use Rattle.jc_natives.specs.declared.kept.Instance.{Instance}
use Rattle.jc_store.specs.Heap.{Heap, Object}
use Rattle.jc_words.specs.Values.{TaggedValue}

-- ---- a world with more packages

module _ (before after : List Shape) (lookups : KeepsAllLookups before after) (heap : Heap TaggedValue) where
  applet_on : (i : Instance) (o : Option (Object TaggedValue)) → option_map_or (has_applet before i) o false ≡ true
      → option_map_or (has_applet after i) o false ≡ true
  applet_on i o h1 = grind (arith, both, both_are)

  instance_on : (i : Instance) → fits_instance before heap i ≡ true → fits_instance after heap i ≡ true
  instance_on i e = grind (arith, both, both_are, applet_on)

  instances_on : (is : List Instance) → list_all (fits_instance before heap) is ≡ true
      → list_all (fits_instance after heap) is ≡ true
  instances_on [] e = refl
  instances_on (i ∷ is) e =
      let a = both (fits_instance before heap i) (list_all (fits_instance before heap) is) e in
      both_are (fits_instance after heap i) (list_all (fits_instance after heap) is) (instance_on i a.0)
      (instances_on is a.1)

  kept_on : (k : Kept)
      → (list_all (fits_instance before heap) k.instances && option_map_or fits_installing k.installing true
      && (fits_command k && has_numbers k)) ≡ true
      → (list_all (fits_instance after heap) k.instances && option_map_or fits_installing k.installing true
      && (fits_command k && has_numbers k)) ≡ true
  kept_on k e = grind (arith, both, both_are, instances_on)

-- ---- a heap with more objects

still_at : (heap more : Heap TaggedValue) (n : ℕ) (o : Object TaggedValue) → slice_get heap n ≡ Some o
    → slice_get (heap ++ more) n ≡ Some o
still_at [] more n o e = absurd cc
still_at (p ∷ heap) more zero o e = e
still_at (p ∷ heap) more (suc n) o e = still_at heap more n o e

keeps_more : (heap more : Heap TaggedValue) → KeepsObjects heap (heap ++ more)
keeps_more heap more zero o e = absurd cc
keeps_more heap more (suc n) o e =
    record { object = o; found = still_at heap more n o e; kind = refl; owner = refl; size = refl }

-- ---- a load

pub load_fits : ((before after : List Shape) → LiesWithin before after → KeepsAllLookups before after)
    → (w : World) (l : Linked) → IsBoundTo w l → (heap more : Heap TaggedValue) (k : Kept)
    → fits_kept w heap k ≡ true → fits_kept (with_linked w l) (heap ++ more) k ≡ true
load_fits lookups w l bound heap more k e =
    let lies : LiesWithin w.shapes l.world =
    ap (take (length w.shapes)) bound.1
    ∙ take-append-le (length w.shapes) w.shapes (bound.0 ∷ []) (omega arith)
    ∙ take_all (length w.shapes) w.shapes (omega arith) in
    kept_on w.shapes l.world (lookups w.shapes l.world lies) (heap ++ more) k
    (kept_fits_still w heap (heap ++ more) k (keeps_more heap more) e)
