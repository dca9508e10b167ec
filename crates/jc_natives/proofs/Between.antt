-- What the runtime keeps fits the objects behind its own calls too.
use Rattle.std.proofs.Common.{◌≡◌, ℕ, zero, suc, ◌<◌, ◌≤◌, ◌&&◌, not, Bool, true, List, [], ◌∷◌, length, arith}
use Rattle.std.proofs.Common.{nat_le, nat_lt, refl, take}
use Rattle.std.proofs.lemmas.Bool.{le-leb, lt-ltb}
use Rattle.std.specs.List.{list_all}
use Rattle.std.specs.Option.{option_map_or}
use Rattle.jc_link.specs.Linked.{World}
use Rattle.jc_names.specs.declared.owner.Owner.{Owner}
use Rattle.jc_natives.proofs.Bare.{both}
use Rattle.jc_natives.proofs.Keeping.{both_are}
use Rattle.jc_natives.proofs.Numbered.{begun_numbers, next_is_number, over_numbers}
use Rattle.jc_natives.specs.Kept.{Kept, after_install, are_bytes, has_numbers, is_aid}
use Rattle.jc_natives.specs.Kept.{is_instance_number, kept_instances, with_command, with_install}
use Rattle.jc_natives.specs.Meaning.{fits_command, fits_installing, fits_instance, fits_kept}
use Rattle.jc_store.specs.Heap.{Heap}
use Rattle.jc_words.specs.Values.{TaggedValue}

pub all_taken : {A : Type 0} (p : A → Bool) (xs : List A) (n : ℕ) → list_all p xs ≡ true → list_all p (take n xs) ≡ true
all_taken p [] zero e = refl
all_taken p [] (suc n) e = refl
all_taken p (x ∷ xs) zero e = refl
all_taken p (x ∷ xs) (suc n) e =
    let b = both (p x) (list_all p xs) e in both_are (p x) (list_all p (take n xs)) b.0 (all_taken p xs n b.1)

module _ (w : World) (heap : Heap TaggedValue) (k : Kept) (fits : fits_kept w heap k ≡ true) where
  instances_are : list_all (fits_instance w.shapes heap) k.instances ≡ true
  instances_are = grind (arith, both)

  installing_is : option_map_or fits_installing k.installing true ≡ true
  installing_is = grind (arith, both)

  rest_is : (fits_command k && has_numbers k) ≡ true
  rest_is = grind (arith, both)

  command_is : fits_command k ≡ true
  command_is = (both (fits_command k) (has_numbers k) rest_is).0

  numbers_are : has_numbers k ≡ true
  numbers_are = (both (fits_command k) (has_numbers k) rest_is).1

  pub begun_fits : (owner : Owner) (aid : List ℕ) → is_aid aid ≡ true → owner.instance ≡ suc k.numbers
      → k.numbers < 32 → fits_kept w heap (with_install k owner aid) ≡ true
  begun_fits owner aid e next less =
      both_are (list_all (fits_instance w.shapes heap) k.instances && (is_aid aid && is_instance_number owner.instance))
      (fits_command k && has_numbers (with_install k owner aid))
      (both_are (list_all (fits_instance w.shapes heap) k.instances) (is_aid aid && is_instance_number owner.instance)
      instances_are
      (both_are (is_aid aid) (is_instance_number owner.instance) e (next_is_number k owner next less)))
      (both_are (fits_command k) (has_numbers (with_install k owner aid)) command_is
      (begun_numbers k owner aid numbers_are next less))

  some_instances : (b : Bool) → list_all (fits_instance w.shapes heap) (kept_instances k.instances b) ≡ true
  some_instances b = grind (arith, all_taken, instances_are)

  pub over_fits : (succeeds : Bool) → fits_kept w heap (after_install k succeeds) ≡ true
  over_fits succeeds = grind (arith, not, both_are, some_instances, command_is, over_numbers, numbers_are)

  pub opened_fits : (incoming : List ℕ) (expected : ℕ) (selecting : Bool) → are_bytes incoming ≡ true
      → length incoming ≤ 255 → expected < 256
      → fits_kept w heap (with_command k incoming expected selecting) ≡ true
  opened_fits incoming expected selecting bytes short low =
      both_are (list_all (fits_instance w.shapes heap) k.instances && option_map_or fits_installing k.installing true)
      (are_bytes incoming && nat_le (length incoming) 255 && nat_lt expected 256 && has_numbers k)
      (both_are (list_all (fits_instance w.shapes heap) k.instances) (option_map_or fits_installing k.installing true)
      instances_are installing_is)
      (both_are (are_bytes incoming && nat_le (length incoming) 255 && nat_lt expected 256) (has_numbers k)
      (both_are (are_bytes incoming && nat_le (length incoming) 255) (nat_lt expected 256)
      (both_are (are_bytes incoming) (nat_le (length incoming) 255) bytes (le-leb (length incoming) 255 short))
      (lt-ltb expected 256 low)) numbers_are)
