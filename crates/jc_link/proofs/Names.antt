-- What the entries of a pool name, each found once and kept in a list.
use Rattle.std.proofs.Common.{◌≡◌, ℕ, zero, suc, ◌+◌, ◌<◌, Bool, true, false, List, [], ◌∷◌, ◌++◌, length, take, map, slice_get, Option, Some, None, refl, sym, subst, ap, ◌∙◌, arith, is_some, not, get_or, add-one}
use Rattle.std.proofs.lemmas.List.{map-append, take_more}
use Rattle.std.proofs.lemmas.List.Folds.{list_all-map, list_all_at}
use Rattle.std.specs.List.{list_all}
use Rattle.std.specs.Option.{option_and_then, option_map_or, option_or}
use Rattle.jc_base.specs.declared.fault.LoadFault.{LoadFault}
use Rattle.jc_cap_desc.specs.Shape.{Shape}
use Rattle.jc_cap.specs.declared.entry.PoolEntry.{PoolEntry}
use Rattle.jc_link.specs.Named.{named_by}
use Rattle.jc_link.specs.PrivateFaults.{IsTold}
use Rattle.jc_link.specs.PrivateNames.{AreNamed, NamesLead}
use Rattle.jc_link.specs.Sound.{LeadSomewhere}
use Rattle.jc_link.specs.Target.{pool_targets, target_of}
use Rattle.jc_link.specs.declared.named.Named.{Named}

map_map : {A B C : Type 0} (g : B → C) (f : A → B) (xs : List A) → map g (map f xs) ≡ map (λ x. g (f x)) xs
map_map g f [] = refl
map_map g f (x ∷ xs) = ap (λ ys. g (f x) ∷ ys) (map_map g f xs)

-- ---- what is found of each element of a list

module _ {A B : Type 0} (f : A → Option B) where
  -- of an element what is kept at its place
  pub name_at : (xs : List A) (ys : List B) (i : ℕ) (x : A) (y : B) → map Some ys ≡ map f xs → slice_get xs i ≡ Some x
      → slice_get ys i ≡ Some y → f x ≡ Some y
  name_at [] ys i x y e h k = absurd cc
  name_at (a ∷ xs) [] i x y e h k = absurd cc
  name_at (a ∷ xs) (b ∷ ys) zero x y e h k = cc
  name_at (a ∷ xs) (b ∷ ys) (suc i) x y e h k = name_at xs ys i x y (cc) h k

  step : (xs : List A) (i : ℕ) (y : B) → option_and_then f (slice_get xs i) ≡ Some y
      → map f (take (suc i) xs) ≡ map f (take i xs) ++ Some y ∷ []
  step [] i y e = absurd cc
  step (x ∷ xs) zero y e = ap (λ o. o ∷ []) e
  step (x ∷ xs) (suc i) y e = ap (λ os. f x ∷ os) (step xs i y e)

  -- one more is kept
  pub one_more : (xs : List A) (ys : List B) (i : ℕ) (y : B) → map Some ys ≡ map f (take i xs)
      → option_and_then f (slice_get xs i) ≡ Some y → map Some (ys ++ y ∷ []) ≡ map f (take (i + 1) xs)
  one_more xs ys i y e h = grind (arith, map-append, step, add-one)

  -- whether an element is there of which nothing is found
  pub nothing_at : (xs : List A) (i : ℕ) → i < length xs → option_and_then f (slice_get xs i) ≡ None
      → option_map_or (λ x. not (is_some (f x))) (slice_get xs i) false ≡ true
  nothing_at [] i h e = absurd (omega arith)
  nothing_at (x ∷ xs) zero h e = ap (λ o. not (is_some o)) e
  nothing_at (x ∷ xs) (suc i) h e = nothing_at xs i (omega arith) e

  pub something_at : (xs : List A) (i : ℕ) (y : B) → option_and_then f (slice_get xs i) ≡ Some y
      → option_map_or (λ x. not (is_some (f x))) (slice_get xs i) false ≡ false
  something_at xs i y e = grind (arith, not)

  -- what is made of what is kept, and what is asked of it
  map_are : {C : Type 0} (g : B → Option C) (xs : List A) (ys : List B) → map Some ys ≡ map f xs
      → map g ys ≡ map (λ x. option_and_then g (f x)) xs
  map_are g xs ys e = grind (arith, map_map (option_and_then g) Some ys, map_map (option_and_then g) f xs)

  all_are : (p : Option B → Bool) (xs : List A) (ys : List B) → map Some ys ≡ map f xs
      → list_all (λ y. p (Some y)) ys ≡ list_all (λ x. p (f x)) xs
  all_are p xs ys e = sym (list_all-map p Some ys) ∙ ap (list_all p) e ∙ list_all-map p f xs

-- ---- names of entries

-- the name that is kept of an entry is the entry's
pub entry_name : (world : List Shape) (home : ℕ) (pool : List PoolEntry) (names : List Named) (i : ℕ) (entry : PoolEntry)
    (named : Named) → AreNamed world home pool names → slice_get pool i ≡ Some entry → slice_get names i ≡ Some named
    → named_by world home entry ≡ Some named
entry_name world home pool names i entry named are there kept = grind (arith, name_at)

-- where they lead
pub targets_are : (world : List Shape) (home : ℕ) (pool : List PoolEntry) (names : List Named)
    → AreNamed world home pool names → map (target_of world) names ≡ pool_targets world home pool
targets_are world home pool names are = map_are (named_by world home) (target_of world) pool names are

pub names_lead : (world : List Shape) (home : ℕ) (pool : List PoolEntry) (names : List Named)
    → AreNamed world home pool names → LeadSomewhere world home pool → NamesLead world names
names_lead world home pool names are lead =
    all_are (named_by world home) (λ o. is_some (option_and_then (target_of world) o)) pool names are ∙ lead

-- one of names that lead somewhere does
pub name_leads : (world : List Shape) (names : List Named) (i : ℕ) (named : Named) → NamesLead world names
    → i < length names → named ≡ get_or names i named → is_some (target_of world named) ≡ true
name_leads world names i named lead h is = grind (arith, get_or, list_all_at)

-- the targets of the names before one, and its own
pub target_more : {A B : Type 0} (f : A → Option B) (found : List B) (xs : List A) (i : ℕ) (x : A) (y : B)
    → map Some found ≡ map f (take i xs) → i < length xs → x ≡ get_or xs i x → f x ≡ Some y
    → map Some (found ++ y ∷ []) ≡ map f (take (i + 1) xs)
target_more f found xs i x y so_far h is e =
    grind (arith, map-append Some found (y ∷ []), map-append f (take i xs) (get_or xs i x ∷ []), take_more xs i x h)

-- ---- refusals

pub told_first : (first second : Option LoadFault) (fault : LoadFault) → IsTold first fault
    → IsTold (option_or first second) fault
told_first first second fault h1 = grind arith

pub told_behind : (first second : Option LoadFault) (fault : LoadFault) → first ≡ None → IsTold second fault
    → IsTold (option_or first second) fault
told_behind first second fault none told = subst (λ o. IsTold (option_or o second) fault) (sym none) told
