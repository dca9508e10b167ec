-- Lists of accesses, and what changes of objects by them.
use Rattle.std.proofs.Common.{◌≡◌, ℕ, zero, suc, true, List, [], ◌∷◌, ◌++◌, Option, Some, refl, sym, ◌∙◌, arith}
use Rattle.std.proofs.Common.{slice_get}
use Rattle.std.proofs.lemmas.Bool.{and_from, and_parts}
use Rattle.std.proofs.lemmas.Option.{none-some, same_Some}
use Rattle.std.specs.List.{AllByRecursion}
use Rattle.jc_firewall.specs.Verdict.{is_allowed}
use Rattle.jc_names.specs.declared.owner.Owner.{Owner}
use Rattle.jc_store.specs.Heap.{Heap, Object, object_at}
use Rattle.jc_machine.specs.Guarded.{AddsFor, AreGuarded, ChangesAccessed, IsAccessed, are_allowed}
use Rattle.jc_machine.specs.Guarded.{is_last_denied}
use Rattle.jc_machine.specs.Machine.{Touch}
use Rattle.jc_machine.specs.Natives.{IsStill, KeepsObjects}
use Rattle.jc_words.specs.Values.{TaggedValue}

-- ---- objects

-- by these accesses, in a context, objects become others: those that were there stay, and change only where they were
-- accessed; and new ones are of an owner
pub record KeepsHeap (owner : Owner) (touches : List Touch) (before after : Heap TaggedValue) : Type 0 where
  pub changes : ChangesAccessed owner.context touches before after
  pub kept : KeepsObjects before after
  pub adds : AddsFor owner before after

-- ---- lists of accesses

pub all_joined : {A : Type 0} (P : A → Type 0) (xs ys : List A) → AllByRecursion P xs → AllByRecursion P ys
    → AllByRecursion P (xs ++ ys)
all_joined P [] ys h k = k
all_joined P (x ∷ xs) ys h k = (h.0, all_joined P xs ys h.1 k)

pub each_mapped : {A : Type 0} (P Q : A → Type 0) (xs : List A) → ((x : A) → P x → Q x) → AllByRecursion P xs
    → AllByRecursion Q xs
each_mapped P Q [] f h = tt
each_mapped P Q (x ∷ xs) f h = (f x h.0, each_mapped P Q xs f h.1)

all_allowed : (xs ys : List Touch) → are_allowed xs ≡ true → are_allowed ys ≡ true → are_allowed (xs ++ ys) ≡ true
all_allowed [] ys h k = k
all_allowed (x ∷ xs) ys h k =
    let parts = and_parts (is_allowed x.verdict) (are_allowed xs) h in
    and_from (is_allowed x.verdict) (are_allowed (xs ++ ys)) parts.0 (all_allowed xs ys parts.1 k)

one_before : (x : Touch) (ys : List Touch) → is_allowed x.verdict ≡ true → is_last_denied ys ≡ true
    → is_last_denied (x ∷ ys) ≡ true
one_before x ys h1 h2 = grind (arith, and_from)

last_denied : (xs ys : List Touch) → are_allowed xs ≡ true → is_last_denied ys ≡ true
    → is_last_denied (xs ++ ys) ≡ true
last_denied [] ys h k = k
last_denied (x ∷ xs) ys h k =
    let parts = and_parts (is_allowed x.verdict) (are_allowed xs) h in
    one_before x (xs ++ ys) parts.0 (last_denied xs ys parts.1 k)

pub guarded_behind : (xs ys : List Touch) (R : Type 0) → are_allowed xs ≡ true → AreGuarded ys R
    → AreGuarded (xs ++ ys) R
guarded_behind xs ys R h1 h2 = grind (arith, all_allowed, last_denied)

pub mapped : (xs : List Touch) (R S : Type 0) → (R → S) → AreGuarded xs R → AreGuarded xs S
mapped xs R S h1 h2 = grind arith

-- ---- what is accessed

pub get_first : {A : Type 0} (xs ys : List A) (k : ℕ) (x : A) → slice_get xs k ≡ Some x → slice_get
    (xs ++ ys) k ≡ Some x
get_first [] ys k x e = absurd (none-some x e)
get_first (y ∷ xs) ys zero x e = e
get_first (y ∷ xs) ys (suc k) x e = get_first xs ys k x e

accessed_first : (active : ℕ) (xs ys : List Touch) (n : ℕ) (o : Object TaggedValue) → IsAccessed active xs n o
    → IsAccessed active (xs ++ ys) n o
accessed_first active xs ys n o a = grind (arith, get_first)

accessed_later : (active : ℕ) (xs ys : List Touch) (n : ℕ) (o : Object TaggedValue) → IsAccessed active ys n o
    → IsAccessed active (xs ++ ys) n o
accessed_later active [] ys n o a = a
accessed_later active (x ∷ xs) ys n o a =
    let b = accessed_later active xs ys n o a in record {
      place = suc b.place;
      touch = b.touch;
      listed = b.listed;
      is = b.is;
      changes = b.changes;
      allowed = b.allowed;
      who = b.who;
      own = b.own;
    }

-- ---- what changes

pub changes_first : (owner : Owner) (xs ys : List Touch) (a b : Heap TaggedValue) → KeepsHeap owner xs a b
    → KeepsHeap owner (xs ++ ys) a b
changes_first owner xs ys a b h = grind (arith, accessed_first)

pub changes_later : (owner : Owner) (xs ys : List Touch) (a b : Heap TaggedValue) → KeepsHeap owner ys a b
    → KeepsHeap owner (xs ++ ys) a b
changes_later owner xs ys a b h = grind (arith, accessed_later)

one_object : (found : Option (Object TaggedValue)) (o p : Object TaggedValue) → found ≡ Some o → found ≡ Some p
    → p ≡ o
one_object found o p e f = same_Some p o (sym f ∙ e)

-- an object is as it was
pub is_still : (heap : Heap TaggedValue) (n : ℕ) (o : Object TaggedValue) → object_at heap n ≡ Some o
    → IsStill heap n o
is_still heap n o e = record { object = o; found = e; kind = refl; owner = refl; size = refl }

pub nothing_changes : (owner : Owner) (xs : List Touch) (heap : Heap TaggedValue) → KeepsHeap owner xs heap heap
nothing_changes owner xs heap = grind (arith, one_object, is_still, none-some)
