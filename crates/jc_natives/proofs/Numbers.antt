-- Objects that members make are arrays, numbered as Object is, and a store has the same limits behind them.
use Rattle.std.proofs.Common.{◌≡◌, ℕ, zero, suc, ◌+◌, true, List, [], ◌∷◌, ◌++◌, length, slice_get}
use Rattle.std.proofs.Common.{Option, Some, None, refl, sym, arith}
use Rattle.std.proofs.lemmas.Option.{none-some, same_Some}
use Rattle.jc_machine.specs.Lookup.{is_array}
use Rattle.jc_machine.specs.WordNatives.{KeepsLimits, NumbersArrays}
use Rattle.jc_names.specs.declared.owner.Owner.{Owner}
use Rattle.jc_natives.proofs.Getting.{other_object}
use Rattle.jc_natives.proofs.Putting.{put_none, put_some, same_or_not}
use Rattle.jc_natives.specs.Cells.{Write, put, put_all}
use Rattle.jc_natives.specs.Kept.{Kept}
use Rattle.jc_natives.specs.PrivateSeen.{NativeInput}
use Rattle.jc_natives.specs.PrivateWords.{Done, did_on_words, done_of, laid, unless_refused, word_done}
use Rattle.jc_natives.specs.Work.{Work, array_type}
use Rattle.jc_natives.specs.declared.ended.Ended.{Ended}
use Rattle.jc_natives.specs.declared.native.Elements.{Elements}
use Rattle.jc_natives.specs.declared.native.Native.{Native}
use Rattle.jc_store.specs.Heap.{Heap, object_at}
use Rattle.jc_store.specs.Store.{Store}

-- ---- what a work makes is an array

makes_array : (elements : Elements) → is_array (array_type elements) ≡ true
makes_array elements = grind arith

-- ---- objects that aren't there aren't made by writing

put_still_none : (heap : Heap ℕ) (number index word other : ℕ) → object_at heap other ≡ None
    → object_at (put heap number index word) other ≡ None
put_still_none heap number index word other e = grind (arith, same_or_not, put_none, put_some, other_object, none-some)

put_all_still_none : (heap : Heap ℕ) (number from other : ℕ) (words : List ℕ) → object_at heap other ≡ None
    → object_at (put_all heap number from words) other ≡ None
put_all_still_none heap number from other [] e = e
put_all_still_none heap number from other (w ∷ words) e =
    put_all_still_none (put heap number from w) number (from + 1) other words
    (put_still_none heap number from w other e)

laid_still_none : (heap : Heap ℕ) (writes : List Write) (other : ℕ) → object_at heap other ≡ None
    → object_at (laid heap writes) other ≡ None
laid_still_none heap [] other e = e
laid_still_none heap (x ∷ writes) other e =
    laid_still_none (put_all heap x.object x.from x.words) writes other
    (put_all_still_none heap x.object x.from other x.words e)

-- ---- what is behind others

front : {A : Type 0} (xs ys : List A) (n : ℕ) (x : A) → slice_get xs n ≡ Some x → slice_get (xs ++ ys) n ≡ Some x
front [] ys n x e = absurd (none-some x e)
front (y ∷ xs) ys zero x e = e
front (y ∷ xs) ys (suc n) x e = front xs ys n x e

-- the one behind the others
record IsBehind {A B : Type 0} (x : A) (y : B) (bs : List B) (n : ℕ) (z : A) : Type 0 where
  same : z ≡ x
  beside : slice_get (bs ++ y ∷ []) n ≡ Some y

behind : {A B : Type 0} (xs : List A) (bs : List B) (x z : A) (y : B) (n : ℕ) → length xs ≡ length bs
    → slice_get xs n ≡ None → slice_get (xs ++ x ∷ []) n ≡ Some z → IsBehind x y bs n z
behind [] [] x z y zero e f g = record { same = sym (same_Some x z g); beside = refl }
behind [] [] x z y (suc n) e f g = absurd (none-some z g)
behind [] (b ∷ bs) x z y n e f g = absurd (omega (arith, e))
behind (a ∷ xs) [] x z y n e f g = absurd (omega (arith, e))
behind (a ∷ xs) (b ∷ bs) x z y zero e f g = absurd (none-some a (sym f))
behind (a ∷ xs) (b ∷ bs) x z y (suc n) e f g = grind (arith, behind xs bs x z y n (omega (arith, e)) f g)

-- ---- the store behind a work

did_numbers : (owner : Owner) (s : Store) (k : Kept) (work : Work) → length s.objects ≡ length s.classes
    → NumbersArrays s (did_on_words owner s k work).store
did_numbers owner s k work h1 = grind (arith, none-some, laid_still_none, front, behind, makes_array)

did_limits : (owner : Owner) (s : Store) (k : Kept) (work : Work) → KeepsLimits s (did_on_words owner s k work).store
did_limits owner s k work = grind arith

same_numbers : (s : Store) → NumbersArrays s s
same_numbers s = grind (arith, none-some)

unless_numbers : (owner : Owner) (s : Store) (k : Kept) (refusal : Option Ended) (work : Work)
    → length s.objects ≡ length s.classes
    → NumbersArrays s (unless_refused s k refusal (done_of owner s k work)).store
unless_numbers owner s k refusal work h1 = grind (arith, same_numbers, did_numbers)

unless_limits : (owner : Owner) (s : Store) (k : Kept) (refusal : Option Ended) (work : Work)
    → KeepsLimits s (unless_refused s k refusal (done_of owner s k work)).store
unless_limits owner s k refusal work = grind (arith, did_limits)

pub numbers_arrays : (owner : Owner) (s : Store) (k : Kept) (seen : NativeInput) (arguments : List ℕ)
    (native : Option Native) (d : Done) → length s.objects ≡ length s.classes
    → d ≡ word_done owner s k seen arguments native → NumbersArrays s d.store
numbers_arrays owner s k seen arguments native d same is = grind (arith, same_numbers, unless_numbers)

pub keeps_limits : (owner : Owner) (s : Store) (k : Kept) (seen : NativeInput) (arguments : List ℕ)
    (native : Option Native) (d : Done) → d ≡ word_done owner s k seen arguments native → KeepsLimits s d.store
keeps_limits owner s k seen arguments native d is = grind (arith, unless_limits)
