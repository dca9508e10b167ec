-- The runtime's own objects, made one behind the other.
use Rattle.std.proofs.Common.{◌≡◌, ℕ, zero, suc, List, [], ◌∷◌, ◌++◌, length, map, replicate, Some, ◌⊎◌, inl, inr}
use Rattle.std.proofs.Common.{arith, refl, sym, ap, ◌∙◌, subst}
use Rattle.std.specs.Prelude.{◌+◌, ◌<◌, ◌≤◌, Bool, true, false, Option, IfNone, IfSome, get_or, is_some, slice_get}
use Rattle.std.specs.List.{list_all}
use Rattle.std.proofs.lemmas.Bool.{and_parts}
use Rattle.std.proofs.lemmas.List.{length-append, length-replicate}
use Rattle.jc_interp.specs.Agree.{AreNumbered, IsNumbered}
use Rattle.jc_program.specs.Classes.{HasNumber, class_number}
use Rattle.jc_machine.specs.Lookup.{class_of}
use Rattle.jc_machine.specs.Reading.{HeapReads, Pointwise, Reads}
use Rattle.jc_machine.specs.Runtime.{new_heap}
use Rattle.jc_names.specs.declared.name.ClassName.{ClassName}
use Rattle.jc_names.specs.declared.name.ClassName.TheVariants.{Api, Loaded}
use Rattle.jc_store.specs.Heap.{Heap, Object, cells_in}
use Rattle.jc_store.specs.Store.{IsFull, Store, with_made}
use Rattle.jc_words.specs.Values.{Word}
use Rattle.jc_machine.specs.Limits.{own_cells, own_objects}
use Rattle.jc_card.specs.PrivateNew.{HasOwn, HasOwnRoom, HasRoomFor, HaveApiNumbers}
use Rattle.jc_card.specs.PrivateNew.{made_of, own_object, own_objects_until, words_until}
use Rattle.jc_card.specs.declared.runtime_objects.OwnObject.{OwnObject}

-- ---- lists with one more behind

pub get_more : {A : Type 0} (xs : List A) (x y : A) (k : ℕ) → slice_get (xs ++ x ∷ []) k ≡ Some y
    → ((k ≡ length xs) × (x ≡ y)) ⊎ (slice_get xs k ≡ Some y)
get_more [] x y zero e = inl (refl, cc)
get_more [] x y (suc k) e = absurd cc
get_more (z ∷ xs) x y zero e = inr e
get_more (z ∷ xs) x y (suc k) e = grind (arith, get_more xs x y k e)

get_before : {A : Type 0} (xs ys : List A) (i : ℕ) (x : A) → slice_get xs i ≡ Some x → slice_get (xs ++ ys) i ≡ Some x
get_before [] ys i x e = absurd cc
get_before (z ∷ xs) ys zero x e = e
get_before (z ∷ xs) ys (suc i) x e = get_before xs ys i x e

get_last : {A : Type 0} (xs : List A) (x : A) → slice_get (xs ++ x ∷ []) (length xs) ≡ Some x
get_last [] x = refl
get_last (y ∷ xs) x = get_last xs x

map_more : {A B : Type 0} (f : A → B) (xs : List A) (x : A) → map f (xs ++ x ∷ []) ≡ map f xs ++ f x ∷ []
map_more f [] x = refl
map_more f (y ∷ xs) x = ap (λ l. f y ∷ l) (map_more f xs x)

-- ---- one more

objects_more : (n : ℕ) → words_until (suc n) ≡ words_until n ++ made_of 0 (own_object n) ∷ []
unfolding own_objects_until
objects_more n = map_more (made_of 0) (own_objects_until n) (own_object n)

count_until : (n : ℕ) → length (words_until n) ≡ n
unfolding own_objects_until
count_until zero = refl
count_until (suc n) =
    let one = ap length (objects_more n) in
    let more = length-append (words_until n) (made_of 0 (own_object n) ∷ []) in
    let rest = count_until n in
    omega (arith, one, more, rest)

-- the numbers of the others stay, and the new one has that of its class
numbered_more : (names : List ClassName) (store : Store) (o : Object ℕ) (class : ℕ)
    → length store.classes ≡ length store.objects → AreNumbered names store
    → (named : HasNumber names (class_of o.kind.object_type)) → named.number ≡ class
    → AreNumbered names (with_made store o class)
numbered_more names store o class same numbered named is zero y e = absurd cc
numbered_more names store o class same numbered named is (suc k) y e =
    by_case (get_more store.objects o y k e)
  where
    wanted : ClassName → Type 0
    wanted c = IsNumbered names (with_made store o class) (suc k) c

    last : k ≡ length store.objects → wanted (class_of o.kind.object_type)
    last at = record {
      named = named;
      kept = ap (slice_get (store.classes ++ class ∷ [])) (at ∙ sym same) ∙ get_last store.classes class
          ∙ ap Some (sym is);
    }

    before : slice_get store.objects k ≡ Some y → wanted (class_of y.kind.object_type)
    before there =
        let n = numbered (suc k) y there in record {
          named = n.named;
          kept = get_before store.classes (class ∷ []) k n.named.number n.kept;
        }

    by_case : ((k ≡ length store.objects) × (o ≡ y)) ⊎ (slice_get store.objects k ≡ Some y)
        → wanted (class_of y.kind.object_type)
    by_case (inl a) = subst (λ (z : Object ℕ). wanted (class_of z.kind.object_type)) a.1 (last a.0)
    by_case (inr there) = before there

one_more : (classes : List ℕ) (class n : ℕ) → length classes ≡ n → length (classes ++ class ∷ []) ≡ suc n
one_more classes class n e = let l = length-append classes (class ∷ []) in omega (arith, l, e)

pub made_more : (names : List ClassName) (store after : Store) (own : OwnObject) (n class : ℕ) → own ≡ own_object n
    → Some class ≡ class_number names (class_of own.object)
    → ((c : ClassName) (k : ℕ) → class_number names c ≡ Some k → slice_get names k ≡ Some c)
    → after ≡ with_made store (made_of 0 own) class → (before : Store) → HasOwn names before store n
    → HasOwn names before after (suc n)
made_more names store after own n class own_is found named is before h = rw is (record {
  objects = ap (λ l. l ++ made_of 0 own ∷ []) h.objects ∙ ap (λ o. words_until n ++ made_of 0 o ∷ []) own_is
      ∙ sym (objects_more n);
  classes = one_more store.classes class n h.classes;
  numbered = numbered_more names store (made_of 0 own) class same h.numbered
      (record { number = class; found = sym found; there = named (class_of own.object) class (sym found) }) refl;
  most_objects = h.most_objects;
  most_cells = h.most_cells;
})
  where
    same : length store.classes ≡ length store.objects
    same = h.classes ∙ sym (ap length h.objects ∙ count_until n)

-- where there is none there are none
pub none_yet : (names : List ClassName) (store : Store) → store.objects ≡ [] → store.classes ≡ []
    → HasOwn names store store 0
unfolding own_objects_until
none_yet names store objects classes = grind arith

-- ---- their classes have numbers

abbrev is_of_api : ClassName → Bool
is_of_api (Api c) = true
is_of_api (Loaded home offset) = false

each_or : (test : OwnObject → Bool) (own : List OwnObject) (rest : OwnObject) → list_all test own ≡ true
    → test rest ≡ true → (place : ℕ) → test (get_or own place rest) ≡ true
each_or test [] rest all last place = last
each_or test (x ∷ own) rest all last zero = (and_parts (test x) (list_all test own) all).0
each_or test (x ∷ own) rest all last (suc place) =
    each_or test own rest (and_parts (test x) (list_all test own) all).1 last place

api_number : (names : List ClassName) → HaveApiNumbers names → (c : ClassName) → is_of_api c ≡ true → HasNumber names c
api_number names h1 c h2 = grind arith

-- all are of classes of the API: arrays count as Object
pub own_number : (names : List ClassName) → HaveApiNumbers names → (place : ℕ)
    → HasNumber names (class_of (own_object place).object)
own_number names h place = grind (arith, api_number, each_or)

pub there_is : (names : List ClassName) (c : ClassName) (found : Option ℕ) → found ≡ class_number names c
    → HasNumber names c → is_some found ≡ true
there_is names c found is n = ap is_some (is ∙ n.found)

-- ---- there is room

cells_behind : (os : Heap ℕ) (o : Object ℕ) → cells_in (os ++ o ∷ []) ≡ cells_in os + 1 + length o.cells
cells_behind [] o = omega arith
cells_behind (x ∷ os) o = let rest = cells_behind os o in omega (arith, rest)

cells_more : (n : ℕ) → cells_in (words_until (suc n)) ≡ cells_in (words_until n) + 1 + (own_object n).size
cells_more n = grind (arith, objects_more, cells_behind, length-replicate)

-- more of them take no fewer cells
cells_grow : (more n all : ℕ) → more + n ≡ all → cells_in (words_until n) ≤ cells_in (words_until all)
cells_grow zero n all e =
    let at : n ≡ all = omega (arith, e) in
    let same = ap (λ k. cells_in (words_until k)) at in
    omega (arith, same)
cells_grow (suc more) n all e =
    let next : more + suc n ≡ all = omega (arith, e) in
    let rest = cells_grow more (suc n) all next in
    let one = cells_more n in
    omega (arith, rest, one)

all_cells : cells_in (words_until 45) ≡ own_cells
unfolding own_objects_until
all_cells = refl

-- behind those that were made there is room for the next
pub room_for : (names : List ClassName) (before store : Store) (n : ℕ) → HasOwnRoom before
    → HasOwn names before store n → n < own_objects → HasRoomFor store (own_object n)
room_for names before store n room h below = grind (arith, before, count_until, cells_grow, cells_more, all_cells)

not_full : (s : Store) (own : OwnObject) → HasRoomFor s own → IsFull s own.size → ⊥
not_full s own h1 h2 = grind arith

pub is_made : (s : Store) (own : OwnObject) (len : ℕ) (result : Option ℕ) → len ≡ own.size → HasRoomFor s own
    → IfNone result (IsFull s len) → is_some result ≡ true
is_made s own len result h1 h2 h3 = grind (arith, not_full)

pub as_made : {P : Type 0} (result : Option ℕ) (number : ℕ) → result ≡ Some number → IfSome result (λ n. P) → P
as_made result number h1 h2 = grind arith

-- ---- all of them

zeros_read : (n : ℕ) → Pointwise Reads (replicate n 0) (replicate n (Word 0))
zeros_read zero = tt
zeros_read (suc n) = (refl, zeros_read n)

all_read : (os : List OwnObject) → HeapReads (map (made_of 0) os) (map (made_of (Word 0)) os)
all_read [] = tt
all_read (o ∷ os) = (record { kind = refl; owner = refl; cells = zeros_read o.size }, all_read os)

pub own_heap : map (made_of (Word 0)) (own_objects_until 45) ≡ new_heap
unfolding own_objects_until
own_heap = refl

pub own_read : (names : List ClassName) (before store : Store) → HasOwn names before store 45
    → HeapReads store.objects new_heap
own_read names before store h = grind (arith, before, own_heap, all_read)
