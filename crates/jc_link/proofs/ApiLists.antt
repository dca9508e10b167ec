-- What stands for numbers and for tokens, whatever it is.
use Rattle.std.proofs.Common.{◌≡◌, ℕ, zero, suc, ◌+◌, ◌<◌, ◌≤◌, ◌==◌, Bool, true, false, cond, map, List, [], ◌∷◌, length, Option, Some, None, refl, ap, sym, ◌∙◌, arith, slice_get}
use Rattle.std.proofs.lemmas.Bool.{cases_lt, eq-eqb, eqb-true, eqb-false}
use Rattle.std.specs.List.{cons_option, filter_map, find, list_all, list_any, range_with_len}
use Rattle.jc_api.specs.Numbered.{numbered}
use Rattle.jc_classes.specs.Api.{each_below, is_token, number_to, room_for, room_to, those_to}
use Rattle.jc_link.proofs.GrownParts.{the_some, none_some}
use Rattle.jc_link.proofs.Nones.{found_passes, left_true, neither, right_true, true_false}

-- ---- tests of lists

pub none_of : {A : Type 0} (p : A → Bool) (xs : List A) → ((n : ℕ) (x : A) → slice_get xs n ≡ Some x → p x ≡ false) → list_any p xs ≡ false
none_of p [] h = refl
none_of p (x ∷ xs) h = neither (p x) (list_any p xs) (h 0 x refl) (none_of p xs (λ n. h (suc n)))

pub none_anywhere : {A : Type 0} (p : A → Bool) (xs : List A) → ((x : A) → p x ≡ false) → list_any p xs ≡ false
none_anywhere p xs h = none_of p xs (λ n x e. h x)

pub any_found : {A : Type 0} (p : A → Bool) (xs : List A) (x : A) → find p xs ≡ Some x → list_any p xs ≡ true
any_found p [] x e = absurd (none_some x e)
any_found p (y ∷ ys) x e = grind (arith, any_found p ys x)

all_at : {A : Type 0} (p : A → Bool) (xs : List A) → list_all p xs ≡ true → (n : ℕ) (x : A) → slice_get xs n ≡ Some x → p x ≡ true
all_at p [] all n x e = absurd (none_some x e)
all_at p (y ∷ ys) all zero x e = ap p (sym (the_some y x e)) ∙ left_true (p y) (list_all p ys) all
all_at p (y ∷ ys) all (suc n) x e = all_at p ys (right_true (p y) (list_all p ys) all) n x e

pub all_numbered : {A : Type 0} (p : A → Bool) (rows : List A) → list_all p rows ≡ true → (n : ℕ) (x : A) → numbered rows n ≡ Some x → p x ≡ true
all_numbered p rows h1 n x h2 = grind (arith, none_some, all_at)

within : {A : Type 0} (xs : List A) (n : ℕ) (x : A) → slice_get xs n ≡ Some x → n < length xs
within [] n x e = absurd (none_some x e)
within (y ∷ ys) zero x e = omega arith
within (y ∷ ys) (suc n) x e = let h = within ys n x e in omega arith

pub numbered_within : {A : Type 0} (rows : List A) (n : ℕ) (x : A) → numbered rows n ≡ Some x → (1 ≤ n) × (n ≤ length rows)
numbered_within rows n x h1 = grind (arith, none_some, within)

pub there_at : {A : Type 0} (xs : List A) (n : ℕ) → n < length xs → (x : A) × (slice_get xs n ≡ Some x)
there_at [] n h = absurd (omega arith)
there_at (x ∷ xs) zero h = (x, refl)
there_at (x ∷ xs) (suc n) h = there_at xs n (omega arith)

pub numbered_there : {A : Type 0} (rows : List A) (n : ℕ) → 1 ≤ n → n ≤ length rows → (x : A) × (numbered rows n ≡ Some x)
numbered_there rows zero low high = absurd (omega arith)
numbered_there rows (suc n) low high = there_at rows n (omega arith)

-- ---- what there is for numbers

from_number : {A : Type 0} (f : ℕ → Option A) (from n i : ℕ) (x : A) → slice_get (filter_map f (range_with_len from n)) i ≡ Some x → (m : ℕ) × (f m ≡ Some x)
from_number f from zero i x e = absurd (none_some x e)
from_number {A = A} f from (suc n) i x e = by_first (f from) refl (λ j. from_number f (from + 1) n j x) i e
  where
    by_first : (o : Option A) → f from ≡ o → ((j : ℕ) → slice_get (filter_map f (range_with_len (from + 1) n)) j ≡ Some x → (m : ℕ) × (f m ≡ Some x))
        → (i : ℕ) → slice_get (cons_option o (filter_map f (range_with_len (from + 1) n))) i ≡ Some x → (m : ℕ) × (f m ≡ Some x)
    by_first o h1 h2 i h3 = grind arith

pub those_from : {A : Type 0} (f : ℕ → Option A) (last i : ℕ) (x : A) → slice_get (those_to last f) i ≡ Some x → (m : ℕ) × (f m ≡ Some x)
unfolding those_to
those_from f last i x e = from_number f 1 last i x e

-- what passes for one number alone is found
found_only : {A : Type 0} (p : A → Bool) (f : ℕ → Option A) (from n m : ℕ) (x : A) → from ≤ m → m < from + n → f m ≡ Some x → p x ≡ true
    → ((k : ℕ) (y : A) → f k ≡ Some y → p y ≡ true → k ≡ m) → find p (filter_map f (range_with_len from n)) ≡ Some x
found_only p f from zero m x low high at passes only = absurd (omega arith)
found_only {A = A} p f from (suc n) m x low high at passes only =
    by_place (from == m) (eqb-true from m) (eqb-false from m) (λ above. found_only p f (from + 1) n m x above (omega arith) at passes only)
  where
    here : f from ≡ Some x → find p (cons_option (f from) (filter_map f (range_with_len (from + 1) n))) ≡ Some x
    here g = grind arith

    by_test : (y : A) (b : Bool) → p y ≡ b → f from ≡ Some y → (from ≡ m → ⊥) → find p (filter_map f (range_with_len (from + 1) n)) ≡ Some x
        → cond b (Some y) (find p (filter_map f (range_with_len (from + 1) n))) ≡ Some x
    by_test y b h1 h2 h3 h4 = grind arith

    by_first : (o : Option A) → f from ≡ o → (from ≡ m → ⊥) → find p (filter_map f (range_with_len (from + 1) n)) ≡ Some x
        → find p (cons_option o (filter_map f (range_with_len (from + 1) n))) ≡ Some x
    by_first o h1 h2 h3 = grind (arith, by_test)

    by_place : (b : Bool) → (b ≡ true → from ≡ m) → (b ≡ false → from ≡ m → ⊥) → (from + 1 ≤ m → find p (filter_map f (range_with_len (from + 1) n)) ≡ Some x)
        → find p (cons_option (f from) (filter_map f (range_with_len (from + 1) n))) ≡ Some x
    by_place b h1 h2 h3 = grind (arith, here, by_first)

pub those_found : {A : Type 0} (p : A → Bool) (f : ℕ → Option A) (last m : ℕ) (x : A) → 1 ≤ m → m ≤ last → f m ≡ Some x → p x ≡ true
    → ((k : ℕ) (y : A) → f k ≡ Some y → p y ≡ true → k ≡ m) → find p (those_to last f) ≡ Some x
unfolding those_to
those_found p f last m x low high at passes only = found_only p f 1 last m x low (omega arith) at passes only

-- ---- the number with a token

pub number_has : (last : ℕ) (tokens : ℕ → Option ℕ) (token n : ℕ) → number_to last tokens token ≡ Some n → tokens n ≡ Some token
unfolding number_to
number_has last tokens token n e = grind (arith, found_passes, true_false, eqb-true)

found_some : (p : ℕ → Bool) (from n m : ℕ) → from ≤ m → m < from + n → p m ≡ true → (k : ℕ) × (find p (range_with_len from n) ≡ Some k)
found_some p from zero m low high e = absurd (omega arith)
found_some p from (suc n) m low high e =
    by_test (p from) refl (by_place (from == m) (eqb-true from m) (eqb-false from m)) (λ above. found_some p (from + 1) n m above (omega arith) e)
  where
    by_place : (b : Bool) → (b ≡ true → from ≡ m) → (b ≡ false → from ≡ m → ⊥) → p from ≡ false → from + 1 ≤ m
    by_place b h1 h2 h3 = grind (arith, true_false)

    by_test : (b : Bool) → p from ≡ b → (p from ≡ false → from + 1 ≤ m) → (from + 1 ≤ m → (k : ℕ) × (find p (range_with_len (from + 1) n) ≡ Some k))
        → (k : ℕ) × (cond b (Some from) (find p (range_with_len (from + 1) n)) ≡ Some k)
    by_test true f above rest = (from, refl)
    by_test false f above rest = rest (above f)

pub number_there : (last : ℕ) (tokens : ℕ → Option ℕ) (token n : ℕ) → 1 ≤ n → n ≤ last → tokens n ≡ Some token → (m : ℕ) × (number_to last tokens token ≡ Some m)
unfolding number_to
number_there last tokens token n low high e =
    found_some (λ number. is_token token (tokens number)) 1 last n low (omega arith) (ap (is_token token) e ∙ itself token)
  where
    itself : (t : ℕ) → (t == t) ≡ true
    itself t = eq-eqb t t refl

-- ---- the room for tokens

below_room : (f : ℕ → Option ℕ) (from n m t : ℕ) → from ≤ m → m < from + n → f m ≡ Some t → t < room_for (filter_map f (range_with_len from n))
below_room f from zero m t low high e = absurd (omega arith)
below_room f from (suc n) m t low high e =
    by_place (from == m) (eqb-true from m) (eqb-false from m) (λ above. below_room f (from + 1) n m t above (omega arith) e)
  where
    by_first : (o : Option ℕ) (room : List ℕ) → t < room_for room → t < room_for (cons_option o room)
    by_first o room h1 = grind arith

    here : (o : Option ℕ) (room : List ℕ) → o ≡ Some t → t < room_for (cons_option o room)
    here o room h1 = grind (arith, none_some, the_some)

    by_place : (b : Bool) → (b ≡ true → from ≡ m) → (b ≡ false → from ≡ m → ⊥) → (from + 1 ≤ m → t < room_for (filter_map f (range_with_len (from + 1) n)))
        → t < room_for (cons_option (f from) (filter_map f (range_with_len (from + 1) n)))
    by_place b h1 h2 h3 = grind (arith, here, by_first)

pub within_room : (last : ℕ) (tokens : ℕ → Option ℕ) (n t : ℕ) → 1 ≤ n → n ≤ last → tokens n ≡ Some t → t < room_to last tokens
unfolding room_to
within_room last tokens n t low high e = below_room tokens 1 last n t low (omega arith) e

-- ---- what stands for each token

mapped_there : {A : Type 0} (f : ℕ → A) (from n i : ℕ) → i < n → slice_get (map f (range_with_len from n)) i ≡ Some (f (from + i))
mapped_there f from zero i h = absurd (omega arith)
mapped_there f from (suc n) zero h = let e : from ≡ from + 0 = omega arith in ap (λ m. Some (f m)) e
mapped_there f from (suc n) (suc i) h = grind (arith, mapped_there f (from + 1) n i (omega arith))

mapped_past : {A : Type 0} (f : ℕ → A) (from n i : ℕ) → n ≤ i → slice_get (map f (range_with_len from n)) i ≡ None
mapped_past f from zero i h = refl
mapped_past f from (suc n) zero h = absurd (omega arith)
mapped_past f from (suc n) (suc i) h = mapped_past f (from + 1) n i (omega arith)

mapped_from : {A B : Type 0} (f : A → B) (xs : List A) (i : ℕ) (y : B) → slice_get (map f xs) i ≡ Some y → (x : A) × (y ≡ f x)
mapped_from f [] i y e = absurd (none_some y e)
mapped_from f (x ∷ xs) zero y e = (x, sym (the_some (f x) y e))
mapped_from f (x ∷ xs) (suc i) y e = mapped_from f xs i y e

pub each_there : {A : Type 0} (f : ℕ → A) (room t : ℕ) → t < room → slice_get (each_below room f) t ≡ Some (f t)
unfolding each_below
each_there f room t h = let e : 0 + t ≡ t = omega arith in mapped_there f 0 room t h ∙ ap (λ m. Some (f m)) e

pub each_past : {A : Type 0} (f : ℕ → A) (room t : ℕ) → room ≤ t → slice_get (each_below room f) t ≡ None
unfolding each_below
each_past f room t h = mapped_past f 0 room t h

pub each_from : {A : Type 0} (f : ℕ → A) (room i : ℕ) (x : A) → slice_get (each_below room f) i ≡ Some x → (t : ℕ) × (x ≡ f t)
unfolding each_below
each_from f room i x e = mapped_from f (range_with_len 0 room) i x e

pub each_is : {A : Type 0} (f : ℕ → A) (room t : ℕ) (x : A) → slice_get (each_below room f) t ≡ Some x → x ≡ f t
each_is f room t x e = grind (arith, cases_lt, the_some, each_there, none_some, each_past)
