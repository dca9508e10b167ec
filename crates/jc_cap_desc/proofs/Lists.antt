-- Elements of lists, and what is made of them.
use Rattle.std.proofs.Common.{◌≡◌, ◌⊎◌, inl, inr, ℕ, zero, suc, ◌||◌, Bool, true, false, cond, refl, sym}
use Rattle.std.proofs.Common.{List, [], ◌∷◌, ◌++◌, Option, Some, None, ap, ◌∙◌, slice_get, is_some}
use Rattle.std.specs.List.{cons_option, filter_map, find, flat_map, list_all, list_any}
use Rattle.std.specs.Option.{option_map}
use Rattle.jc_base.proofs.Binding.{the_some, none_some, both_true}

-- ---- tests and options

pub no_true : {A : Type 0} → false ≡ true → A
no_true e = absurd cc

pub there_some : {A : Type 0} (o : Option A) → is_some o ≡ true → (a : A) × (o ≡ Some a)
there_some None e = no_true e
there_some (Some a) e = (a, refl)

pub mapped : {A B : Type 0} (f : A → B) (o : Option A) (b : B) → option_map f o ≡ Some b
    → (a : A) × (o ≡ Some a) × (f a ≡ b)
mapped f None b e = absurd (none_some b e)
mapped f (Some a) b e = (a, refl, the_some _ _ e)

-- ---- elements that pass

-- all pass, so this one does
pub all_at : {A : Type 0} (p : A → Bool) (xs : List A) (n : ℕ) (x : A) → list_all p xs ≡ true
    → slice_get xs n ≡ Some x → p x ≡ true
all_at p [] n x all at = absurd (none_some x at)
all_at p (y ∷ ys) zero x all at = ap p (sym (the_some y x at)) ∙ (both_true (p y) (list_all p ys) all).0
all_at p (y ∷ ys) (suc n) x all at = all_at p ys n x (both_true (p y) (list_all p ys) all).1 at

-- an element that passes, and its place
pub record HasPassed {A : Type 0} (p : A → Bool) (xs : List A) : Type 0 where
  pub element : A
  pub place : ℕ
  pub there : slice_get xs place ≡ Some element
  pub passes : p element ≡ true

pub any_at : {A : Type 0} (p : A → Bool) (xs : List A) → list_any p xs ≡ true → HasPassed p xs
any_at p [] e = no_true e
any_at {A = A} p (x ∷ xs) e = by_test (p x) refl (any_at p xs) e
  where
    by_test : (b : Bool) → p x ≡ b → (list_any p xs ≡ true → HasPassed p xs) → (b || list_any p xs) ≡ true
        → HasPassed p (x ∷ xs)
    by_test true is rest e = record { element = x; place = 0; there = refl; passes = is }
    by_test false is rest e =
        let more = rest e in
        record { element = more.element; place = suc more.place; there = more.there; passes = more.passes }

-- what is found stands at a place, and passes
pub found_at : {A : Type 0} (p : A → Bool) (xs : List A) (x : A) → find p xs ≡ Some x
    → (n : ℕ) × (slice_get xs n ≡ Some x) × (p x ≡ true)
found_at p [] x e = absurd (none_some x e)
found_at {A = A} p (y ∷ ys) x e = by_test (p y) refl (found_at p ys x) e
  where
    by_test : (b : Bool) → p y ≡ b → (find p ys ≡ Some x → (n : ℕ) × (slice_get ys n ≡ Some x) × (p x ≡ true))
        → cond b (Some y) (find p ys) ≡ Some x → (n : ℕ) × (slice_get (y ∷ ys) n ≡ Some x) × (p x ≡ true)
    by_test true is rest e = (0, e, ap p (sym (the_some y x e)) ∙ is)
    by_test false is rest e = let more = rest e in (suc more.0, more.1, more.2)

-- ---- what elements give

-- what an element was made from
pub record IsMadeFrom {A B : Type 0} (f : A → Option B) (xs : List A) (y : B) : Type 0 where
  pub element : A
  pub place : ℕ
  pub there : slice_get xs place ≡ Some element
  pub made : f element ≡ Some y

pub made_from : {A B : Type 0} (f : A → Option B) (xs : List A) (n : ℕ) (y : B) → slice_get (filter_map f xs) n ≡ Some y
    → IsMadeFrom f xs y
made_from f [] n y at = absurd (none_some y at)
made_from {A = A} {B = B} f (x ∷ xs) n y at = by_first (f x) refl (λ m. made_from f xs m y) n at
  where
    behind : IsMadeFrom f xs y → IsMadeFrom f (x ∷ xs) y
    behind m = record { element = m.element; place = suc m.place; there = m.there; made = m.made }

    by_first : (o : Option B) → f x ≡ o → ((m : ℕ) → slice_get (filter_map f xs) m ≡ Some y → IsMadeFrom f xs y)
        → (n : ℕ) → slice_get (cons_option o (filter_map f xs)) n ≡ Some y → IsMadeFrom f (x ∷ xs) y
    by_first None is rest n at = behind (rest n at)
    by_first (Some z) is rest zero at = record { element = x; place = 0; there = refl; made = is ∙ at }
    by_first (Some z) is rest (suc n) at = behind (rest n at)

-- and where it stands
pub made_at : {A B : Type 0} (f : A → Option B) (xs : List A) (n : ℕ) (x : A) (y : B) → slice_get xs n ≡ Some x
    → f x ≡ Some y → (k : ℕ) × (slice_get (filter_map f xs) k ≡ Some y)
made_at f [] n x y at made = absurd (none_some x at)
made_at f (z ∷ xs) zero x y at made = (0, ap (λ o. slice_get (cons_option o (filter_map f xs)) 0) first)
  where
    first : f z ≡ Some y
    first = ap f (the_some z x at) ∙ made
made_at {B = B} f (z ∷ xs) (suc n) x y at made = by_first (f z) (made_at f xs n x y at made)
  where
    by_first : (o : Option B) → (k : ℕ) × (slice_get (filter_map f xs) k ≡ Some y)
        → (k : ℕ) × (slice_get (cons_option o (filter_map f xs)) k ≡ Some y)
    by_first None rest = rest
    by_first (Some first) rest = (suc rest.0, rest.1)

-- ---- lists one behind the other

in_first : {A : Type 0} (xs ys : List A) (n : ℕ) (x : A) → slice_get xs n ≡ Some x
    → (k : ℕ) × (slice_get (xs ++ ys) k ≡ Some x)
in_first [] ys n x at = absurd (none_some x at)
in_first (y ∷ xs) ys zero x at = (0, at)
in_first (y ∷ xs) ys (suc n) x at = let more = in_first xs ys n x at in (suc more.0, more.1)

in_second : {A : Type 0} (xs ys : List A) (n : ℕ) (y : A) → slice_get ys n ≡ Some y
    → (k : ℕ) × (slice_get (xs ++ ys) k ≡ Some y)
in_second [] ys n y at = (n, at)
in_second (x ∷ xs) ys n y at = let more = in_second xs ys n y at in (suc more.0, more.1)

in_either : {A : Type 0} (xs ys : List A) (n : ℕ) (y : A) → slice_get (xs ++ ys) n ≡ Some y
    → ((k : ℕ) × (slice_get xs k ≡ Some y)) ⊎ ((k : ℕ) × (slice_get ys k ≡ Some y))
in_either [] ys n y at = inr (n, at)
in_either (x ∷ xs) ys zero y at = inl (0, at)
in_either {A = A} (x ∷ xs) ys (suc n) y at = behind (in_either xs ys n y at)
  where
    behind : ((k : ℕ) × (slice_get xs k ≡ Some y)) ⊎ ((k : ℕ) × (slice_get ys k ≡ Some y))
        → ((k : ℕ) × (slice_get (x ∷ xs) k ≡ Some y)) ⊎ ((k : ℕ) × (slice_get ys k ≡ Some y))
    behind (inl k) = inl (suc k.0, k.1)
    behind (inr k) = inr k

-- an element's own list, and a place in it
pub record IsOfOne {A B : Type 0} (g : A → List B) (xs : List A) (y : B) : Type 0 where
  pub element : A
  pub place : ℕ
  pub there : slice_get xs place ≡ Some element
  pub inner : ℕ
  pub inside : slice_get (g element) inner ≡ Some y

pub flat_in : {A B : Type 0} (g : A → List B) (xs : List A) (n : ℕ) (y : B) → slice_get (flat_map g xs) n ≡ Some y
    → IsOfOne g xs y
flat_in g [] n y at = absurd (none_some y at)
flat_in {A = A} {B = B} g (x ∷ xs) n y at = by_list (in_either (g x) (flat_map g xs) n y at) (λ m. flat_in g xs m y)
  where
    by_list : ((k : ℕ) × (slice_get (g x) k ≡ Some y)) ⊎ ((k : ℕ) × (slice_get (flat_map g xs) k ≡ Some y))
        → ((m : ℕ) → slice_get (flat_map g xs) m ≡ Some y → IsOfOne g xs y) → IsOfOne g (x ∷ xs) y
    by_list (inl k) rest = record { element = x; place = 0; there = refl; inner = k.0; inside = k.1 }
    by_list (inr k) rest =
        let more = rest k.0 k.1 in
        record {
          element = more.element;
          place = suc more.place;
          there = more.there;
          inner = more.inner;
          inside = more.inside;
        }

pub flat_at : {A B : Type 0} (g : A → List B) (xs : List A) (n : ℕ) (x : A) (k : ℕ) (y : B) → slice_get xs n ≡ Some x
    → slice_get (g x) k ≡ Some y → (m : ℕ) × (slice_get (flat_map g xs) m ≡ Some y)
flat_at g [] n x k y at inside = absurd (none_some x at)
flat_at g (z ∷ xs) zero x k y at inside =
    in_first (g z) (flat_map g xs) k y (ap (λ x. slice_get (g x) k) (the_some z x at) ∙ inside)
flat_at g (z ∷ xs) (suc n) x k y at inside =
    let more = flat_at g xs n x k y at inside in
    in_second (g z) (flat_map g xs) more.0 y more.1
