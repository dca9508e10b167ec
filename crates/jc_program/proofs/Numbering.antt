-- Numbers of methods and classes by their places.
use Rattle.std.proofs.Common.{◌≡◌, ◌≢◌, ◌⊎◌, ℕ, zero, suc, ◌+◌, ◌<◌, ◌≤◌, ◌==◌, ◌&&◌, Bool, true, false, cond}
use Rattle.std.proofs.Common.{List, [], ◌∷◌, ◌++◌, length, take, set, unwrap_or, Option, Some, None, slice_get}
use Rattle.std.proofs.Common.{refl, sym, ap, ◌∙◌, arith}
use Rattle.std.proofs.lemmas.Iterator.Adapters.{position_from-zero}
use Rattle.std.specs.List.{position, position_from}
use Rattle.std.proofs.lemmas.Bool.{cases_lt, le-ltb, lt-ltb}
use Rattle.std.proofs.lemmas.Bool.Decides.{eqb_tells}
use Rattle.std.proofs.lemmas.List.{get_or-set_other, get_or-set_same}
use Rattle.std.proofs.lemmas.Option.{slice_get_past, slice_get_within, unwrap_or-slice_get}
use Rattle.std.specs.Option.{option_and_then, option_or}
use Rattle.jc_program.specs.PrivateLaid.{AreForgotten, below, number_in, place_at}

-- ---- the first of a list with one element more

after_first : {A : Type 0} (p : A → Bool) (xs : List A) (y : A) (n : ℕ)
    → position_from p n (xs ++ y ∷ []) ≡ option_or (position_from p n xs) (cond (p y) (Some (n + length xs)) None)
after_first p [] y n = ap (λ k. cond (p y) (Some k) None) (omega arith)
after_first p (x ∷ xs) y n = by_first (p x) (after_first p xs y (n + 1))
  where
    by_first : (b : Bool) → position_from p (n + 1) (xs ++ y ∷ [])
        ≡ option_or (position_from p (n + 1) xs) (cond (p y) (Some (n + 1 + length xs)) None)
        → cond b (Some n) (position_from p (n + 1) (xs ++ y ∷ []))
        ≡ option_or (cond b (Some n) (position_from p (n + 1) xs)) (cond (p y) (Some (n + suc (length xs))) None)
    by_first b h1 = grind (arith, Some, None)

first_more : {A : Type 0} (p : A → Bool) (xs : List A) (y : A)
    → position p (xs ++ y ∷ []) ≡ option_or (position p xs) (cond (p y) (Some (length xs)) None)
first_more p xs y = grind (arith, position_from-zero, after_first, Some, None, length)

-- ---- tables of numbers

or_none : {A : Type 0} (o : Option A) → o ≡ option_or o None
or_none o = grind (arith, None, Some)

-- one item more has its number, if none before it has its place
pub number_last : {A : Type 0} (is_at : ℕ → ℕ → A → Bool) (old new : List (List (Option ℕ))) (items : List A) (item : A)
    → ((p i : ℕ) → number_in old p i ≡ position (is_at p i) items)
    → ((p i : ℕ) → number_in new p i
    ≡ cond (is_at p i item) (option_or (number_in old p i) (Some (length items))) (number_in old p i))
    → (p i : ℕ) → number_in new p i ≡ position (is_at p i) (items ++ item ∷ [])
number_last is_at old new items item before put p i =
    put p i ∙ by_place (is_at p i item) (number_in old p i)
    ∙ ap (λ o. option_or o (cond (is_at p i item) (Some (length items)) None)) (before p i)
    ∙ sym (first_more (is_at p i) items item)
  where
    by_place : (b : Bool) (o : Option ℕ)
        → cond b (option_or o (Some (length items))) o ≡ option_or o (cond b (Some (length items)) None)
    by_place b o = grind (arith, or_none)

-- another table in place of one
number_here : (tables : List (List (Option ℕ))) (k : ℕ) (t : List (Option ℕ)) → k < length tables → (i : ℕ)
    → number_in (set tables k t) k i ≡ place_at t i
number_here [] k t lt i = absurd (omega (arith, lt))
number_here (x ∷ tables) zero t lt i = refl
number_here (x ∷ tables) (suc k) t lt i = number_here tables k t (omega (arith, lt)) i

number_elsewhere : (tables : List (List (Option ℕ))) (k : ℕ) (t : List (Option ℕ)) (p : ℕ) → (k ≡ p → ⊥) → (i : ℕ)
    → number_in (set tables k t) p i ≡ number_in tables p i
number_elsewhere [] k t p other i = refl
number_elsewhere (x ∷ tables) zero t zero other i = absurd (other refl)
number_elsewhere (x ∷ tables) zero t (suc p) other i = refl
number_elsewhere (x ∷ tables) (suc k) t zero other i = refl
number_elsewhere (x ∷ tables) (suc k) t (suc p) other i = number_elsewhere tables k t p (λ e. other (ap suc e)) i

pub number_more : (tables : List (List (Option ℕ))) (k : ℕ) (old new : List (Option ℕ)) (offset number : ℕ)
    → slice_get tables k ≡ Some old
    → ((i : ℕ) → place_at new i ≡ cond (offset == i) (option_or (place_at old i) (Some number)) (place_at old i))
    → (p i : ℕ) → number_in (set tables k new) p i
    ≡ cond (k == p && offset == i) (option_or (number_in tables p i) (Some number)) (number_in tables p i)
number_more tables k old new offset number at put p i = by_table (eqb_tells k p)
  where
    within : k < length tables
    within = slice_get_within tables k old at

    was : number_in tables k i ≡ place_at old i
    was = ap (λ (o : Option (List (Option ℕ))). option_and_then (λ places. place_at places i) o) at

    by_table : ((k == p ≡ true) × (k ≡ p)) ⊎ ((k == p ≡ false) × (k ≢ p))
        → number_in (set tables k new) p i ≡ cond (k == p && offset == i)
        (option_or (number_in tables p i) (Some number)) (number_in tables p i)
    by_table h1 = grind (arith, set, number_here, within, Some, was, number_elsewhere)

-- ---- the first numbers alone

nothing_before : {A : Type 0} (p : A → Bool) (xs : List A) (n count : ℕ) → count ≤ n
    → below count (position_from p n xs) ≡ None
nothing_before p [] n count less = refl
nothing_before p (x ∷ xs) n count less = by_first (p x) (nothing_before p xs (n + 1) count (omega (arith, less)))
  where
    by_first : (b : Bool) → below count (position_from p (n + 1) xs) ≡ None
        → below count (cond b (Some n) (position_from p (n + 1) xs)) ≡ None
    by_first b h1 = grind (arith, Some, None, le-ltb)

first_below : {A : Type 0} (p : A → Bool) (xs : List A) (n count : ℕ)
    → position_from p n (take count xs) ≡ below (n + count) (position_from p n xs)
first_below p [] n zero = refl
first_below p [] n (suc count) = refl
first_below p (x ∷ xs) n zero = sym (nothing_before p (x ∷ xs) n (n + 0) (omega arith))
first_below p (x ∷ xs) n (suc count) = by_first (p x) (first_below p xs (n + 1) count)
  where
    by_first : (b : Bool)
        → position_from p (n + 1) (take count xs) ≡ below (n + 1 + count) (position_from p (n + 1) xs)
        → cond b (Some n) (position_from p (n + 1) (take count xs))
        ≡ below (n + suc count) (cond b (Some n) (position_from p (n + 1) xs))
    by_first b h1 = grind (arith, Some, None, lt-ltb)

-- a position among the first items is one among all, if it is one of the first
position_first : {A : Type 0} (p : A → Bool) (xs : List A) (count : ℕ)
    → position p (take count xs) ≡ below count (position p xs)
position_first p xs count = grind (arith, position_from-zero, take, first_below)

-- numbers of all items, cut to the first
pub numbers_first : {A : Type 0} (is_at : ℕ → ℕ → A → Bool) (old new : List (List (Option ℕ))) (items : List A)
    (count : ℕ)
    → ((p i : ℕ) → number_in old p i ≡ position (is_at p i) items)
    → ((p i : ℕ) → number_in new p i ≡ below count (number_in old p i))
    → (p i : ℕ) → number_in new p i ≡ position (is_at p i) (take count items)
numbers_first is_at old new items count before cut p i = grind (arith, position_first)

-- ---- numbers that are taken away

-- one place more
forgotten_more : (count at : ℕ) (old now new : ℕ → ℕ → Option ℕ) → AreForgotten count at old now
    → ((i : ℕ) → new at i ≡ below count (now at i)) → ((p i : ℕ) → p ≢ at → new p i ≡ now p i)
    → AreForgotten count (at + 1) old new
forgotten_more count at old now new are here elsewhere = record {
  first = λ p i less. by_order p i less (cases_lt p at);
  others = λ p i less. elsewhere p i (λ e. omega (arith, e, less)) ∙ are.others p i (omega (arith, less));
}
  where
    by_order : (p i : ℕ) → p < at + 1 → (p < at) ⊎ (at ≤ p) → new p i ≡ below count (old p i)
    by_order p i h1 h2 = grind arith

-- all places
pub forgotten_all : (count done : ℕ) (old new : ℕ → ℕ → Option ℕ) → AreForgotten count done old new
    → ((p i : ℕ) → done ≤ p → old p i ≡ None) → (p i : ℕ) → new p i ≡ below count (old p i)
forgotten_all count done old new are none p i = by_order (cases_lt p done)
  where
    by_order : (p < done) ⊎ (done ≤ p) → new p i ≡ below count (old p i)
    by_order h1 = grind arith

-- of places
pub no_place : (places : List (Option ℕ)) (i : ℕ) → length places ≤ i → place_at places i ≡ None
no_place places i past = ap (λ o. unwrap_or o None) (slice_get_past places i past)

pub place_forgotten : (count at : ℕ) (old now : List (Option ℕ)) (before : Option ℕ)
    → AreForgotten count at (λ i none. place_at old i) (λ i none. place_at now i) → slice_get now at ≡ Some before
    → AreForgotten count (at + 1) (λ i none. place_at old i) (λ i none. place_at (set now at (below count before)) i)
place_forgotten count at old now before are there =
    let after = below count before in
    forgotten_more count at (λ i none. place_at old i) (λ i none. place_at now i)
    (λ i none. place_at (set now at after) i) are
    (λ i. unwrap_or-slice_get (set now at after) at None
    ∙ get_or-set_same now at after None (slice_get_within now at before there)
    ∙ ap (λ o. below count (unwrap_or o None)) (sym there))
    (λ p i other. unwrap_or-slice_get (set now at after) p None ∙ get_or-set_other now at p after None other
    ∙ sym (unwrap_or-slice_get now p None))

-- of tables
pub no_table : (tables : List (List (Option ℕ))) (p i : ℕ) → length tables ≤ p → number_in tables p i ≡ None
no_table tables p i past =
    ap (λ (o : Option (List (Option ℕ))). option_and_then (λ places. place_at places i) o)
    (slice_get_past tables p past)

pub table_forgotten : (count at : ℕ) (old now : List (List (Option ℕ))) (before after : List (Option ℕ))
    → AreForgotten count at (number_in old) (number_in now) → slice_get now at ≡ Some before
    → ((i : ℕ) → place_at after i ≡ below count (place_at before i))
    → AreForgotten count (at + 1) (number_in old) (number_in (set now at after))
table_forgotten count at old now before after are there put =
    forgotten_more count at (number_in old) (number_in now) (number_in (set now at after)) are
    (λ i. number_here now at after (slice_get_within now at before there) i ∙ put i
    ∙ ap (below count) (sym (ap (λ (o : Option (List (Option ℕ))). option_and_then (λ places. place_at places i) o)
    there)))
    (λ p i other. number_elsewhere now at after p (λ e. other (sym e)) i)
