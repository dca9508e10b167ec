-- Names that are told to be the same are the same, and the places of names in lists.
use Rattle.std.proofs.Common.{◌≡◌, ℕ, zero, suc, ◌+◌, ◌==◌, ◌&&◌, Bool, true, false, cond, List, [], ◌∷◌, Option}
use Rattle.std.proofs.Common.{Some, None, slice_get, refl, sym, ap, ◌∙◌, arith}
use Rattle.std.proofs.lemmas.Bool.{eqb-true, eq-eqb, ne_eqb}
use Rattle.std.proofs.lemmas.Iterator.Adapters.{position_from-zero}
use Rattle.std.proofs.lemmas.Option.{same_Some}
use Rattle.std.specs.List.{position, position_from}
use Rattle.std.specs.Option.{option_map_or}
use Rattle.jc_api.specs.Class.{class_of, number_of}
use Rattle.jc_api.specs.declared.class.ApiClass.{ApiClass}
use Rattle.jc_names.specs.Names.{is_same_name}
use Rattle.jc_names.specs.declared.name.ClassName.{ClassName}
use Rattle.jc_program.specs.Classes.{class_number}

pub true_false : {P : Type 0} → true ≡ false → P
true_false e = absurd cc

pub left_true : (a b : Bool) → (a && b) ≡ true → a ≡ true
left_true a b h1 = grind arith

pub right_true : (a b : Bool) → (a && b) ≡ true → b ≡ true
right_true a b h1 = grind arith

-- ---- one name

pub numbered_again : (a : ApiClass) → class_of (number_of a) ≡ Some a
numbered_again a = grind arith

same_number : (a b : ApiClass) → number_of a ≡ number_of b → a ≡ b
same_number a b e = same_Some a b (sym (numbered_again a) ∙ ap class_of e ∙ numbered_again b)

pub same_name : (c d : ClassName) → is_same_name c d ≡ true → c ≡ d
same_name c d h1 = grind (arith, same_number, eqb-true, left_true, right_true)

pub name_itself : (c : ClassName) → is_same_name c c ≡ true
name_itself c = grind (arith, eq-eqb)

-- ---- places

-- what stands at a place that was found
pub record StandsAt {A : Type 0} (p : A → Bool) (xs : List A) (first n : ℕ) : Type 0 where
  pub item : A
  pub place : ℕ
  pub place_is : n ≡ first + place
  pub there : slice_get xs place ≡ Some item
  pub passes : p item ≡ true

place_from : {A : Type 0} (p : A → Bool) (xs : List A) (first n : ℕ) → position_from p first xs ≡ Some n
    → StandsAt p xs first n
place_from p [] first n e = absurd cc
place_from p (x ∷ xs) first n e = by_first (p x) refl (place_from p xs (first + 1) n) e
  where
    by_first : (b : Bool) → p x ≡ b
        → (position_from p (first + 1) xs ≡ Some n → StandsAt p xs (first + 1) n)
        → cond b (Some first) (position_from p (first + 1) xs) ≡ Some n → StandsAt p (x ∷ xs) first n
    by_first true t rest e = record {
      item = x;
      place = zero;
      place_is = sym (same_Some first n e) ∙ omega arith;
      there = refl;
      passes = t;
    }
    by_first false t rest e =
        let s = rest e in let i = s.place_is in record {
          item = s.item;
          place = suc s.place;
          place_is = omega (arith, i);
          there = s.there;
          passes = s.passes;
        }

pub placed : {A : Type 0} (p : A → Bool) (xs : List A) (n : ℕ) → position p xs ≡ Some n → StandsAt p xs 0 n
placed p xs n e = place_from p xs 0 n (sym (position_from-zero p xs) ∙ e)

-- a place at which something passes is found, or one before it
some_place : {A : Type 0} (p : A → Bool) (xs : List A) (first k : ℕ) (x : A) → slice_get xs k ≡ Some x → p x ≡ true
    → (n : ℕ) × (position_from p first xs ≡ Some n)
some_place p [] first k x at t = absurd cc
some_place p (y ∷ xs) first zero x at t =
    (first, ap (λ b. cond b (Some first) (position_from p (first + 1) xs)) (ap p (same_Some y x at) ∙ t))
some_place p (y ∷ xs) first (suc k) x at t = by_first (p y) (some_place p xs (first + 1) k x at t)
  where
    by_first : (b : Bool) → (n : ℕ) × (position_from p (first + 1) xs ≡ Some n)
        → (n : ℕ) × (cond b (Some first) (position_from p (first + 1) xs) ≡ Some n)
    by_first true rest = (first, refl)
    by_first false rest = rest

pub is_placed : {A : Type 0} (p : A → Bool) (xs : List A) (k : ℕ) (x : A) → slice_get xs k ≡ Some x → p x ≡ true
    → (n : ℕ) × (position p xs ≡ Some n)
is_placed p xs k x at t = let r = some_place p xs 0 k x at t in (r.0, position_from-zero p xs ∙ r.1)

-- the name at the number of a class
pub named : (names : List ClassName) (c : ClassName) (n : ℕ) → class_number names c ≡ Some n
    → slice_get names n ≡ Some c
named names c n e =
    let s = placed (λ d. is_same_name d c) names n e in let i = s.place_is in
    let same : n ≡ s.place = omega (arith, i) in
    ap (slice_get names) same ∙ s.there ∙ ap Some (same_name s.item c s.passes)

-- a number is a class's, or another class's
pub number_told : (names : List ClassName) (c : ClassName) (number : ℕ) → class_number names c ≡ Some number
    → (d : ClassName) → option_map_or (λ n. n == number) (class_number names d) false ≡ is_same_name d c
number_told names c number is d = by_name (is_same_name d c) refl
  where
    by_number : (o : Option ℕ) → class_number names d ≡ o → is_same_name d c ≡ false
        → option_map_or (λ n. n == number) o false ≡ false
    by_number None e other = refl
    by_number (Some n) e other = ne_eqb n number (λ same.
        let one : d ≡ c = same_Some d c (sym (named names d n e) ∙ ap (slice_get names) same
        ∙ named names c number is) in
        true_false (sym (ap (λ k. is_same_name k c) one ∙ name_itself c) ∙ other))

    by_name : (b : Bool) → is_same_name d c ≡ b → option_map_or (λ n. n == number) (class_number names d) false ≡ b
    by_name b h1 = grind (arith, same_name, eq-eqb, by_number)
