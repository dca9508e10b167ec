-- Methods that are found by their names.
use Rattle.std.proofs.Common.{◌≡◌, ◌≢◌, ℕ, zero, suc, ◌+◌, ◌<◌, ◌≤◌, ◌==◌, ◌&&◌, Bool, false, cond, List}
use Rattle.std.proofs.Common.{[], ◌∷◌, ◌++◌, length, drop, map, Option, Some, None, slice_get, unwrap_or, nat_lt}
use Rattle.std.proofs.Common.{refl, sym, ap, ◌∙◌, arith}
use Rattle.std.proofs.lemmas.Bool.{eq-eqb, ltb-false, ne_eqb}
use Rattle.std.proofs.lemmas.List.Folds.{find_at}
use Rattle.std.proofs.lemmas.Option.{slice_get_past}
use Rattle.std.specs.List.{find, position, position_or_len}
use Rattle.std.specs.Option.{option_and_then, option_map, option_or}
use Rattle.jc_cap_desc.specs.Shape.{MethodBody, Shape}
use Rattle.jc_cap.specs.declared.method_header.MethodHeader.{MethodHeader}
use Rattle.jc_link.specs.Linked.{LinkedBody, World}
use Rattle.jc_program.specs.Methods.{AreFound, AreLoaded, LoadedMethod, header_at, is_named, loaded_handler}
use Rattle.jc_program.specs.Methods.{loaded_method, method_named, methods_from, methods_of}

-- ---- lists

find_position : {A : Type 0} (p : A → Bool) (xs : List A) → find p xs ≡ option_and_then (slice_get xs) (position p xs)
find_position p xs =
    find_at p xs ∙ by_place (nat_lt (position_or_len p xs) (length xs)) (ltb-false (position_or_len p xs) (length xs))
  where
    by_place : (b : Bool) → (b ≡ false → length xs ≤ position_or_len p xs)
        → slice_get xs (position_or_len p xs) ≡ option_and_then (slice_get xs)
        (cond b (Some (position_or_len p xs)) None)
    by_place b h1 = grind (arith, slice_get_past)

find_both : {A : Type 0} (p : A → Bool) (xs ys : List A) → find p (xs ++ ys) ≡ option_or (find p xs) (find p ys)
find_both p [] ys = refl
find_both p (x ∷ xs) ys = by_first (p x) (find_both p xs ys)
  where
    by_first : (b : Bool) → find p (xs ++ ys) ≡ option_or (find p xs) (find p ys)
        → cond b (Some x) (find p (xs ++ ys)) ≡ option_or (cond b (Some x) (find p xs)) (find p ys)
    by_first b h1 = grind arith

or_none : {A : Type 0} (o : Option A) → option_or o None ≡ o
or_none o = grind (arith, None, Some)

-- a list in two parts
record Parts {A : Type 0} (items : List A) (xs ys : List (Option A)) : Type 0 where
  first : List A
  rest : List A
  both : items ≡ first ++ rest
  first_is : map Some first ≡ xs
  rest_is : map Some rest ≡ ys

pub head_of : {A : Type 0} (x : A) (xs : List A) (y : A) (ys : List A) → x ∷ xs ≡ y ∷ ys → x ≡ y
head_of x xs y ys e = ap (λ zs. unwrap_or (slice_get zs 0) x) e

pub tail_of : {A : Type 0} (x : A) (xs : List A) (y : A) (ys : List A) → x ∷ xs ≡ y ∷ ys → xs ≡ ys
tail_of x xs y ys e = ap (drop 1) e

parts_of : {A : Type 0} (xs : List (Option A)) (ys : List (Option A)) (items : List A) → map Some items ≡ xs ++ ys
    → Parts items xs ys
parts_of [] ys items e = record { first = []; rest = items; both = refl; first_is = refl; rest_is = e }
parts_of (x ∷ xs) ys [] e = absurd cc
parts_of (x ∷ xs) ys (i ∷ items) e =
    let p = parts_of xs ys items (tail_of (Some i) (map Some items) x (xs ++ ys) e) in
    record {
      first = i ∷ p.first;
      rest = p.rest;
      both = ap (λ zs. i ∷ zs) p.both;
      first_is = ap (λ z. z ∷ map Some p.first) (head_of (Some i) (map Some items) x (xs ++ ys) e)
          ∙ ap (λ zs. x ∷ zs) p.first_is;
      rest_is = p.rest_is;
    }

-- ---- the methods of one package

module _ (world : List Shape) (number : ℕ) (body : LinkedBody) where
  abbrev pub with_header : MethodBody → MethodHeader → LoadedMethod
  with_header b header = record {
    number = number;
    offset = b.offset;
    header = header;
    code = b.code;
    handlers = map (loaded_handler world number body b.code_offset) b.handlers;
  }

  -- whether it has a name
  name_is : (b : MethodBody) (m : LoadedMethod) (asked offset : ℕ) → Some m ≡ loaded_method world number body b
      → is_named asked offset m ≡ (number == asked && b.offset == offset)
  name_is b m asked offset e = by_header (header_at world number b.offset) e
    where
      by_header : (o : Option MethodHeader) → Some m ≡ option_map (with_header b) o → is_named asked offset m
          ≡ (number == asked && b.offset == offset)
      by_header o h1 = grind (arith, None, Some, unwrap_or)

  own_method : (offset : ℕ) (bs : List MethodBody) (ms : List LoadedMethod) → map Some ms
      ≡ map (loaded_method world number body) bs
      → find (is_named number offset) ms ≡ option_and_then (loaded_method world number body)
      (find (λ b. b.offset == offset) bs)
  own_method offset [] [] e = refl
  own_method offset [] (m ∷ ms) e = absurd cc
  own_method offset (b ∷ bs) [] e = absurd cc
  own_method offset (b ∷ bs) (m ∷ ms) e =
      let this = head_of (Some m) (map Some ms) (loaded_method world number body b)
      (map (loaded_method world number body) bs) e in
      let others = own_method offset bs ms (tail_of (Some m) (map Some ms) (loaded_method world number body b)
      (map (loaded_method world number body) bs) e) in
      ap (λ t. cond t (Some m) (find (is_named number offset) ms)) (name_is b m number offset this
      ∙ ap (λ t. t && b.offset == offset) (eq-eqb number number refl))
      ∙ by_offset (b.offset == offset) this others
    where
      by_offset : (t : Bool) → Some m ≡ loaded_method world number body b
          → find (is_named number offset) ms ≡ option_and_then (loaded_method world number body)
          (find (λ b. b.offset == offset) bs)
          → cond t (Some m) (find (is_named number offset) ms)
          ≡ option_and_then (loaded_method world number body)
          (cond t (Some b) (find (λ b. b.offset == offset) bs))
      by_offset t h1 h2 = grind arith

  not_here : (asked offset : ℕ) → number ≢ asked → (bs : List MethodBody) (ms : List LoadedMethod) → map Some ms
      ≡ map (loaded_method world number body) bs
      → find (is_named asked offset) ms ≡ None
  not_here asked offset differ [] [] e = refl
  not_here asked offset differ [] (m ∷ ms) e = absurd cc
  not_here asked offset differ (b ∷ bs) [] e = absurd cc
  not_here asked offset differ (b ∷ bs) (m ∷ ms) e =
      let this = head_of (Some m) (map Some ms) (loaded_method world number body b)
      (map (loaded_method world number body) bs) e in
      let others = not_here asked offset differ bs ms
      (tail_of (Some m) (map Some ms) (loaded_method world number body b)
      (map (loaded_method world number body) bs) e) in
      ap (λ t. cond t (Some m) (find (is_named asked offset) ms)) (name_is b m asked offset this
      ∙ ap (λ t. t && b.offset == offset) (ne_eqb number asked differ))
      ∙ others

-- ---- those of all packages

none_before : (world : List Shape) (bodies : List LinkedBody) (first : ℕ) (methods : List LoadedMethod)
    (asked offset : ℕ)
    → map Some methods ≡ methods_from world first bodies → asked < first → find (is_named asked offset) methods ≡ None
none_before world [] first [] asked offset e less = refl
none_before world [] first (m ∷ methods) asked offset e less = absurd cc
none_before world (body ∷ bodies) first methods asked offset e less =
    let p = parts_of (methods_of world first body) (methods_from world (suc first) bodies) methods e in
    ap (find (is_named asked offset)) p.both ∙ find_both (is_named asked offset) p.first p.rest
    ∙ ap (λ o. option_or o (find (is_named asked offset) p.rest))
    (not_here world first body asked offset (λ same. omega
    (arith, same, less)) body.kept.methods p.first p.first_is)
    ∙ none_before world bodies (suc first) p.rest asked offset p.rest_is (omega (arith, less))

pub found_from : (world : List Shape) (bodies : List LinkedBody) (first n : ℕ) (methods : List LoadedMethod)
    (asked offset : ℕ)
    → map Some methods ≡ methods_from world first bodies → asked ≡ first + n
    → find (is_named asked offset) methods ≡ option_and_then
    (λ (body : LinkedBody). option_and_then (loaded_method world asked body)
    (find (λ m. m.offset == offset) body.kept.methods)) (slice_get bodies n)
found_from world [] first n [] asked offset e is = refl
found_from world [] first n (m ∷ methods) asked offset e is = absurd cc
found_from world (body ∷ bodies) first zero methods asked offset e is =
    let p = parts_of (methods_of world first body) (methods_from world (suc first) bodies) methods e in
    let same : first ≡ asked = omega (arith, is) in
    ap (find (is_named asked offset)) p.both ∙ find_both (is_named asked offset) p.first p.rest
    ∙ ap (option_or (find (is_named asked offset) p.first))
    (none_before world bodies (suc first) p.rest asked offset p.rest_is (omega (arith, is)))
    ∙ or_none (find (is_named asked offset) p.first)
    ∙ own_method world asked body offset body.kept.methods p.first (p.first_is
    ∙ ap (λ k. map (loaded_method world k body) body.kept.methods) same)
found_from world (body ∷ bodies) first (suc n) methods asked offset e is =
    let p = parts_of (methods_of world first body) (methods_from world (suc first) bodies) methods e in
    ap (find (is_named asked offset)) p.both ∙ find_both (is_named asked offset) p.first p.rest
    ∙ ap (λ o. option_or o (find (is_named asked offset) p.rest))
    (not_here world first body asked offset (λ same. omega
    (arith, same, is)) body.kept.methods p.first p.first_is)
    ∙ found_from world bodies (suc first) n p.rest asked offset p.rest_is (omega (arith, is))

pub are_found : (world : World) (methods : List LoadedMethod) → AreLoaded world methods → AreFound world methods
are_found world methods loaded number offset = sym (find_position (is_named number offset) methods) ∙ by_number number
  where
    by_number : (number : ℕ) → find (is_named number offset) methods ≡ method_named world number offset
    by_number zero = none_before world.shapes world.bodies 1 methods zero offset loaded (omega arith)
    by_number (suc n) = found_from world.shapes world.bodies 1 n methods (suc n) offset loaded (omega arith)
