-- Lists by numbers and tokens, one more at a time.
use Rattle.std.proofs.Common.{◌≡◌, ℕ, zero, suc, ◌+◌, ◌^◌, ◌<◌, ◌≤◌, Bool, true, cond, max, map, List, [], ◌∷◌, ◌++◌, length, nat_le, Option, Some, None, refl, ap, ◌∙◌, subst, add-one, length-append, arith}
use Rattle.std.specs.List.{slice_get, list_all, filter_map, find, range_with_len}
use Rattle.std.specs.Option.{option_or, option_to_list}
use Rattle.std.proofs.lemmas.Bool.{leb-true, cases_lt, lt-ltb, le-ltb}
use Rattle.std.proofs.lemmas.List.{map-append}
use Rattle.std.proofs.lemmas.List.Elements.{filter_map-append}
use Rattle.std.proofs.lemmas.List.Folds.{find-append}
use Rattle.jc_api.specs.Class.{last_class}
use Rattle.jc_api.specs.Member.{last_member}
use Rattle.jc_base.proofs.Binding.{both_true, the_some}
use Rattle.jc_api.specs.Bound.{Bound}
use Rattle.jc_api.specs.Member.{ApiMember, members, member_of, shown}
use Rattle.jc_api.specs.declared.class.ApiClass.{ApiClass}
use Rattle.jc_api.specs.declared.class.ApiPackage.{ApiPackage}
use Rattle.jc_api.specs.declared.member.Member.{Member}
use Rattle.jc_classes.specs.Api.{those_to, each_below, room_for, room_to, is_token, number_to, class_shape_of, method_of}
use Rattle.jc_classes.specs.PrivateApi.{with_room, if_token}
use Rattle.jc_classes.specs.Limits.{most_classes_of_one}

range_more : (a n : ℕ) → range_with_len a (suc n) ≡ range_with_len a n ++ (a + n) ∷ []
range_more a zero = let e : a ≡ a + 0 = omega arith in ap (λ m. m ∷ []) e
range_more a (suc n) = grind (arith, range_more (a + 1) n)

one_mapped : {A : Type 0} (f : ℕ → Option A) (n : ℕ) → filter_map f (n ∷ []) ≡ option_to_list (f n)
one_mapped f n = grind arith

-- what stands for one number more
mapped_more : {A : Type 0} (f : ℕ → Option A) (n : ℕ) → filter_map f (range_with_len 1 (suc n)) ≡ filter_map f (range_with_len 1 n) ++ option_to_list (f (suc n))
mapped_more f n =
    let e : 1 + n ≡ suc n = omega arith in
    ap (filter_map f) (range_more 1 n) ∙ filter_map-append f (range_with_len 1 n) ((1 + n) ∷ [])
    ∙ ap (λ ys. filter_map f (range_with_len 1 n) ++ ys) (one_mapped f (1 + n) ∙ ap (λ m. option_to_list (f m)) e)

those_suc : {A : Type 0} (f : ℕ → Option A) (n : ℕ) → those_to (suc n) f ≡ those_to n f ++ option_to_list (f (suc n))
unfolding those_to
those_suc f n = mapped_more f n

pub those_more : {A : Type 0} (f : ℕ → Option A) (n : ℕ) → those_to (n + 1) f ≡ those_to n f ++ option_to_list (f (n + 1))
those_more f n = rw (add-one n) (those_suc f n)

pub those_none : {A : Type 0} (f : ℕ → Option A) → those_to 0 f ≡ []
unfolding those_to
those_none f = refl

pub each_more : {A : Type 0} (f : ℕ → A) (n : ℕ) → each_below (n + 1) f ≡ each_below n f ++ f n ∷ []
unfolding each_below
each_more f n =
    let e : 0 + n ≡ n = omega arith in
    rw (add-one n) (ap (map f) (range_more 0 n) ∙ ap (λ m. map f (range_with_len 0 n ++ m ∷ [])) e ∙ map-append f (range_with_len 0 n) (n ∷ []))

pub each_none : {A : Type 0} (f : ℕ → A) → each_below 0 f ≡ []
unfolding each_below
each_none f = refl

room_behind : (tokens : List ℕ) (more : Option ℕ) → room_for (tokens ++ option_to_list more) ≡ with_room (room_for tokens) more
room_behind [] None = refl
room_behind [] (Some t) = rw (le-ltb t 0 (omega arith)) (omega arith)
room_behind (token ∷ tokens) None = ap (max (token + 1)) (room_behind tokens None)
room_behind (token ∷ tokens) (Some t) = grind (arith, max, cases_lt, lt-ltb, le-ltb, room_behind tokens (Some t))

pub room_more : (tokens : ℕ → Option ℕ) (n : ℕ) → room_to (n + 1) tokens ≡ with_room (room_to n tokens) (tokens (n + 1))
unfolding room_to
room_more tokens n = rw (add-one n) (ap room_for (mapped_more tokens n) ∙ room_behind (filter_map tokens (range_with_len 1 n)) (tokens (suc n)))

pub room_none : (tokens : ℕ → Option ℕ) → room_to 0 tokens ≡ 0
unfolding room_to
room_none tokens = refl

pub number_more : (tokens : ℕ → Option ℕ) (n token : ℕ) → number_to (n + 1) tokens token ≡ option_or (number_to n tokens token) (if_token token (n + 1) (tokens (n + 1)))
unfolding number_to
number_more tokens n token =
    let e : 1 + n ≡ suc n = omega arith in
    rw (add-one n) (ap (find has) (range_more 1 n) ∙ find-append has (range_with_len 1 n) ((1 + n) ∷ [])
    ∙ ap (λ m. option_or (find has (range_with_len 1 n)) (find has (m ∷ []))) e ∙ ap (option_or (find has (range_with_len 1 n))) (by_one (suc n) (tokens (suc n))))
  where
    has : ℕ → Bool
    has number = is_token token (tokens number)

    by_one : (m : ℕ) (o : Option ℕ) → cond (is_token token o) (Some m) None ≡ if_token token m o
    by_one m o = grind arith

pub number_none : (tokens : ℕ → Option ℕ) (token : ℕ) → number_to 0 tokens token ≡ None
unfolding number_to
number_none tokens token = refl

-- members have few parameters
abbrev has_few : ApiMember → Bool
has_few m = nat_le (length m.signature.parameters) 5

all_few : (rows : List ApiMember) → list_all has_few rows ≡ true → (n : ℕ) (m : ApiMember) → slice_get rows n ≡ Some m → has_few m ≡ true
all_few [] all n m e = absurd cc
all_few (row ∷ rows) all zero m e = let P : ApiMember → Type 0 = λ r. has_few r ≡ true in subst P (the_some row m e) (both_true (has_few row) _ all).0
all_few (row ∷ rows) all (suc n) m e = all_few rows (both_true (has_few row) _ all).1 n m e

member_few : (number : ℕ) (m : ApiMember) → member_of number ≡ Some m → has_few m ≡ true
member_few zero m e = absurd cc
member_few (suc n) m e = all_few members refl n m e

pub few_parameters : (number : ℕ) (m : Member) → member_of number ≡ Some (shown m) → length m.parameters.now < 255
few_parameters number m e = let h = leb-true (length m.parameters.now) 5 (member_few number (shown m) e) in omega (arith, h)

-- no more than their numbers
those_few : {A : Type 0} (f : ℕ → Option A) (n : ℕ) → length (those_to n f) ≤ n
those_few f zero = rw (those_none f) (omega arith)
those_few {A = A} f (suc n) = grind (arith, those_suc, length-append, those_few f n)

pub few_classes : (bound : Bound) (which : ApiPackage) → length (those_to last_class (class_shape_of bound which)) ≤ most_classes_of_one
few_classes bound which = let h = those_few (class_shape_of bound which) last_class in omega arith

pub few_methods : (bound : Bound) (class : ApiClass) (n : ℕ) → n ≤ last_member → length (those_to n (method_of bound class)) < 2 ^ 16
few_methods bound class n within = let h = those_few (method_of bound class) n in omega (arith, h, within)
