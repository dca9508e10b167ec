-- Options of which what is there gives the same, and lists with one element more.
use Rattle.std.proofs.Common.{◌≡◌, ℕ, zero, suc, ◌<◌, ◌||◌, Bool, true, cond, List, [], ◌∷◌, ◌++◌, length, Option, Some, None, refl, ap, ◌∙◌, arith, slice_get}
use Rattle.std.proofs.Math.Path.{fun_ext}
use Rattle.std.proofs.lemmas.Bool.{ltb-true}
use Rattle.std.specs.List.{find, list_any, position}
use Rattle.std.specs.Option.{option_and_then, option_map, option_map_or}

pub the_some : {A : Type 0} (x y : A) → Some x ≡ Some y → x ≡ y
the_some x y h = cc

pub none_some : {A : Type 0} (y : A) → ◌≡◌ {A = Option A} None (Some y) → ⊥
none_some y h = cc

-- ---- what an option came from

pub some_of : {A B : Type 0} (f : A → Option B) (o : Option A) (b : B) → option_and_then f o ≡ Some b → (a : A) × (o ≡ Some a) × (f a ≡ Some b)
some_of f o b h1 = grind (arith, none_some)

pub mapped : {A B : Type 0} (f : A → B) (o : Option A) (b : B) → option_map f o ≡ Some b → (a : A) × (o ≡ Some a) × (f a ≡ b)
mapped f o b h1 = grind (arith, none_some, the_some)

pub chosen_of : {A : Type 0} (b : Bool) (o : Option A) (a : A) → cond b o None ≡ Some a → o ≡ Some a
chosen_of b o a h1 = grind (arith, none_some)

pub chosen_true : {A : Type 0} (b : Bool) (o : Option A) (a : A) → cond b o None ≡ Some a → b ≡ true
chosen_true b o a h1 = grind (arith, none_some)

pub position_below : {A : Type 0} (p : A → Bool) (xs : List A) (i : ℕ) → position p xs ≡ Some i → i < length xs
position_below p xs i e = grind (arith, ltb-true, the_some, none_some)

-- ---- the same of what is there

pub then_same : {A B : Type 0} (f g : A → Option B) (o : Option A) → ((a : A) → o ≡ Some a → f a ≡ g a) → option_and_then f o ≡ option_and_then g o
then_same f g o h1 = grind arith

pub map_same : {A B : Type 0} (f g : A → B) (o : Option A) → ((a : A) → o ≡ Some a → f a ≡ g a) → option_map f o ≡ option_map g o
map_same f g o h1 = grind arith

pub or_same : {A B : Type 0} (f g : A → B) (d : B) (o : Option A) → ((a : A) → o ≡ Some a → f a ≡ g a) → option_map_or f o d ≡ option_map_or g o d
or_same f g d o h1 = grind arith

pub any_same : {A : Type 0} (f g : A → Bool) → ((a : A) → f a ≡ g a) → (xs : List A) → list_any f xs ≡ list_any g xs
any_same f g h xs = ap (λ p. list_any p xs) (fun_ext h)

pub find_same : {A : Type 0} (f g : A → Bool) → ((a : A) → f a ≡ g a) → (xs : List A) → find f xs ≡ find g xs
find_same f g h xs = ap (λ p. find p xs) (fun_ext h)

pub position_same : {A : Type 0} (f g : A → Bool) → ((a : A) → f a ≡ g a) → (xs : List A) → position f xs ≡ position g xs
position_same f g h xs = ap (λ p. position p xs) (fun_ext h)

pub either_same : (a b c d : Bool) → a ≡ c → b ≡ d → (a || b) ≡ (c || d)
either_same a b c d e f = ap (λ x. x || b) e ∙ ap (λ x. c || x) f

pub get_before : {A : Type 0} (xs : List A) (y : A) (i : ℕ) → i < length xs → slice_get (xs ++ y ∷ []) i ≡ slice_get xs i
get_before [] y i h = absurd (omega arith)
get_before (x ∷ xs) y zero h = refl
get_before (x ∷ xs) y (suc i) h = get_before xs y i (omega arith)
