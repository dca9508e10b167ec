-- What an answer says of the steps that led to it.
use Rattle.std.proofs.Common.{◌≡◌, Option, Some, None, Result, Ok, Err, Bool, true, false, ◌&&◌, cond, ◌⊎◌, subst, arith}
use Rattle.jc_base.specs.Results.{◌>>=◌}

pub bind_ok : {A B E : Type 0} (r : Result A E) (f : A → Result B E) (y : B) → (r >>= f) ≡ Ok y → (x : A) × (r ≡ Ok x) × (f x ≡ Ok y)
bind_ok r f y h1 = grind arith

pub guard_ok : {A E : Type 0} (b : Bool) (r : Result A E) (e : E) (y : A) → cond b r (Err e) ≡ Ok y → (b ≡ true) × (r ≡ Ok y)
guard_ok b r e y h1 = grind arith

pub the_ok : {A E : Type 0} (x y : A) → ◌≡◌ {A = Result A E} (Ok x) (Ok y) → x ≡ y
the_ok x y h = cc

pub the_some : {A : Type 0} (x y : A) → Some x ≡ Some y → x ≡ y
the_some x y h = cc

pub none_some : {A : Type 0} (y : A) → ◌≡◌ {A = Option A} None (Some y) → ⊥
none_some y h = cc

pub ok_err : {A E : Type 0} (x : A) (e : E) → ◌≡◌ {A = Result A E} (Ok x) (Err e) → ⊥
ok_err x e h = cc

pub chosen : {b : Bool} {A : Type 0} → b ≡ true → (x y z : A) → cond b x y ≡ z → x ≡ z
chosen {b} e x y z h = let P : Bool → Type 0 = λ v. cond v x y ≡ z in subst P e h

pub choice : (b : Bool) {A : Type 0} (x y z : A) → cond b x y ≡ z → ((b ≡ true) × (x ≡ z)) ⊎ ((b ≡ false) × (y ≡ z))
choice b x y z h1 = grind arith

pub both_true : (a b : Bool) → a && b ≡ true → (a ≡ true) × (b ≡ true)
both_true a b h1 = grind arith
